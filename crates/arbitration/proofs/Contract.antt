-- What an arbitration promises: refused, or run to its end.
use Prim.Native.Nat.{ℕ, ◌-◌, ◌≤◌}
use mathlib.Core.Path.{◌≡◌, refl, sym, ap, ◌∙◌}
use mathlib.Core.List.{List, [], ◌∷◌, ◌++◌, map, zip_with}
use native.Mathlib.Omega.{arith}
use borrow.Author.Tests.{ne_eqb}
use Rattle.std.specs.Prelude.{Result, Ok, Err}
use lib.ListN.{length, take, drop, replicate, length-map}
use lib.Seq.{take-append_seam}
use Rattle.laws.specs.declared.Refusal.{Refusal}
use Rattle.laws.specs.Buffer.{filled}
use Rattle.laws.specs.Refusals.{none}
use Rattle.arbitration_rules.specs.declared.Arbitrated.{Arbitrated}
use Rattle.arbitration_rules.specs.declared.Seat.{Seat}
use Rattle.arbitration_rules.specs.Limits.{max_masters}
use Rattle.arbitration_rules.specs.Masters.{Master}
use Rattle.arbitration_rules.specs.Outcome.{Fate, least, level_count}
use Rattle.arbitration_rules.specs.Reply.{Request, sent_of, lengths_of, messages_of, refusal, absent, refused, padded}
use Rattle.arbitration_rules.specs.Reply.{seat_of, run_of, answered, arbitrated, table_after, carried_after, levels_after}
use Rattle.arbitration_rules.specs.Run.{Bus, fate_of, observed}
use Rattle.arbitration_rules.specs.Cleared.{cleared_by}
use Rattle.arbitration_rules.proofs.Cut.{lengths-count, messages-count}
use Rattle.arbitration_rules.proofs.Pieces.{Bytes}
use Rattle.arbitration_rules.proofs.Accepted.{answered-outcome, refused-by-16}
use Rattle.arbitration_rules.proofs.ClearedFlags.{run-clears}
use Rattle.arbitration_members.specs.Members as members
use Rattle.arbitration_members.specs.Rows.{rows_of}
use Rattle.arbitration_run.specs.Sequence.{first}
use Rattle.arbitration_turns.specs.Turns.{Turn, Reached}
use Rattle.arbitration_turns.proofs.Ran as ran
use Rattle.arbitration.specs.Shown as shows
use Rattle.arbitration.specs.Shown.{Lent, shown, cleared_in, all_cleared, OnlyUndecided, Arbitrates}
use Rattle.arbitration.specs.declared.prepare.Prepared.{Prepared}
use Rattle.arbitration.specs.Prepared.{begun, prepared, replied_by}
use Rattle.arbitration.proofs.Given.{arbitration, whole, short, carried-length, levels-length}
use Rattle.arbitration.proofs.Given.{Unrefused, unrefused-gives}
use Rattle.arbitration.proofs.Preparing.{runs, stops}

-- seats that differ in nothing but the master
seats-alike : {A : Type 0} (flags : ℕ) (list : List A) (masters : List Master) → length masters ≡ length list
    → zip_with seat_of (map (λ (a : A). flags) list) masters ≡ map (seat_of flags) masters
unfolding zip_with
seats-alike flags [] [] same = refl
seats-alike flags [] (master ∷ masters) same = absurd (omega arith)
seats-alike flags (a ∷ list) [] same = absurd (omega arith)
seats-alike flags (a ∷ list) (master ∷ masters) same =
    ap (λ (seats : List Seat). seat_of flags master ∷ seats) (seats-alike flags list masters (omega arith))

same-cleared : (masters : List Master)
    → map (λ (seat : Seat). seat.cleared) (map (seat_of members.writes_clear) masters) ≡ all_cleared (length masters)
same-cleared [] = refl
same-cleared (master ∷ masters) = ap (λ (flags : List ℕ). members.writes_clear ∷ flags) (same-cleared masters)

-- how a call ends that was prepared so: a run where its last turn left it, and its reply; a refusal with the slices as
-- they were
pub data Ended (request : Request) (entry : Lent) : Result Prepared Refusal → Lent → Arbitrated → Type 0 where
  after-run : (ready : Prepared) (final : Turn)
      → Reached (length request.counts) ready.rows request.acknowledges
      (record {
        sequencer = ready.first;
        table = entry.table;
        carried = entry.carried;
        levels = entry.levels;
      })
      final
      → (reply : Arbitrated) → reply ≡ replied_by final.sequencer (length request.counts)
      → Ended request entry (Ok ready)
      (record { table = final.table; carried = final.carried; levels = final.levels }) reply
  after-refusal : (r : Refusal) (reply : Arbitrated) → reply ≡ refused r → Ended request entry (Err r) entry reply

module _ (request : Request) (entry : Lent) where
  abbrev messages : List (List ℕ)
  messages = messages_of request

  abbrev acknowledges : List ℕ
  acknowledges = request.acknowledges

  abbrev lengths : List ℕ
  lengths = lengths_of request

  abbrev count : ℕ
  count = length lengths

  abbrev Promise : Lent → Arbitrated → Type 0
  Promise exit reply = Arbitrates request entry exit reply

  abbrev what_applies : Refusal
  what_applies =
      refusal request (length entry.table) (length entry.carried) (length entry.levels)

  only-undecided : OnlyUndecided request entry what_applies
  only-undecided count sizes reading answers enough =
      refused-by-16 request (length entry.table) (length entry.carried)
      (length entry.levels) count sizes reading answers enough

  -- a refused reply, and the slices as they were
  pub refused-clauses : (stopped : Refusal) (reply : Arbitrated) → what_applies ≡ stopped → (stopped.number ≡ 0 → ⊥)
      → reply ≡ refused stopped → Promise entry reply
  unfolding arbitrated table_after carried_after levels_after refused
  refused-clauses stopped reply applies some is =
      let same : reply.refusal ≡ stopped = ap (λ (r : Arbitrated). r.refusal) is in
      let not_None = ne_eqb stopped.number 0 some in
      record {
        replies = rw (applies, not_None) is;
        stepped = rw (same, not_None);
        carried = rw (same, not_None);
        recorded = rw (same, not_None);
        follows = λ unrefused. absurd (some (sym (ap (λ (r : Refusal). r.number) same) ∙ unrefused));
        clears = λ unrefused. absurd (some (sym (ap (λ (r : Refusal). r.number) same) ∙ unrefused));
        refuses =
            λ count sizes reading answers enough.
            same ∙ sym applies ∙ only-undecided count sizes reading answers enough;
      }

  -- the run of what is not refused
  module _ (small : Bytes request.bytes) (accepted : what_applies.number ≡ 0) where
    abbrev bus : Bus
    bus = run_of request

    held : Unrefused request (length entry.table) (length entry.carried)
        (length entry.levels)
    held =
        unrefused-gives request (length entry.table) (length entry.carried)
        (length entry.levels) small accepted

    unrefused : what_applies ≡ none
    unrefused = held.none-applies

    few : count ≤ max_masters
    few = omega (arith, lengths-count request, held.masters)

    room : count ≤ length entry.table
    room = omega (arith, lengths-count request, held.enough)

    module _ (final : Turn)
        (reached : Reached count (rows_of messages) acknowledges
        (record {
          sequencer = first lengths;
          table = entry.table;
          carried = entry.carried;
          levels = entry.levels;
        })
        final) where
      abbrev exit : Lent
      exit = record { table = final.table; carried = final.carried; levels = final.levels }

      many : length bus.masters ≡ count
      many =
          ran.as-many-masters (sent_of request) lengths acknowledges few (short request small held.passed)
          (whole request small held.passed) entry.table room
          entry.carried entry.levels held.carries held.records final reached

      sent_is : final.sequencer.sent ≡ length bus.carried
      sent_is =
          ran.sent_is (sent_of request) lengths acknowledges few (short request small held.passed)
          (whole request small held.passed) entry.table room
          entry.carried entry.levels held.carries held.records final reached

      carried-is : final.carried ≡ filled bus.carried entry.carried
      carried-is =
          ran.carried-is (sent_of request) lengths acknowledges few (short request small held.passed)
          (whole request small held.passed) entry.table room
          entry.carried entry.levels held.carries held.records final reached

      levels_are : final.levels ≡ filled bus.levels entry.levels
      levels_are =
          ran.levels_are (sent_of request) lengths acknowledges few (short request small held.passed)
          (whole request small held.passed) entry.table room
          entry.carried entry.levels held.carries held.records final reached

      modules-are : final.table ≡ filled (map (λ (m : Master). m.usi) bus.masters) entry.table
      modules-are =
          ran.table_is (sent_of request) lengths acknowledges few (short request small held.passed)
          (whole request small held.passed) entry.table room
          entry.carried entry.levels held.carries held.records final reached
          ∙ ap (λ (n : ℕ). map (λ (m : Master). m.usi) bus.masters ++ drop n entry.table)
          (sym (length-map bus.masters (λ (m : Master). m.usi) ∙ many))

      -- each master's writes cleared STTIFG and IFG
      abbrev standing : List Seat
      standing = map (seat_of members.writes_clear) bus.masters

      cleared-alike : zip_with seat_of (cleared_by messages acknowledges) bus.masters ≡ standing
      cleared-alike =
          ap (λ (flags : List ℕ). zip_with seat_of flags bus.masters)
          (run-clears messages acknowledges (arbitration request small held.passed))
          ∙ seats-alike members.writes_clear messages bus.masters (many ∙ lengths-count request ∙ sym (messages-count request))

      seats-are : members.seats final.sequencer.members.contending final.sequencer.members.positions
          count
          ≡ padded absent standing
      seats-are =
          let left : max_masters - count ≡ max_masters - length standing =
          omega (arith, length-map bus.masters (seat_of members.writes_clear), many) in
          ran.seats-are (sent_of request) lengths acknowledges few (short request small held.passed)
          (whole request small held.passed) entry.table room
          entry.carried entry.levels held.carries held.records final reached
          ∙ ap (λ (n : ℕ). standing ++ replicate n absent) left

      abbrev answer : Arbitrated
      answer = answered (cleared_by messages acknowledges) bus

      replied : replied_by final.sequencer count ≡ answer
      unfolding replied_by answered
      replied = rw (sent_is, seats-are, cleared-alike)

      -- what demand 3 compares
      fates-are : (masters : List Master) (seats : List Seat)
          → zip_with shows.fate_of (map (λ (m : Master). m.usi) masters)
          (map (seat_of members.writes_clear) masters ++ seats)
          ≡ map fate_of masters
      unfolding zip_with
      fates-are [] seats = refl
      fates-are (master ∷ masters) seats =
          ap (λ (fates : List Fate). fate_of master ∷ fates) (fates-are masters seats)

      shown-is : shown messages answer exit ≡ observed bus
      unfolding shown observed answered
      shown-is =
          let k-is : level_count (take (length bus.carried) (least messages)) ≡ length bus.levels =
          ap (λ (n : ℕ). level_count (take n (least messages))) (carried-length request small held.passed)
          ∙ sym (levels-length request small held.passed) in
          let masters-count : length messages ≡ count = messages-count request ∙ sym (lengths-count request) in
          let modules = map (λ (m : Master). m.usi) bus.masters in
          rw (
            cleared-alike,
            modules-are,
            carried-is,
            levels_are,
            k-is,
            masters-count,
            take-append_seam bus.carried (drop (length bus.carried) entry.carried),
            take-append_seam bus.levels (drop (length bus.levels) entry.levels),
            ← many,
            ← length-map bus.masters (λ (m : Master). m.usi),
            take-append_seam modules (drop (length modules) entry.table),
            fates-are bus.masters (replicate (max_masters - length standing) absent),
          )

      -- and of those that have a message
      clears-are : cleared_in count answer ≡ all_cleared count
      unfolding answered
      clears-are =
          rw (
            cleared-alike,
            ← many,
            ← length-map bus.masters (seat_of members.writes_clear),
            take-append_seam standing (replicate (max_masters - length standing) absent),
            length-map bus.masters (seat_of members.writes_clear),
          ) (same-cleared bus.masters)

      ran-clauses : (reply : Arbitrated) → reply ≡ replied_by final.sequencer count → Promise exit reply
      unfolding arbitrated table_after carried_after levels_after
      ran-clauses reply is =
          let same : reply ≡ answer = is ∙ replied in
          let no-refusal : reply.refusal ≡ none = ap (λ (r : Arbitrated). r.refusal) same ∙ answered-none in
          record {
            replies = rw (unrefused) same;
            stepped = rw (no-refusal) modules-are;
            carried = rw (no-refusal) carried-is;
            recorded = rw (no-refusal) levels_are;
            follows =
                λ unrefused-so.
                ap (λ (r : Arbitrated). shown messages r exit) same
                ∙ shown-is
                ∙ answered-outcome request (length entry.table) (length entry.carried)
                (length entry.levels) small accepted;
            clears =
                λ unrefused-so.
                ap (λ (n : ℕ). cleared_in n reply) (sym (lengths-count request))
                ∙ ap (λ (r : Arbitrated). cleared_in count r) same ∙ clears-are
                ∙ ap all_cleared (lengths-count request);
            refuses =
                λ count sizes reading answers room-enough.
                no-refusal ∙ sym unrefused ∙ only-undecided count sizes reading answers room-enough;
          }
        where
          answered-none : answer.refusal ≡ none
          answered-none = unfold answered in refl

  -- what was prepared, and where it ended
  pub run-clauses : Bytes request.bytes → what_applies.number ≡ 0 → (ready : Prepared) → begun request ≡ ready
      → (final : Turn)
      → Reached (length request.counts) ready.rows acknowledges
      (record {
        sequencer = ready.first;
        table = entry.table;
        carried = entry.carried;
        levels = entry.levels;
      })
      final
      → (reply : Arbitrated) → reply ≡ replied_by final.sequencer (length request.counts)
      → Promise (record { table = final.table; carried = final.carried; levels = final.levels }) reply
  run-clauses small accepted ready is final reached reply replies =
      let first-is = ap (λ (p : Prepared). p.first) is in
      let rows-are = ap (λ (p : Prepared). p.rows) is in
      ran-clauses small accepted final (rw (lengths-count request, first-is, rows-are) reached) reply
      (rw (lengths-count request) replies)

  -- what was prepared, a run or a refusal, and how it ended
  pub promised : Bytes request.bytes → (outcome : Result Prepared Refusal)
      → outcome ≡ prepared request (length entry.table) (length entry.carried) (length entry.levels)
      → (exit : Lent) (reply : Arbitrated) → Ended request entry outcome exit reply → Promise exit reply
  promised small (Ok ready) is exit reply (after-run _ final reached _ replies) =
      let known = runs request (length entry.table) (length entry.carried) (length entry.levels) ready (sym is) in
      run-clauses small known.0 ready known.1 final reached reply replies
  promised small (Err r) is exit reply (after-refusal _ _ refuses) =
      let known = stops request (length entry.table) (length entry.carried) (length entry.levels) r (sym is) in
      refused-clauses r reply known.0 known.1 refuses
