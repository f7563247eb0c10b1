-- What the arbitration's call promises, at each of its returns.
use Prim.Native.Nat.{ℕ, ◌-◌, ◌≤◌, ◌<◌}
use native.Mathlib.Omega.{arith}
use mathlib.Core.Path.{◌≡◌, refl, sym, ap, subst, ◌∙◌}
use mathlib.Core.Bool.{Bool, true, false, cond, ◌||◌, or-false}
use mathlib.Core.List.{List, [], ◌∷◌, ◌++◌, map, zip_with}
use lib.Dec.{eqb, ltb}
use lib.ListN.{length, take, drop, replicate, length-map}
use lib.Seq.{take-append_seam, take_at}
use borrow.Author.Tests.{eq-eqb, ne_eqb, eqb-true, eqb-false, le-ltb}
use Rattle.laws.specs.declared.Refusal.{Refusal}
use Rattle.laws.specs.Buffer.{filled}
use Rattle.laws.specs.Refusals as refusals
use Rattle.laws.specs.Refusals.{check, given, or_else}
use Rattle.laws.specs.Everyone.{Everyone}
use Rattle.laws.proofs.Refusals.{placed, number-below, in_parts}
use Rattle.laws.proofs.Lists.{everyone, everyone-map, zip_with-length}
use Rattle.usi.specs.declared.Usi.{Usi}
use Rattle.arbitration_rules.specs.declared.Arbitrated.{Arbitrated}
use Rattle.arbitration_rules.specs.declared.Seat.{Seat}
use Rattle.arbitration_rules.specs.Limits.{max_masters}
use Rattle.arbitration_rules.specs.Final.{final_master}
use Rattle.arbitration_rules.specs.Masters.{Master}
use Rattle.arbitration_rules.specs.Outcome.{carried_of, loss_from, least, outcome}
use Rattle.arbitration_rules.specs.Reply.{Request, messages_of}
use Rattle.arbitration_rules.specs.Reply.{request_checks, run_of, short_buffer, refusal, absent, seat_of, refused, answered}
use Rattle.arbitration_rules.specs.Reply.{arbitrated, table_after, carried_after, levels_after}
use Rattle.arbitration_rules.proofs.Accepted.{request-numbered}
use Rattle.arbitration_rules.proofs.ClearedFlags.{run-clears}
use Rattle.arbitration_rules.proofs.Cut.{messages-count}
use Rattle.arbitration_rules.proofs.Demand.{Arbitration, least-sendable}
use Rattle.arbitration_rules.proofs.FinalMasters.{final-masters}
use Rattle.arbitration_rules.proofs.Pieces.{Bytes}
use Rattle.arbitration_rules.proofs.Carried.{carried-within}
use Rattle.arbitration.proofs.Given.{found, arbitration, carried-length, few, short as few-acknowledges}
use Rattle.arbitration.proofs.Given.{applies-is as own-parts}
use Rattle.usi.specs.Module.{power_up}
use Rattle.export.specs.Arbitration.{Lent, Returned, gave, short_tables, cleared_of, refusal_of, packed_reply, ran}
use Rattle.export.specs.Arbitration.{returned, count_in, shown_in, packed_seat, Arbitrates}
use Rattle.export.specs.Packed.{packed}
use Rattle.export.proofs.Placed.{request-placed}
use Rattle.export.proofs.TableEntries.{Small, Few, fates-are, final-small, few-seats}
use Rattle.arbitration.specs.Shown as shows
use Rattle.arbitration.specs.Shown.{shown}

module _ (lent : Lent) where
  abbrev request : Request
  request = lent.request

  abbrev pub short : Bool
  short = short_buffer (run_of request) (length lent.carried) (length lent.levels)

  abbrev pub short_table : Bool
  short_table = short_tables (length request.counts) (length lent.modules) (length lent.seats)

  -- one of 12 to 16, or else 8
  applies-is : refusal_of lent ≡ or_else (found request) (given (check 8 (short || short_table) ∷ []))
  unfolding refusal_of
  applies-is =
      in_parts (request_checks request) (check 8 (short || short_table) ∷ []) (request-numbered request)

  pub found-placed : (found request).place < 65536
  found-placed = omega (arith, placed max_masters (request_checks request) (request-placed request))

  found_below : (found request).number < 256
  found_below =
      number-below 256 (request_checks request) (omega arith)
      (omega arith, (omega arith, (omega arith, (omega arith, (omega arith, tt)))))

  -- a refused call
  abbrev pub kept : ℕ → Returned
  kept answer = gave answer lent.carried lent.levels lent.modules lent.seats

  refused-call : (stopped : Refusal) (answer : ℕ) → refusal_of lent ≡ stopped → (stopped.number ≡ 0 → ⊥)
      → stopped.number < 256 → answer ≡ packed_reply (refused stopped) → Arbitrates lent (kept answer)
  unfolding returned refused
  refused-call stopped answer applies refuses small is =
      record {
        returns = rw (applies, ne_eqb stopped.number 0 refuses, is);
        follows = λ unrefused. absurd (refuses (omega (arith, is, small, unrefused)));
      }

  -- refused by one of 12 to 16, whatever the buffers and tables
  pub refused-before : (answer : ℕ) → ((found request).number ≡ 0 → ⊥)
      → answer ≡ packed_reply (refused (found request)) → Arbitrates lent (kept answer)
  refused-before answer refuses is =
      refused-call (found request) answer (applies-is ∙ rw (ne_eqb (found request).number 0 refuses)) refuses
      found_below is

  -- refused by 8, since a buffer or a table is too short
  pub refused-short : (answer : ℕ) → (found request).number ≡ 0 → short || short_table ≡ true → answer ≡ 8
      → Arbitrates lent (kept answer)
  refused-short answer passes too_short is =
      refused-call (refusals.refused_at 8 0) answer
      (applies-is ∙ rw (eq-eqb (found request).number 0 passes, too_short)) (λ e. omega arith) (omega arith)
      (is ∙ eight)
    where
      eight : ◌≡◌ {A = ℕ} 8 (packed_reply (refused (refusals.refused_at 8 0)))
      eight = unfold refused in refl

module _ (lent : Lent) (small : Bytes lent.request.bytes) (passes : (found lent.request).number ≡ 0)
    (enough : short lent ≡ false) (roomy : short_table lent ≡ false) where
  abbrev messages : List (List ℕ)
  messages = messages_of lent.request

  abbrev acks : List ℕ
  acks = lent.request.acknowledges

  unrefused : refusal_of lent ≡ refusals.none
  unrefused = applies-is lent ∙ rw (eq-eqb (found lent.request).number 0 passes, enough, roomy)

  abbrev reply : Arbitrated
  reply = answered (cleared_of lent.request) (run_of lent.request)

  -- the modules and the seats of the masters
  abbrev pub modules : List Usi
  modules = map (λ (m : Master). m.usi) (run_of lent.request).masters

  abbrev pub seats : List Seat
  seats = zip_with seat_of (cleared_of lent.request) (run_of lent.request).masters

  given_so : Arbitration messages acks
  given_so = arbitration lent.request small passes

  -- the flags cleared are few enough for their bits
  seats-few : Everyone Few seats
  seats-few =
      subst (λ (flags : List ℕ). Everyone Few (zip_with seat_of flags (run_of lent.request).masters))
      (sym (run-clears messages acks given_so))
      (few-seats (map (λ (message : List ℕ). 0x03) messages) (run_of lent.request).masters
      (everyone-map (λ (message : List ℕ). 0x03) (everyone (λ message. omega arith) messages)))

  modules-small : Everyone Small modules
  modules-small =
      everyone-map (λ (m : Master). m.usi)
      (subst (Everyone (λ (m : Master). Small m.usi)) (sym (final-masters messages acks given_so))
      (everyone-map (final_master (carried_of messages acks))
      (everyone (λ message. final-small (carried_of messages acks) message
      (loss_from 0 (carried_of messages acks) message)) messages)))

  -- there is one of each for each message
  masters-many : length (run_of lent.request).masters ≡ length lent.request.counts
  masters-many =
      ap length (final-masters messages acks given_so)
      ∙ length-map messages (final_master (carried_of messages acks))
      ∙ messages-count lent.request

  pub modules-many : length modules ≡ length lent.request.counts
  modules-many = length-map (run_of lent.request).masters (λ (m : Master). m.usi) ∙ masters-many

  flags-many : length (cleared_of lent.request) ≡ length lent.request.counts
  flags-many =
      ap length (run-clears messages acks given_so)
      ∙ length-map messages (λ (message : List ℕ). 0x03)
      ∙ messages-count lent.request

  pub seats-many : length seats ≡ length lent.request.counts
  seats-many =
      omega (
        arith,
        zip_with-length seat_of (cleared_of lent.request) (run_of lent.request).masters,
        flags-many,
        masters-many,
      )

  count_small : reply.count < 65536
  unfolding answered
  count_small =
      omega (
        arith,
        carried-length lent.request small passes,
        carried-within (least messages) acks,
        (least-sendable messages given_so).answered,
        few-acknowledges lent.request small passes,
      )

  count-back : count_in (packed_reply reply) ≡ reply.count
  count-back =
      let number : reply.refusal.number ≡ 0 = unfold answered in refl in
      let place : reply.refusal.place ≡ 0 = unfold answered in refl in
      omega (arith, number, place, count_small)

  abbrev got : Returned
  got = ran (cleared_of lent.request) (run_of lent.request) lent

  -- the slices that the library was lent, at the end
  abbrev pub slices : List Usi → shows.Lent
  slices rest = record { table = modules ++ rest; carried = got.carried; levels = got.levels }

  shown-is : (rest : List Usi) → shown_in messages got ≡ shown messages reply (slices rest)
  unfolding shown_in shown answered
  shown-is rest =
      rw (
        count-back,
        messages-count lent.request,
        ← modules-many,
        take-append_seam modules rest,
        fates-are modules seats (replicate (max_masters - length seats) absent) _ _ modules-small seats-few
            (modules-many ∙ sym seats-many),
      )

  pub ran_call : (rest : List Usi) → shown messages reply (slices rest) ≡ outcome messages acks
      → Arbitrates lent got
  unfolding returned
  ran_call rest follows_so =
      record { returns = rw (unrefused); follows = λ zero-so. shown-is rest ∙ follows_so }

-- what the library answers over a table of its own, where the caller's tables are long enough
module _ (lent : Lent) (small : Bytes lent.request.bytes) (roomy : short_table lent ≡ false) where
  abbrev applies : Refusal
  applies = refusal lent.request max_masters (length lent.carried) (length lent.levels)

  abbrev pub library_reply : Arbitrated
  library_reply = arbitrated lent.request max_masters (length lent.carried) (length lent.levels)

  abbrev before : Refusal
  before = found lent.request

  abbrev masters : ℕ
  masters = length lent.request.counts

  abbrev reached : Arbitrated
  reached = answered (cleared_of lent.request) (run_of lent.request)

  -- its own table is long enough for as many masters as 12 lets pass
  applies-in-parts : applies ≡ or_else before (given (check 8 (short lent) ∷ []))
  applies-in-parts = parts ∙ go (eqb before.number 0) refl
    where
      parts : applies ≡ or_else before (given (check 8 (short lent || ltb max_masters masters) ∷ []))
      parts = own-parts lent.request max_masters (length lent.carried) (length lent.levels)

      go : (passes : Bool) → eqb before.number 0 ≡ passes
          → cond passes (given (check 8 (short lent || ltb max_masters masters) ∷ [])) before
          ≡ cond passes (given (check 8 (short lent) ∷ [])) before
      go true is =
          let passes = eqb-true before.number 0 is in
          let within = few lent.request small passes in
          rw (le-ltb max_masters masters within, or-false)
      go false is = refl

  applies-alike : refusal_of lent ≡ applies
  applies-alike = applies-is lent ∙ rw (roomy, or-false) (sym applies-in-parts)

  reply-by : (passing : Bool) → eqb applies.number 0 ≡ passing
      → library_reply ≡ cond passing reached (refused applies)
  unfolding arbitrated
  reply-by passing is = rw is

  stops : (library_reply.refusal.number ≡ 0 → ⊥) → (applies.number ≡ 0 → ⊥) × (library_reply ≡ refused applies)
  unfolding answered
  stops refuses = go (eqb applies.number 0) refl
    where
      go : (passing : Bool) → eqb applies.number 0 ≡ passing
          → (applies.number ≡ 0 → ⊥) × (library_reply ≡ refused applies)
      go true is = absurd (refuses (ap (λ (r : Arbitrated). r.refusal.number) (reply-by true is)))
      go false is = (eqb-false applies.number 0 is, reply-by false is)

  runs : library_reply.refusal.number ≡ 0 → (applies.number ≡ 0) × (library_reply ≡ reached)
  unfolding refused
  runs none_so = go (eqb applies.number 0) refl
    where
      go : (passing : Bool) → eqb applies.number 0 ≡ passing
          → (applies.number ≡ 0) × (library_reply ≡ reached)
      go true is = (eqb-true applies.number 0 is, reply-by true is)
      go false is =
          absurd (eqb-false applies.number 0 is
          (sym (ap (λ (r : Arbitrated). r.refusal.number) (reply-by false is)) ∙ none_so))

  pub applies-small : (applies.place < 65536) × (applies.number < 256)
  applies-small = go (eqb before.number 0) (short lent) applies-in-parts
    where
      go : (passing tight : Bool)
          → applies ≡ cond passing (given (check 8 tight ∷ [])) before
          → (applies.place < 65536) × (applies.number < 256)
      go true true is = rw is (omega arith, omega arith)
      go true false is = rw is (omega arith, omega arith)
      go false tight is = rw is (found-placed lent, found_below lent)

  passing : applies.number ≡ 0 → (before.number ≡ 0) × (short lent ≡ false)
  passing none_so = go (eqb before.number 0) refl (short lent) refl applies-in-parts
    where
      go : (passes : Bool) → eqb before.number 0 ≡ passes → (tight : Bool) → short lent ≡ tight
          → applies ≡ cond passes (given (check 8 tight ∷ [])) before
          → (before.number ≡ 0) × (short lent ≡ false)
      go true zero-so true tight is = absurd (omega (arith, ap (λ (r : Refusal). r.number) is, none_so))
      go true zero-so false roomy-so is = (eqb-true before.number 0 zero-so, roomy-so)
      go false other tight tight-so is =
          absurd (eqb-false before.number 0 other (sym (ap (λ (r : Refusal). r.number) is) ∙ none_so))

  -- no place and no count of its reply is cut
  pub refused-place : (done : Arbitrated) → done ≡ library_reply → (done.refusal.number ≡ 0 → ⊥)
      → done.refusal.place < 65536
  unfolding refused
  refused-place done same refuses =
      let stopped = stops (rw same at refuses) in
      omega (arith, ap (λ (r : Arbitrated). r.refusal.place) (same ∙ stopped.1), applies-small.0)

  pub masters-few : (done : Arbitrated) → done ≡ library_reply → done.refusal.number ≡ 0
      → masters ≤ max_masters
  masters-few done same none_so =
      let ran-so = runs (rw same at none_so) in
      few lent.request small (passing ran-so.0).0

  pub answered-small : (done : Arbitrated) → done ≡ library_reply → done.refusal.number ≡ 0
      → (done.refusal.place < 65536) × (done.count < 65536)
  answered-small done same none_so =
      let ran-so = runs (rw same at none_so) in
      let two = passing ran-so.0 in
      let place : reached.refusal.place ≡ 0 = unfold answered in refl in (
        omega (arith, ap (λ (r : Arbitrated). r.refusal.place) (same ∙ ran-so.1), place),
        omega (
          arith,
          ap (λ (r : Arbitrated). r.count) (same ∙ ran-so.1),
          count_small lent small two.0 two.1 roomy,
        ),
      )

  pub refused-by-library : (reply : Arbitrated) (answer : ℕ) (exit levels_exit : List ℕ) → reply ≡ library_reply
      → (reply.refusal.number ≡ 0 → ⊥) → answer ≡ packed_reply (refused reply.refusal)
      → exit ≡ carried_after lent.request reply.refusal lent.carried
      → levels_exit ≡ levels_after lent.request reply.refusal lent.levels
      → Arbitrates lent (gave answer exit levels_exit lent.modules lent.seats)
  unfolding carried_after levels_after
  refused-by-library reply answer exit levels_exit same refuses is carried-is levels_are =
      let stopped = stops (rw same at refuses) in
      let its : reply.refusal ≡ applies = ap (λ (r : Arbitrated). r.refusal) (same ∙ stopped.1) ∙ of-refused in
      let zero-not = ne_eqb applies.number 0 stopped.0 in
      let kept-bytes : exit ≡ lent.carried = carried-is ∙ rw (its, zero-not) in
      let kept-levels : levels_exit ≡ lent.levels = levels_are ∙ rw (its, zero-not) in
      rw (kept-bytes, kept-levels)
      (refused-call lent applies answer applies-alike stopped.0 applies-small.1 (is ∙ rw its))
    where
      of-refused : (refused applies).refusal ≡ applies
      of-refused = unfold refused in refl

  -- a run: what the library's table and buffers hold, and what of it is put into the tables
  pub answered-by-library : (done : Arbitrated) (answer : ℕ) (table : List Usi)
      (exit levels_exit entries numbers : List ℕ)
      → done ≡ library_reply → done.refusal.number ≡ 0 → answer ≡ packed_reply done
      → table ≡ table_after lent.request done.refusal (replicate max_masters (power_up 0 0))
      → exit ≡ carried_after lent.request done.refusal lent.carried
      → levels_exit ≡ levels_after lent.request done.refusal lent.levels
      → entries ≡ filled (map packed (take masters table)) lent.modules
      → numbers ≡ filled (map packed_seat (take masters done.seats)) lent.seats
      → (done.refusal.number ≡ 0
      → shown (messages_of lent.request) done (record { table = table; carried = exit; levels = levels_exit })
      ≡ outcome (messages_of lent.request) lent.request.acknowledges)
      → Arbitrates lent (gave answer exit levels_exit entries numbers)
  unfolding table_after carried_after levels_after answered
  answered-by-library done answer table exit levels_exit entries numbers same none_so is table_is carried-is levels_are
      entries-are numbers-are follows_so =
      let ran-so = runs (rw same at none_so) in
      let its : done ≡ reached = same ∙ ran-so.1 in
      let zero-so : eqb done.refusal.number 0 ≡ true = eq-eqb done.refusal.number 0 none_so in
      let bytes-are : exit ≡ filled (run_of lent.request).carried lent.carried = carried-is ∙ rw zero-so in
      let recorded-are : levels_exit ≡ filled (run_of lent.request).levels lent.levels =
      levels_are ∙ rw zero-so in
      let two = passing ran-so.0 in
      let own = modules lent small two.0 two.1 roomy in
      let rest = drop (length own) (replicate max_masters (power_up 0 0)) in
      let whole : table ≡ own ++ rest = table_is ∙ rw zero-so in
      let front : take masters table ≡ own =
      ap (take masters) whole
      ∙ take_at own rest masters (modules-many lent small two.0 two.1 roomy) in
      let sitting = seats lent small two.0 two.1 roomy in
      let seated : take masters done.seats ≡ sitting =
      ap (λ (r : Arbitrated). take masters r.seats) its
      ∙ take_at sitting (replicate (max_masters - length sitting) absent) masters
      (seats-many lent small two.0 two.1 roomy) in
      rw (is, entries-are, numbers-are, front, seated, bytes-are, recorded-are, its)
      (ran_call lent small two.0 two.1 roomy rest
      (rw (← bytes-are, ← recorded-are, ← whole, ← its) (follows_so none_so)))
