-- A round that is due: its request is refused by nothing, so its arbitration is that of the messages that wait.
use Prim.Native.Nat.{ℕ, zero, suc, ◌*◌, ◌≤◌, ◌<◌}
use native.Mathlib.Omega.{arith}
use mathlib.Core.Path.{◌≡◌, refl, sym, ap, ap₂, subst, ◌∙◌}
use mathlib.Core.Bool.{true, false, false≢true}
use mathlib.Core.List.{List, [], ◌∷◌, ◌++◌, map, zip_with}
use lib.Dec.{eqb, ltb}
use lib.ListN.{length, take, replicate, length-take}
use lib.Seq.{length-take-le}
use borrow.Author.Tests.{eq-eqb, ne_eqb, le-ltb, ltb-false}
use Rattle.laws.specs.Everyone.{Everyone, nobody, also}
use Rattle.laws.specs.Refusals.{check, none}
use Rattle.laws.specs.Search.{any}
use Rattle.laws.proofs.Bools.{neither}
use Rattle.laws.proofs.Lists.{everyone-so, any_none, any_false}
use Rattle.laws.proofs.Refusals.{Passed, passed, unrefused}
use Rattle.usi.specs.declared.Usi.{Usi}
use Rattle.arbitration_rules.specs.declared.Arbitrated.{Arbitrated}
use Rattle.arbitration_rules.specs.Limits.{max_masters, max_length}
use Rattle.arbitration_rules.specs.Cleared.{cleared_by}
use Rattle.arbitration_rules.specs.Outcome.{restarts, sent_at, least, carried_count, carried_of, level_count}
use Rattle.arbitration_rules.specs.Outcome.{undecided}
use Rattle.arbitration_rules.specs.Run.{run}
use Rattle.arbitration_rules.specs.Reply.{Request, asked, cut, total, parts_of, lengths_of, messages_of, bad_count}
use Rattle.arbitration_rules.specs.Reply.{bad_lengths}
use Rattle.arbitration_rules.specs.Reply.{bad_message, bad_messages, itself, is_empty, reads, longest, above_one}
use Rattle.arbitration_rules.specs.Reply.{bad_acknowledges, request_checks, run_of, short_slice, refusal, answered}
use Rattle.arbitration_rules.specs.Reply.{arbitrated, table_after}
use Rattle.arbitration_rules.proofs.Cut.{messages-count, lengths-count, cut-count}
use Rattle.arbitration_rules.proofs.Pieces.{Bytes, Good, parts-total}
use Rattle.arbitration_rules.proofs.Accepted.{Shaped, shaped, as_many, sound-lengths, few-acknowledges}
use Rattle.arbitration_rules.proofs.Demand.{Arbitration, least-sendable}
use Rattle.arbitration_rules.proofs.Carried.{carried-count}
use Rattle.arbitration_rules.proofs.RecordedLevels.{byte-count, levels-count}
use Rattle.arbitration_messages.specs.Marks.{max_sent}
use Rattle.arbitration_checks.proofs.Carried.{restarts-few}
use Rattle.arbitration.specs.declared.Rehearsed.{Rehearsed}
use Rattle.arbitration.specs.Shown.{Lent, Arbitrates}
use Rattle.night_rules.specs.Night.{waiting, waits, night_checks, night_refusal}
use Rattle.night_rules.proofs.Accepted.{night-numbered, admitted}
use Rattle.night_rules.proofs.Round.{waiting-so, waiting-admitted, round-arbitration}
use Rattle.night.specs.Waiting.{waiting_in}
use Rattle.night.specs.Round.{contenders, heard, contest_of, Contested}
use Rattle.night.proofs.Again.{again, again-counts, again-parts, again-messages, bodies-lengths, owned}
use Rattle.night.proofs.Again.{waiting-ones, waiting-sizes, cut-lengths, none-bad, joined_length, joined-total}

-- the first of sixteen ones
pub take-ones : (n : ℕ) → n ≤ max_masters → take {A = ℕ} n (replicate max_masters 1) ≡ replicate n 1
take-ones n few = go n max_masters few
  where
    go : (n most : ℕ) → n ≤ most → take {A = ℕ} n (replicate most 1) ≡ replicate n 1
    go zero most few = refl
    go (suc n) zero few = absurd (omega arith)
    go (suc n) (suc most) few = ap (λ (l : List ℕ). 1 ∷ l) (go n most (omega arith))

-- the most levels
levels-within : (k : ℕ) (message : List ℕ) → length message ≤ max_length → restarts (sent_at 0 message) ≡ false
    → level_count (take k message) ≤ 1346
levels-within zero message short first = omega arith
levels-within (suc k) [] short first = omega arith
levels-within (suc k) (sent ∷ message) short first =
    rw first (omega (arith, restarts-few (take k message), length-take k message))

-- how much all messages have
own-length : (parts : List ℕ) → any is_empty parts ≡ false → length parts ≤ total parts
own-length [] full = omega arith
own-length (zero ∷ parts) full = absurd (false≢true (sym full))
own-length (suc part ∷ parts) full =
    let rest = own-length parts (neither (is_empty (suc part)) (any is_empty parts) full).1 in
    omega (arith, rest)

sizes-within : {all : List (List ℕ)} → Everyone Good all
    → (total (map length all) ≤ total (map total all)) × (total (map total all) ≤ max_length * length all)
sizes-within nobody = (omega arith, omega arith)
sizes-within (also {a = parts} good more) =
    let rest = sizes-within more in (
      omega (arith, rest.0, own-length parts good.full),
      omega (arith, rest.1, good.short),
    )

-- those that wait are no more and no longer than all
waiting-count : (rounds : List ℕ) (lists : List (List ℕ)) → length (waiting rounds lists) ≤ length lists
waiting-count [] lists = omega arith
waiting-count (round ∷ rounds) [] = omega arith
waiting-count (zero ∷ rounds) (list ∷ lists) = omega (arith, waiting-count rounds lists)
waiting-count (suc round ∷ rounds) (list ∷ lists) = omega (arith, waiting-count rounds lists)

waiting-longest : (size : List ℕ → ℕ) (rounds : List ℕ) (lists : List (List ℕ))
    → longest (map size (waiting rounds lists)) ≤ longest (map size lists)
waiting-longest size [] lists = omega arith
waiting-longest size (round ∷ rounds) [] = omega arith
waiting-longest size (zero ∷ rounds) (list ∷ lists) = omega (arith, waiting-longest size rounds lists)
waiting-longest size (suc round ∷ rounds) (list ∷ lists) = omega (arith, waiting-longest size rounds lists)

someone-waiting : (rounds : List ℕ) (lists : List (List ℕ)) → any waits (take (length lists) rounds) ≡ true
    → 0 < length (waiting rounds lists)
someone-waiting [] [] some = absurd (false≢true some)
someone-waiting [] (list ∷ lists) some = absurd (false≢true some)
someone-waiting (round ∷ rounds) [] some = absurd (false≢true some)
someone-waiting (zero ∷ rounds) (list ∷ lists) some = omega arith
someone-waiting (suc round ∷ rounds) (list ∷ lists) some =
    let rest : any waits (take (length lists) rounds) ≡ true =
    rw (ne_eqb (suc round) 0 (λ e. omega arith)) at some in
    someone-waiting rounds lists rest

-- a request that no refusal of a night turns down
module _ (request : Request) (passes : (night_refusal request max_masters max_masters).number ≡ 0) where
  all-passed : Passed (night_checks request max_masters max_masters)
  unfolding night_refusal
  all-passed =
      passed (night_checks request max_masters max_masters) (night-numbered request max_masters max_masters) passes

  pub few : length request.counts ≤ max_masters
  few =
      ltb-false max_masters (length request.counts)
      (neither (eqb (length request.counts) 0) (ltb max_masters (length request.counts)) all-passed.0).1

  form : Shaped request
  form = shaped request all-passed.1.0

  bytes-long : total (lengths_of request) ≡ length request.bytes
  bytes-long = parts-total request form.counted ∙ form.summed

  pub parts_within : length request.parts ≤ max_sent
  parts_within =
      omega (
        arith,
        few,
        form.counted,
        ap total (cut-lengths request.counts request.parts (omega (arith, form.counted))),
        (sizes-within form.good).0,
        (sizes-within form.good).1,
        cut-count request.counts request.parts,
      )

  pub bytes-within : length request.bytes ≤ max_sent
  bytes-within =
      omega (
        arith,
        few,
        bytes-long,
        (sizes-within form.good).1,
        cut-count request.counts request.parts,
      )

  pub lengths-few : length (lengths_of request) ≤ max_masters
  lengths-few = omega (arith, few, lengths-count request)

  module _ (rounds : List ℕ) where
    abbrev waiters : List (List ℕ)
    waiters = contenders request rounds

    abbrev asks : Request
    asks = again rounds request (heard request rounds)

    abbrev counted' : total request.counts ≤ length request.parts
    counted' = omega (arith, form.counted)

    abbrev summed' : total (lengths_of request) ≤ length request.bytes
    summed' = omega (arith, bytes-long)

    -- the lengths of those that wait
    waiters-lengths : map length waiters ≡ map total (owned rounds request (heard request rounds))
    waiters-lengths =
        waiting-sizes length total rounds (messages_of request) (parts_of request)
        (sound-lengths request all-passed.1.0)

    pub needed-is : waiting_in rounds (replicate (length (lengths_of request)) 1) (lengths_of request)
        ≡ map length waiters
    needed-is =
        waiting-ones rounds (lengths_of request) (messages_of request) length
        (sound-lengths request all-passed.1.0)

    pub needed-within : longest (map length waiters) ≤ length request.acknowledges
    needed-within =
        omega (
          arith,
          waiting-longest length rounds (messages_of request),
          ap longest (sound-lengths request all-passed.1.0),
          (as_many request all-passed.1.1.1.0).0,
        )

    asks-messages : messages_of asks ≡ waiters
    asks-messages = again-messages rounds request (heard request rounds) counted' summed'

    asks-counts : asks.counts ≡ map length (owned rounds request (heard request rounds))
    asks-counts = again-counts rounds request (heard request rounds) counted' summed'

    asks-parts : parts_of asks ≡ owned rounds request (heard request rounds)
    asks-parts = again-parts rounds request (heard request rounds) counted' summed'

    many : length asks.counts ≡ length waiters
    many = sym (messages-count asks) ∙ ap length asks-messages

    fewer : length waiters ≤ max_masters
    fewer = omega (arith, waiting-count rounds (messages_of request), messages-count request, few)

    form-13 : bad_lengths asks ≡ false
    form-13 =
        let mine = owned rounds request (heard request rounds) in
        let good : any itself (bad_messages asks) ≡ false =
        ap₂ (λ (l : List ℕ) (k : List (List ℕ)). any itself (zip_with bad_message l k)) asks-counts asks-parts
        ∙ none-bad (waiting-so rounds form.good) in
        let counted : total asks.counts ≡ length asks.parts =
        ap total asks-counts ∙ joined_length mine in
        let summed : total asks.parts ≡ length asks.bytes =
        joined-total mine
        ∙ ap total (sym (bodies-lengths rounds request (heard request rounds) counted' summed'))
        ∙ joined_length (waiting rounds (cut (lengths_of request) request.bytes)) in
        rw (
          good,
          eq-eqb (total asks.counts) (length asks.parts) counted,
          eq-eqb (total asks.parts) (length asks.bytes) summed,
        )

    form-14 : any reads (messages_of asks) ≡ false
    form-14 =
        ap (any reads) asks-messages
        ∙ any_none (waiting-so rounds (any_false reads (messages_of request) all-passed.1.1.0))

    heard-length : length (heard request rounds) ≡ longest (map length waiters)
    heard-length = length-take-le (longest (map length waiters)) request.acknowledges needed-within

    -- what is due
    module _ (small : Bytes request.bytes) (someone : any waits (take (length request.counts) rounds) ≡ true)
      where
        abbrev answers : List ℕ
        answers = heard request rounds

        pub arbitrates : Arbitration waiters answers
        arbitrates =
            round-arbitration waiters request.acknowledges
            (waiting-admitted rounds (admitted request max_masters max_masters small passes))
            (someone-waiting rounds (messages_of request)
            (ap (λ (n : ℕ). any waits (take n rounds)) (messages-count request) ∙ someone))

        form-12 : bad_count asks ≡ false
        form-12 =
            rw (
              ne_eqb (length asks.counts) 0 (λ e. omega (arith, many, arbitrates.someone)),
              le-ltb max_masters (length asks.counts) (omega (arith, many, fewer)),
            )

        form-15 : bad_acknowledges asks ≡ false
        form-15 =
            let same : length answers ≡ longest (lengths_of asks) =
            heard-length ∙ ap longest (waiters-lengths ∙ ap (map total) (sym asks-parts)) in
            rw (
              eq-eqb (length answers) (longest (lengths_of asks)) same,
              any_none {f = above_one} (everyone-so (λ acknowledge low. le-ltb 1 acknowledge low) arbitrates.bits),
            )

        form-16 : undecided (messages_of asks) answers ≡ false
        form-16 = ap (λ (l : List (List ℕ)). undecided l answers) asks-messages ∙ arbitrates.decided

        -- the run, and the room for it
        run_is : run_of asks ≡ contest_of request rounds
        run_is = ap (λ (l : List (List ℕ)). run l answers) asks-messages

        short-answers : length answers ≤ max_length
        short-answers =
            omega (
              arith,
              heard-length,
              needed-within,
              few-acknowledges request all-passed.1.0 all-passed.1.1.1.0,
            )

        short-least : length (least waiters) ≤ max_length
        short-least = omega (arith, short-answers, (least-sendable waiters arbitrates).answered)

        carried-room : length (contest_of request rounds).carried ≤ max_length
        carried-room =
            omega (
              arith,
              byte-count waiters answers arbitrates,
              carried-count (least waiters) answers,
              length-take (carried_count (least waiters) answers) (least waiters),
              short-least,
            )

        levels-room : length (contest_of request rounds).levels ≤ 1346
        unfolding carried_of
        levels-room =
            omega (
              arith,
              levels-count waiters answers arbitrates,
              levels-within (carried_count (least waiters) answers) (least waiters) short-least
                  (least-sendable waiters arbitrates).first,
            )

        form-8 : short_slice asks max_masters max_length 1346 ≡ false
        form-8 =
            rw (
              run_is,
              le-ltb max_length (length (contest_of request rounds).carried) carried-room,
              le-ltb 1346 (length (contest_of request rounds).levels) levels-room,
              le-ltb max_masters (length asks.counts) (omega (arith, many, fewer)),
            )

        none-refused : refusal asks max_masters max_length 1346 ≡ none
        unfolding refusal
        none-refused =
            unrefused (request_checks asks ++ check 8 (short_slice asks max_masters max_length 1346) ∷ [])
            (form-12, (form-13, (form-14, (form-15, (form-16, (form-8, tt))))))

        -- what it shows
        pub contested : (entry exit : Lent) (modules : List Usi) (shown : Rehearsed) → length entry.table ≡
            max_masters
            → length entry.carried ≡ max_length → length entry.levels ≡ 1346 → entry.table ≡ modules
            → exit.table ≡ shown.modules → Arbitrates asks entry exit shown.reply
            → Contested request rounds modules shown
        unfolding arbitrated answered table_after
        contested entry exit modules shown table carried levels held given_back promise =
            let replied : shown.reply ≡ answered (cleared_by waiters answers) (contest_of request rounds) =
            promise.replies
            ∙ rw (table, carried, levels, none-refused)
            (ap₂ answered (ap (λ (l : List (List ℕ)). cleared_by l answers) asks-messages) run_is) in
            record {
              seats = ap (λ (r : Arbitrated). r.seats) replied;
              left =
                  sym given_back ∙ promise.stepped
                  ∙ rw (replied, held, run_is);
            }

        -- of what was lent anew
        pub lent-anew : (bytes parts counts acknowledges : List ℕ) (entry exit : Lent) (modules : List Usi)
            (shown : Rehearsed)
            → length entry.table ≡ max_masters → length entry.carried ≡ max_length
            → length entry.levels ≡ 1346 → entry.table ≡ modules → exit.table ≡ shown.modules
            → bytes ≡ asks.bytes → parts ≡ asks.parts → counts ≡ asks.counts → acknowledges ≡ answers
            → Arbitrates (asked bytes parts counts acknowledges) entry exit shown.reply
            → Contested request rounds modules shown
        lent-anew bytes parts counts acknowledges entry exit modules shown table carried levels held given_back
            one two three four promise =
            contested entry exit modules shown table carried levels held given_back
            (subst (λ (l : List ℕ). Arbitrates (asked l asks.parts asks.counts answers) entry exit shown.reply) one
            (subst (λ (l : List ℕ). Arbitrates (asked bytes l asks.counts answers) entry exit shown.reply) two
            (subst (λ (l : List ℕ). Arbitrates (asked bytes parts l answers) entry exit shown.reply) three
            (subst (λ (l : List ℕ). Arbitrates (asked bytes parts counts l) entry exit shown.reply) four promise))))
