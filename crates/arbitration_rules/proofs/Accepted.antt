-- What no refusal turns down is an arbitration: demand 3 holds of it.
use Prim.Native.Nat.{ℕ, ◌≤◌}
use native.Mathlib.Omega.{arith}
use mathlib.Core.Path.{◌≡◌, refl, sym, ap, ap₂, subst, ◌∙◌}
use mathlib.Core.Bool.{cond, false, not, ◌||◌}
use mathlib.Core.List.{List, [], ◌∷◌, ◌++◌, map}
use lib.Dec.{eqb, ltb}
use lib.ListN.{length, take, drop, length-drop}
use borrow.Author.Tests.{eqb-true, eqb-false, ltb-false, not-false}
use Rattle.laws.specs.Everyone.{Everyone, nobody, also}
use Rattle.laws.specs.Refusals.{Check, check, none, refused_at}
use Rattle.laws.specs.Search.{any}
use Rattle.laws.proofs.Bools.{neither}
use Rattle.laws.proofs.Refusals.{Numbered, Passed, passed, passed_first, numbered-both}
use Rattle.arbitration_rules.specs.Limits.{max_masters, max_length}
use Rattle.arbitration_rules.specs.Outcome.{outcome, undecided}
use Rattle.arbitration_rules.specs.Run.{observed}
use Rattle.arbitration_rules.specs.Reply.{Request, total, parts_of, lengths_of, messages_of, bad_count, bad_messages}
use Rattle.arbitration_rules.specs.Reply.{itself, bad_lengths, reads, longest, above_one, bad_acknowledges}
use Rattle.arbitration_rules.specs.Reply.{request_checks, run_of, short_slice, refusal}
use Rattle.arbitration_rules.proofs.Cut.{messages-count}
use Rattle.arbitration_rules.proofs.Pieces.{Bytes, taken, left_over, pieces, messages-are, Good, piece-some}
use Rattle.arbitration_rules.proofs.Pieces.{piece-first, piece_sent, piece-length, parts-total, parts-good}
use Rattle.arbitration_rules.proofs.Demand.{Sendable, Arbitration, run-shows-outcome}

none_above : (acknowledges : List ℕ) → any above_one acknowledges ≡ false
    → Everyone (λ acknowledge. acknowledge ≤ 1) acknowledges
none_above [] none_so = nobody
none_above (acknowledge ∷ acknowledges) none_so =
    let both = neither (above_one acknowledge) (any above_one acknowledges) none_so in
    also (ltb-false 1 acknowledge both.0) (none_above acknowledges both.1)

-- the messages of parts that sum to the bytes
pieces-sendable : (acknowledges : List ℕ) {all : List (List ℕ)} (bytes : List ℕ) → Everyone Good all
    → total (map total all) ≤ length bytes → longest (map total all) ≤ length acknowledges → Bytes bytes
    → Everyone (Sendable acknowledges) (pieces all bytes)
pieces-sendable acknowledges bytes nobody enough long small = nobody
pieces-sendable acknowledges bytes (also {a = parts} good more) enough long small =
    let count = total parts in
    let within : count ≤ length bytes = omega arith in
    also
    (record {
      bytes = piece_sent (taken small count) parts;
      some = omega (arith, piece-length bytes parts within, piece-some good);
      first = piece-first (take count bytes) good;
      answered = omega (arith, piece-length bytes parts within);
    })
    (pieces-sendable acknowledges (drop count bytes) more (omega (arith, length-drop count bytes)) (omega arith)
    (left_over small count))

-- what 13 leaves: counts that sum to the parts, parts that sum to the bytes, and each message good
pub record Shaped (request : Request) : Type 0 where
  pub counted : total request.counts ≡ length request.parts
  pub summed : total request.parts ≡ length request.bytes
  pub good : Everyone Good (parts_of request)

pub shaped : (request : Request) → bad_lengths request ≡ false → Shaped request
shaped request sizes =
    let counts = request.counts in
    let sized =
    neither (any itself (bad_messages request) || not (eqb (total counts) (length request.parts)))
    (not (eqb (total request.parts) (length request.bytes))) sizes in
    let two = neither (any itself (bad_messages request)) (not (eqb (total counts) (length request.parts))) sized.0 in
    let same : total counts ≡ length request.parts =
    eqb-true (total counts) (length request.parts)
    (not-false (eqb (total counts) (length request.parts)) two.1) in
    record {
      counted = same;
      summed =
          eqb-true (total request.parts) (length request.bytes)
          (not-false (eqb (total request.parts) (length request.bytes)) sized.1);
      good = parts-good request same two.0;
    }

-- so the messages are as long as their parts say
pieces-lengths : (all : List (List ℕ)) (bytes : List ℕ) → total (map total all) ≤ length bytes
    → map length (pieces all bytes) ≡ map total all
pieces-lengths [] bytes enough = refl
pieces-lengths (parts ∷ more) bytes enough =
    ap₂ ◌∷◌ (piece-length bytes parts (omega arith))
    (pieces-lengths more (drop (total parts) bytes) (omega (arith, length-drop (total parts) bytes)))

pub sound-lengths : (request : Request) → bad_lengths request ≡ false
    → map length (messages_of request) ≡ lengths_of request
sound-lengths request sizes =
    let so = shaped request sizes in
    ap (map length) (messages-are request)
    ∙ pieces-lengths (parts_of request) request.bytes
    (omega (arith, parts-total request so.counted, so.summed))

-- and as many acknowledges as the longest are no more than a message may have
pub longest-good : {all : List (List ℕ)} → Everyone Good all → longest (map total all) ≤ max_length
longest-good nobody = omega arith
longest-good (also good more) = omega (arith, good.short, longest-good more)

pub as_many : (request : Request) → bad_acknowledges request ≡ false
    → (length request.acknowledges ≡ longest (lengths_of request))
    × (any above_one request.acknowledges ≡ false)
as_many request answers =
    let two =
    neither (not (eqb (length request.acknowledges) (longest (lengths_of request))))
    (any above_one request.acknowledges) answers in (
      eqb-true (length request.acknowledges) (longest (lengths_of request))
          (not-false (eqb (length request.acknowledges) (longest (lengths_of request))) two.0),
      two.1,
    )

pub few-acknowledges : (request : Request) → bad_lengths request ≡ false → bad_acknowledges request ≡ false
    → length request.acknowledges ≤ max_length
few-acknowledges request sizes answers =
    omega (arith, (as_many request answers).0, longest-good (shaped request sizes).good)

-- 12, 13, 15 and 16 do not apply
pub arbitration : (request : Request) → Bytes request.bytes → bad_count request ≡ false → bad_lengths request ≡ false
    → bad_acknowledges request ≡ false → undecided (messages_of request) request.acknowledges ≡ false
    → Arbitration (messages_of request) request.acknowledges
arbitration request small count sizes answers decided =
    let counted =
    neither (eqb (length request.counts) 0) (ltb max_masters (length request.counts)) count in
    let many : length request.counts ≡ 0 → ⊥ = eqb-false (length request.counts) 0 counted.0 in
    let so = shaped request sizes in
    let answered = as_many request answers in
    record {
      someone = omega (arith, messages-count request);
      sendable =
          subst (Everyone (Sendable request.acknowledges)) (sym (messages-are request))
          (pieces-sendable request.acknowledges request.bytes so.good
          (omega (arith, parts-total request so.counted, so.summed)) (omega (arith, answered.0)) small);
      bits = none_above request.acknowledges answered.1;
      decided = decided;
    }

pub request-numbered : (request : Request) → Numbered (request_checks request)
request-numbered request =
    ((λ e. omega arith), ((λ e. omega arith), ((λ e. omega arith), ((λ e. omega arith), ((λ e. omega arith), tt)))))

module _ (request : Request) where
  -- what a request must pass
  pub passes : Bytes request.bytes → Passed (request_checks request)
      → Arbitration (messages_of request) request.acknowledges
  passes small all = arbitration request small all.0 all.1.0 all.1.1.1.0 all.1.1.1.1.0

  module _ (table_room carried_room level_room : ℕ) where
    abbrev room : List Check
    room = check 8 (short_slice request table_room carried_room level_room) ∷ []

    pub accepted : Bytes request.bytes → (refusal request table_room carried_room level_room).number ≡ 0
        → Arbitration (messages_of request) request.acknowledges
    unfolding refusal
    accepted small unrefused =
        let numbered : Numbered (request_checks request ++ room) =
        numbered-both (request_checks request) room (request-numbered request) ((λ e. omega arith), tt) in
        passes small
        (passed_first (request_checks request) room (passed (request_checks request ++ room) numbered unrefused))

    -- so demand 3 holds of every arbitration that is answered
    pub answered-outcome : Bytes request.bytes → (refusal request table_room carried_room level_room).number ≡ 0
        → observed (run_of request) ≡ outcome (messages_of request) request.acknowledges
    answered-outcome small unrefused =
        run-shows-outcome (messages_of request) request.acknowledges (accepted small unrefused)

    -- where none of 12, 13, 14, 15 and 8 applies, it is refused exactly when 16 applies
    pub refused-by-16 : bad_count request ≡ false → bad_lengths request ≡ false
        → any reads (messages_of request) ≡ false → bad_acknowledges request ≡ false
        → short_slice request table_room carried_room level_room ≡ false
        → refusal request table_room carried_room level_room
        ≡ cond (undecided (messages_of request) request.acknowledges) (refused_at 16 0) none
    unfolding refusal
    refused-by-16 count sizes reading answers enough = rw (count, sizes, reading, answers, enough)
