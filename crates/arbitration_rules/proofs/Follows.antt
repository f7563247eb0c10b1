-- What a master that is still in has to send, beside the rest of the least message: where refusal 16 does not apply it
-- goes on alike (a restart, a STOP or a byte that is no less), and where its byte is the same, its rest does so again.
use Prim.Native.Nat.{ℕ, ◌+◌, ◌≤◌, ◌<◌}
use native.Mathlib.Omega.{arith}
use mathlib.Core.Path.{◌≡◌, refl, ap, sym, ◌∙◌}
use mathlib.Core.Bool.{Bool, cond, true, false, not, ◌&&◌, beq, false≢true}
use mathlib.Core.List.{List, [], ◌∷◌}
use lib.Dec.{eqb}
use lib.ListN.{length, get_or, drop}
use borrow.Author.Tests.{eq-eqb, eqb-true, ltb-true, ltb-false, not-false}
use Rattle.laws.specs.Everyone.{Everyone, also}
use Rattle.laws.proofs.Bools.{alike}
use Rattle.arbitration_rules.specs.Outcome.{byte_of, restarts, sent_at, byte_at, ending_differs}
use Rattle.arbitration_rules.proofs.LeastMessage.{AtMost}
use Rattle.arbitration_rules.proofs.LeastMessage.{first-at-most, rest-at-most}

-- what is sent is a byte, or 256 and a byte
abbrev pub Sent : List ℕ → Type 0
Sent message = Everyone (λ sent. sent < 512) message

-- the byte, from whether a restart stands before it
pub byte-is : (sent : ℕ) → sent < 512 → (again : Bool) → restarts sent ≡ again → sent ≡ cond again (byte_of sent)
    (256 + byte_of sent)
byte-is sent small true test = let below : sent < 256 = ltb-true sent 256 test in omega arith
byte-is sent small false test = let above : 256 ≤ sent = ltb-false sent 256 test in omega arith

-- so a restart or none, and the byte, are all that is sent
pub sent-same : (sent own : ℕ) → sent < 512 → own < 512 → restarts own ≡ restarts sent → byte_of own ≡ byte_of sent
    → own ≡ sent
sent-same sent own small fits again byte = go (restarts sent) refl
  where
    go : (test : Bool) → restarts sent ≡ test → own ≡ sent
    go true test =
        let one : own ≡ byte_of own = byte-is own fits true (again ∙ test) in
        let other : sent ≡ byte_of sent = byte-is sent small true test in
        omega arith
    go false test =
        let one : own ≡ 256 + byte_of own = byte-is own fits false (again ∙ test) in
        let other : sent ≡ 256 + byte_of sent = byte-is sent small false test in
        omega arith

-- and the order of what is sent, both after a restart or both not, is that of the bytes
byte-order : (sent own : ℕ) → sent < 512 → own < 512 → restarts own ≡ restarts sent → sent ≤ own
    → byte_of sent ≤ byte_of own
byte-order sent own small fits again less = go (restarts sent) refl
  where
    go : (test : Bool) → restarts sent ≡ test → byte_of sent ≤ byte_of own
    go true test =
        let one : own ≡ byte_of own = byte-is own fits true (again ∙ test) in
        let other : sent ≡ byte_of sent = byte-is sent small true test in
        omega arith
    go false test =
        let one : own ≡ 256 + byte_of own = byte-is own fits false (again ∙ test) in
        let other : sent ≡ 256 + byte_of sent = byte-is sent small false test in
        omega arith

-- the rest of a message against the rest of the least one, with the acknowledges to come
pub record Follows (acknowledges rest message : List ℕ) : Type 0 where
  pub order : AtMost rest message
  pub ending : ending_differs acknowledges rest message ≡ false
  pub theirs : Sent rest
  pub own : Sent message

-- it is over where the least message is over
pub follows-end : {acknowledges : List ℕ} (message : List ℕ) → Follows acknowledges [] message → message ≡ []
follows-end [] follows = refl
follows-end (own ∷ message) follows = absurd (false≢true (sym follows.ending))

-- it goes on where the least message does, with a restart or without one as that, and with a byte that is no less
pub record Goes (sent : ℕ) (message : List ℕ) : Type 0 where
  pub some : 0 < length message
  pub again : restarts (sent_at 0 message) ≡ restarts sent
  pub more : byte_of sent ≤ byte_at 0 message

pub follows-goes : {acknowledges : List ℕ} {sent : ℕ} {rest : List ℕ} (message : List ℕ)
    → Follows acknowledges (sent ∷ rest) message → Goes sent message
follows-goes [] follows = absurd (false≢true (sym follows.ending))
follows-goes {acknowledges} {sent} {rest} (own ∷ message) follows =
    go follows.theirs follows.own (eqb sent own) refl follows.ending
  where
    go : Sent (sent ∷ rest) → Sent (own ∷ message) → (same : Bool) → eqb sent own ≡ same
        → cond same (eqb (get_or acknowledges 0 0) 0 && ending_differs (drop 1 acknowledges) rest message)
        (not (beq (restarts sent) (restarts own))) ≡ false
        → Goes sent (own ∷ message)
    go (also small others) (also fits more) true same ending =
        let equal : own ≡ sent = sym (eqb-true sent own same) in
        record { some = omega arith; again = ap restarts equal; more = omega (arith, ap byte_of equal) }
    go (also small others) (also fits more) false same ending =
        let again : restarts own ≡ restarts sent =
        sym (alike (restarts sent) (restarts own) (not-false (beq (restarts sent) (restarts own)) ending)) in
        record {
          some = omega arith;
          again = again;
          more = byte-order sent own small fits again (first-at-most follows.order);
        }

-- and where the byte is the same and acknowledged, its rest follows the rest
pub follows_on : {acknowledges : List ℕ} {sent : ℕ} {rest : List ℕ} (message : List ℕ) → get_or acknowledges 0 0 ≡ 0
    → Follows acknowledges (sent ∷ rest) message → byte_at 0 message ≡ byte_of sent
    → (sent_at 0 message ≡ sent) × Follows (drop 1 acknowledges) rest (drop 1 message)
follows_on [] answered follows same = absurd (false≢true (sym follows.ending))
follows_on {acknowledges} {sent} {rest} (own ∷ message) answered follows same =
    go follows.theirs follows.own (follows-goes (own ∷ message) follows).again
  where
    go : Sent (sent ∷ rest) → Sent (own ∷ message) → restarts own ≡ restarts sent
        → (own ≡ sent) × Follows (drop 1 acknowledges) rest message
    go (also small others) (also fits more) again =
        let equal : own ≡ sent = sent-same sent own small fits again same in
        let test : eqb sent own ≡ true = eq-eqb sent own (sym equal) in
        let heard : eqb (get_or acknowledges 0 0) 0 ≡ true = eq-eqb (get_or acknowledges 0 0) 0 answered in (
          equal,
          record {
            order = rest-at-most follows.order (sym equal);
            ending = rw (test, heard) at follows.ending;
            theirs = others;
            own = more;
          },
        )
