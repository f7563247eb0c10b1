-- A message against what the bus has carried, which is the beginning of the least message: its master is in as long as
-- the carried bytes are its own.
use Prim.Native.Nat.{ℕ, suc, ◌+◌, ◌<◌}
use native.Mathlib.Omega.{arith}
use mathlib.Core.Path.{◌≡◌, refl, ap, ◌∙◌}
use mathlib.Core.Bool.{Bool, cond, true, false, false≢true}
use mathlib.Core.List.{List, [], ◌∷◌, ◌++◌}
use lib.Dec.{eqb}
use lib.ListN.{length}
use borrow.Author.Tests.{eq-eqb, eqb-true}
use Rattle.bits.specs.Positions.{is_set}
use Rattle.arbitration_rules.specs.Outcome.{byte_of, byte_at, position_in}
use Rattle.arbitration_rules.proofs.Standing.{Standing, stays, out, standing_after}
use Rattle.arbitration_rules.proofs.Pause.{is_in}

-- who loses in a byte, at an index
abbrev pub out_at : ℕ → ℕ → ℕ → Standing
out_at index sent own =
    out (byte_of sent) (is_set 0 (byte_of own)) (position_in (byte_of sent) (byte_of own) index)

-- how a master stands after what was carried, the first of it at an index
abbrev pub against : ℕ → List ℕ → List ℕ → Standing
against index [] message = stays
against index (sent ∷ carried) [] = stays
against index (sent ∷ carried) (own ∷ message) =
    cond (eqb (byte_of own) (byte_of sent)) (against (suc index) carried message) (out_at index sent own)

-- the least message's own master is in
pub owner-in : (index : ℕ) (carried more : List ℕ) → is_in (against index carried (carried ++ more)) ≡ true
owner-in index [] more = refl
owner-in index (sent ∷ carried) more =
    ap (λ same. is_in (cond same (against (suc index) carried (carried ++ more)) (out_at index sent sent)))
    (eq-eqb (byte_of sent) (byte_of sent) refl)
    ∙ owner-in (suc index) carried more

-- one more byte decides how a master stands
pub against-next : (index : ℕ) (carried : List ℕ) (sent : ℕ) (message : List ℕ)
    → (is_in (against index carried message) ≡ true → length carried < length message)
    → standing_after (index + length carried) (byte_of sent) (byte_at (length carried) message)
    (against index carried message)
    ≡ against index (carried ++ sent ∷ []) message
against-next index [] sent [] long = absurd (omega (arith, long refl))
against-next index [] sent (own ∷ message) long =
    ap (λ (i : ℕ). cond (eqb (byte_of own) (byte_of sent)) stays (out_at i sent own)) (omega arith)
against-next index (first ∷ carried) sent [] long = absurd (omega (arith, long refl))
against-next index (first ∷ carried) sent (own ∷ message) long =
    go (eqb (byte_of own) (byte_of first)) long (λ l. against-next (suc index) carried sent message l)
  where
    go : (same : Bool)
        → (is_in (cond same (against (suc index) carried message) (out_at index first own)) ≡ true
        → length (first ∷ carried) < length (own ∷ message))
        → ((is_in (against (suc index) carried message) ≡ true → length carried < length message)
        → standing_after (suc index + length carried) (byte_of sent) (byte_at (length carried) message)
        (against (suc index) carried message)
        ≡ against (suc index) (carried ++ sent ∷ []) message)
        → standing_after (index + length (first ∷ carried)) (byte_of sent)
        (byte_at (length (first ∷ carried)) (own ∷ message))
        (cond same (against (suc index) carried message) (out_at index first own))
        ≡ cond same (against (suc index) (carried ++ sent ∷ []) message) (out_at index first own)
    go true long next =
        ap (λ (i : ℕ). standing_after i (byte_of sent) (byte_at (length carried) message)
        (against (suc index) carried message))
        (omega arith)
        ∙ next (λ still. let more = long still in omega arith)
    go false long next = refl

-- who is in after a byte was in before it, and has that byte
pub in-before : (index sent own : ℕ) (standing : Standing)
    → is_in (standing_after index (byte_of sent) own standing) ≡ true
    → (is_in standing ≡ true) × (own ≡ byte_of sent)
in-before index sent own stays still = go (eqb own (byte_of sent)) refl still
  where
    go : (same : Bool) → eqb own (byte_of sent) ≡ same
        → is_in (cond same stays (out (byte_of sent) (is_set 0 own) (position_in (byte_of sent) own index))) ≡ true
        → (is_in stays ≡ true) × (own ≡ byte_of sent)
    go true same still = (refl, eqb-true own (byte_of sent) same)
    go false same still = absurd (false≢true still)
in-before index sent own (out register latch position) still = absurd (false≢true still)
