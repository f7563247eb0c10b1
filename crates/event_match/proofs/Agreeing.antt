-- Two lists that begin alike, and what their agreement says of both.
use Prim.Native.Nat.{ℕ, suc, ◌+◌, ◌≤◌, ◌<◌}
use native.Mathlib.Omega.{arith}
use mathlib.Core.Path.{◌≡◌, refl, ap, ap₂}
use mathlib.Core.Bool.{Bool, true, false, cond}
use mathlib.Core.List.{List, [], ◌∷◌}
use lib.Dec.{eqb}
use lib.ListN.{length, get_or, take}
use borrow.Author.Tests.{eq-eqb, eqb-true, eqb-false}
use Rattle.std.specs.List.{zip, prefix_len}
use Rattle.laws.specs.Same.{same}
use Rattle.laws.proofs.Same.{same_self, same-equal}
use Rattle.event_match.specs.Match.{agreed}

-- the pairs from the front on that are alike
pub agreed-prefix : (rehearsed seen : List ℕ) → prefix_len (λ p. eqb p.0 p.1) (zip rehearsed seen) ≡ agreed rehearsed seen
agreed-prefix [] seen = refl
agreed-prefix (event ∷ rehearsed) [] = refl
agreed-prefix (event ∷ rehearsed) (other ∷ seen) =
    let more : 1 + agreed rehearsed seen ≡ suc (agreed rehearsed seen) = omega arith in
    rw (agreed-prefix rehearsed seen) (ap (λ (n : ℕ). cond (eqb event other) n 0) more)

-- ---- what their agreement says
by_heads : (A : ℕ → Type 0) (event other : ℕ) (rest : ℕ) → (event ≡ other → A (suc rest)) → ((event ≡ other → ⊥) → A 0)
    → A (cond (eqb event other) (suc rest) 0)
by_heads A event other rest alike differ = go (eqb event other) refl
  where
    go : (same : Bool) → eqb event other ≡ same → A (cond same (suc rest) 0)
    go true is = alike (eqb-true event other is)
    go false is = differ (eqb-false event other is)

pub agreed-within : (rehearsed seen : List ℕ)
    → (agreed rehearsed seen ≤ length rehearsed) × (agreed rehearsed seen ≤ length seen)
agreed-within [] seen = (omega arith, omega arith)
agreed-within (event ∷ rehearsed) [] = (omega arith, omega arith)
agreed-within (event ∷ rehearsed) (other ∷ seen) =
    let rest = agreed-within rehearsed seen in
    by_heads (λ n. (n ≤ suc (length rehearsed)) × (n ≤ suc (length seen))) event other (agreed rehearsed seen)
    (λ alike. (omega arith, omega arith)) (λ differ. (omega arith, omega arith))

-- the events before the place are the same
pub agreed-before : (rehearsed seen : List ℕ)
    → take (agreed rehearsed seen) rehearsed ≡ take (agreed rehearsed seen) seen
agreed-before [] [] = refl
agreed-before [] (other ∷ seen) = refl
agreed-before (event ∷ rehearsed) [] = refl
agreed-before (event ∷ rehearsed) (other ∷ seen) =
    let rest = agreed-before rehearsed seen in
    by_heads (λ n. take n (event ∷ rehearsed) ≡ take n (other ∷ seen)) event other (agreed rehearsed seen)
    (λ alike. ap₂ ◌∷◌ alike rest) (λ differ. refl)

-- those at the place differ
pub agreed-differ : (rehearsed seen : List ℕ) → agreed rehearsed seen < length rehearsed
    → agreed rehearsed seen < length seen
    → get_or rehearsed (agreed rehearsed seen) 0 ≡ get_or seen (agreed rehearsed seen) 0 → ⊥
agreed-differ [] seen more others = absurd (omega arith)
agreed-differ (event ∷ rehearsed) [] more others = absurd (omega arith)
agreed-differ (event ∷ rehearsed) (other ∷ seen) more others =
    let rest = agreed-differ rehearsed seen in
    by_heads (λ n. n < suc (length rehearsed) → n < suc (length seen)
    → get_or (event ∷ rehearsed) n 0 ≡ get_or (other ∷ seen) n 0 → ⊥) event other (agreed rehearsed seen)
    (λ alike within also-within. rest (omega arith) (omega arith)) (λ differ within also-within. differ) more others

-- lists that agree to both their ends are the same
pub agreed-all : (rehearsed seen : List ℕ) → length rehearsed ≤ agreed rehearsed seen
    → length seen ≤ agreed rehearsed seen → rehearsed ≡ seen
agreed-all [] [] all also = refl
agreed-all [] (other ∷ seen) all also = absurd (omega arith)
agreed-all (event ∷ rehearsed) [] all also = absurd (omega arith)
agreed-all (event ∷ rehearsed) (other ∷ seen) all also =
    let rest = agreed-all rehearsed seen in
    by_heads (λ n. suc (length rehearsed) ≤ n → suc (length seen) ≤ n
    → event ∷ rehearsed ≡ other ∷ seen) event other (agreed rehearsed seen)
    (λ alike whole also-whole. ap₂ ◌∷◌ alike (rest (omega arith) (omega arith)))
    (λ differ whole also-whole. absurd (omega arith)) all also

pub agreed-self : (list : List ℕ) → agreed list list ≡ length list
agreed-self [] = refl
agreed-self (event ∷ list) = rw (eq-eqb event event refl) (ap suc (agreed-self list))

-- the test of both ends is the test of the lists
pub ends_same : (rehearsed seen : List ℕ) → agreed rehearsed seen ≡ length rehearsed
    → agreed rehearsed seen ≡ length seen → same rehearsed seen ≡ true
ends_same rehearsed seen all also =
    let alike : rehearsed ≡ seen = agreed-all rehearsed seen (omega arith) (omega arith) in
    rw alike (same_self seen)

pub same_ends : (rehearsed seen : List ℕ) → same rehearsed seen ≡ true
    → (agreed rehearsed seen ≡ length rehearsed) × (agreed rehearsed seen ≡ length seen)
same_ends rehearsed seen holds =
    let alike : rehearsed ≡ seen = same-equal rehearsed seen holds in
    rw alike (agreed-self seen, agreed-self seen)
