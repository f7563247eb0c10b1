-- Acknowledges of a message, byte by byte: all of its bytes are acknowledged, or there is a first that is not.
use Prim.Native.Nat.{ℕ, zero, suc, ◌<◌, ◌≤◌}
use mathlib.Core.Path.{◌≡◌, refl, sym, ap, ◌∙◌}
use mathlib.Core.Bool.{true, false, false≢true}
use mathlib.Core.List.{List, [], ◌∷◌}
use native.Mathlib.Nat.{not-suc-le-zero, le_of_suc-le-suc}
use native.Mathlib.Omega.{arith}
use borrow.Author.Tests.{eqb-true, eq-eqb}
use lib.Dec.{eqb}
use lib.ListN.{length, get_or}
use Rattle.laws.specs.Everyone.{Everyone, nobody, also}
use Rattle.laws.proofs.Bools.{both}
use Rattle.arbitration_rules.specs.Outcome.{carried_count, all_acknowledged}
use Rattle.arbitration_rules.proofs.Undecided.{none_left}

-- every byte of a message was carried, and acknowledged
pub record Whole (message acknowledges : List ℕ) (count : ℕ) : Type 0 where
  pub carried : count ≡ length message
  pub acknowledged : (i : ℕ) → i < length message → get_or acknowledges i 1 ≡ 0

-- so many bytes of a message were carried, the last of them the first that is not acknowledged
pub record FirstRefused (message acknowledges : List ℕ) (count : ℕ) : Type 0 where
  pub last : ℕ
  pub carried : count ≡ suc last
  pub inside : last < length message
  pub refused : get_or acknowledges last 0 ≡ 1
  pub before : (i : ℕ) → i < last → get_or acknowledges i 1 ≡ 0

-- what the test of all says of each
pub each-acknowledged : (message acknowledges : List ℕ) → all_acknowledged message acknowledges ≡ true
    → length message ≤ length acknowledges → (i : ℕ) → i < length message → get_or acknowledges i 1 ≡ 0
each-acknowledged [] acknowledges every enough i less = absurd (not-suc-le-zero less)
each-acknowledged (sent ∷ message) [] every enough i less = absurd (not-suc-le-zero enough)
each-acknowledged (sent ∷ message) (acknowledge ∷ acknowledges) every enough zero less =
    eqb-true acknowledge 0 (both (eqb acknowledge 0) (all_acknowledged message acknowledges) every).0
each-acknowledged (sent ∷ message) (acknowledge ∷ acknowledges) every enough (suc i) less =
    each-acknowledged message acknowledges
    (both (eqb acknowledge 0) (all_acknowledged message acknowledges) every).1 (le_of_suc-le-suc enough) i
    (le_of_suc-le-suc less)

pub all-acknowledged : (message acknowledges : List ℕ)
    → ((i : ℕ) → i < length message → get_or acknowledges i 1 ≡ 0) → all_acknowledged message acknowledges ≡ true
all-acknowledged [] acknowledges each = refl
all-acknowledged (sent ∷ message) [] each = absurd (omega (arith, each 0 (omega arith)))
all-acknowledged (sent ∷ message) (acknowledge ∷ acknowledges) each =
    let first : acknowledge ≡ 0 = each 0 (omega arith) in
    rw (eq-eqb acknowledge 0 first)
    (all-acknowledged message acknowledges (λ i less. each (suc i) (omega (arith, less))))

-- where it fails there is a first
pub some-refused : (message : List ℕ) {acknowledges : List ℕ} → Everyone (λ acknowledge. acknowledge ≤ 1) acknowledges
    → all_acknowledged message acknowledges ≡ false
    → FirstRefused message acknowledges (carried_count message acknowledges)
some-refused [] bits fails = absurd (false≢true (sym fails))
some-refused (sent ∷ message) nobody fails = absurd (false≢true (sym fails ∙ none_left message))
some-refused (sent ∷ message) (also {a = zero} {l = acknowledges} bit bits) fails =
    go (some-refused message bits fails)
  where
    go : FirstRefused message acknowledges (carried_count message acknowledges)
        → FirstRefused (sent ∷ message) (0 ∷ acknowledges) (suc (carried_count message acknowledges))
    go later =
        record {
          last = suc later.last;
          carried = ap suc later.carried;
          inside = omega (arith, later.inside);
          refused = later.refused;
          before = earlier;
        }
      where
        earlier : (i : ℕ) → i < suc later.last → get_or (0 ∷ acknowledges) i 1 ≡ 0
        earlier zero less = refl
        earlier (suc i) less = later.before i (le_of_suc-le-suc less)
some-refused (sent ∷ message) (also {a = suc zero} bit bits) fails =
    record {
      last = 0;
      carried = refl;
      inside = omega arith;
      refused = refl;
      before = λ i less. absurd (not-suc-le-zero less);
    }
some-refused (sent ∷ message) (also {a = suc (suc acknowledge)} bit bits) fails = absurd (omega arith)

-- and where there is a first, the test fails and that many are carried
counted : (message acknowledges : List ℕ) (last : ℕ) → last < length message → get_or acknowledges last 0 ≡ 1
    → ((i : ℕ) → i < last → get_or acknowledges i 1 ≡ 0)
    → (carried_count message acknowledges ≡ suc last) × (all_acknowledged message acknowledges ≡ false)
counted [] acknowledges last inside refused before = absurd (not-suc-le-zero inside)
counted (sent ∷ message) [] last inside refused before = absurd (omega (arith, refused))
counted (sent ∷ message) (acknowledge ∷ acknowledges) zero inside refused before = rw refused (refl, refl)
counted (sent ∷ message) (acknowledge ∷ acknowledges) (suc last) inside refused before =
    let first : acknowledge ≡ 0 = before 0 (omega arith) in
    let rest = counted message acknowledges last (le_of_suc-le-suc inside) refused
    (λ i less. before (suc i) (omega (arith, less))) in
    rw first (ap suc rest.0, rest.1)

pub first-refused : (message acknowledges : List ℕ) (count : ℕ) → FirstRefused message acknowledges count
    → (carried_count message acknowledges ≡ count) × (all_acknowledged message acknowledges ≡ false)
first-refused message acknowledges count found =
    let two = counted message acknowledges found.last found.inside found.refused found.before in
    (two.0 ∙ sym found.carried, two.1)

-- a message acknowledged at each of its bytes was not cut short
pub not-cut : (message acknowledges : List ℕ) (last : ℕ) → all_acknowledged message acknowledges ≡ true
    → carried_count message acknowledges ≡ suc last → get_or acknowledges last 0 ≡ 1 → ⊥
not-cut [] acknowledges last every count refused = omega (arith, count)
not-cut (sent ∷ message) [] last every count refused = omega (arith, refused)
not-cut (sent ∷ message) (acknowledge ∷ acknowledges) zero every count refused =
    let two = both (eqb acknowledge 0) (all_acknowledged message acknowledges) every in
    omega (arith, eqb-true acknowledge 0 two.0, refused)
not-cut (sent ∷ message) (acknowledge ∷ acknowledges) (suc last) every count refused =
    let two = both (eqb acknowledge 0) (all_acknowledged message acknowledges) every in
    let first : acknowledge ≡ 0 = eqb-true acknowledge 0 two.0 in
    let later : suc (carried_count message acknowledges) ≡ suc (suc last) = rw first at count in
    let rest : carried_count message acknowledges ≡ suc last = omega (arith, later) in
    not-cut message acknowledges last two.1 rest refused
