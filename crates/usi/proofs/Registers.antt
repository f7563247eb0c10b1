-- Even addresses: 078h, 07Ah and 07Ch are registers, and no other.
use mathlib.Core.Path.{◌≡◌, refl, ap, ◌∙◌}
use mathlib.Core.Bool.{cond}
use Prim.Native.Nat.{ℕ, ◌%◌}
use lib.Dec.{eqb}
use borrow.Author.Tests.{ne_eqb}
use Rattle.usi_registers.specs.Registers.{USICTL0, USICTL1, USICKCTL, USICNT, USISRL, USISRH}
use Rattle.usi.specs.declared.Usi.{Usi}
use Rattle.std.specs.Prelude.{Err}
use Rattle.laws.specs.Refusals.{refused_at}
use Rattle.usi.specs.Step.{refused, read_byte, write_byte}

module _ (address : ℕ) (even : address % 2 ≡ 1 → ⊥) (first : address ≡ USICTL0 → ⊥) (second : address ≡ USICKCTL → ⊥)
    (third : address ≡ USISRL → ⊥) where
  not-odd : (key : ℕ) → key % 2 ≡ 1 → address ≡ key → ⊥
  not-odd key odd e = even (ap (λ (a : ℕ). a % 2) e ∙ odd)

  -- such an address passes all six tests
  outside :
      {A : Type 0} (a b c d e f other : A)
      → cond (eqb address USICTL0) a (cond (eqb address USICTL1) b
      (cond (eqb address USICKCTL) c (cond (eqb address USICNT) d
      (cond (eqb address USISRL) e (cond (eqb address USISRH) f other))))) ≡ other
  outside a b c d e f other =
      rw (
        ne_eqb address USICTL0 first,
        ne_eqb address USICTL1 (not-odd USICTL1 refl),
        ne_eqb address USICKCTL second,
        ne_eqb address USICNT (not-odd USICNT refl),
        ne_eqb address USISRL third,
        ne_eqb address USISRH (not-odd USISRH refl),
      )

  pub reads_nothing : (u : Usi) → read_byte u address ≡ Err (refused_at 1 0)
  unfolding read_byte
  reads_nothing u = outside _ _ _ _ _ _ (Err (refused_at 1 0))

  pub writes_nothing : (u : Usi) (value : ℕ) → write_byte u address value ≡ Err (refused 1 u)
  unfolding write_byte
  writes_nothing u value = outside _ _ _ _ _ _ (Err (refused 1 u))
