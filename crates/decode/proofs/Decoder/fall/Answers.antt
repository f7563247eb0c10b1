-- SCL falls: the bit of the high phase, unless there is none.
use native.Mathlib.Omega.{arith}
use mathlib.Core.Path.{refl, ap}
use mathlib.Core.List.{[], ◌∷◌}
use Prim.Native.Nat.{ℕ, ◌<◌}
use borrow.Author.Tests.{eq-eqb, ne_eqb}
use Rattle.laws.proofs.Bools.{bool-byte}
use Rattle.decode.proofs.Cases.{no-bit, bit, byte}
use Rattle.decode.proofs.Sound.{below-128}
use Rattle.decode.proofs.Decoder.fall.Goals as goal

pub returns-then-not-self : goal.returns-then-not-self
returns-then-not-self c = no-bit _ _ _ c.requires.1 c.requires.2 (c.if-not-self.true) c.quiet.ensures

pub returns-then-self-eq8 : goal.returns-then-self-eq8
returns-then-self-eq8 c = byte _ _ _ c.requires.1 c.requires.2 (c.if-not-self.false) (eq-eqb _ _ c.if-self-eq8.true)
    refl
    (rw (← c.sda-high.ensures) (ap (λ (event : ℕ). event ∷ []) c.byte_event.ensures))

pub overflow_mul-result : goal.overflow_mul-result
overflow_mul-result c =
    let decoder = c.args.self in
    let fewer : decoder.pending < 8 = omega (arith, c.requires.0.few) in
    omega (arith, below-128 decoder fewer c.requires.0)

pub overflow_add-result-2 : goal.overflow_add-result-2
overflow_add-result-2 c =
    let decoder = c.args.self in
    let fewer : decoder.pending < 8 = omega (arith, c.requires.0.few) in
    omega (arith, below-128 decoder fewer c.requires.0, bool-byte c.sda-high.result)

pub returns : goal.returns
returns c = bit _ _ _ c.requires.1 c.requires.2 (c.if-not-self.false)
    (ne_eqb _ _ c.if-self-eq8.false)
    (rw (← c.sda-high.ensures)) refl
