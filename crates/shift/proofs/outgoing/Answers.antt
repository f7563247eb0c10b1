-- `shift::outgoing` meets its contract.
use Prim.Native.Nat.{ℕ, ◌/◌, ◌%◌}
use mathlib.Core.Path.{◌≡◌, refl, ap}
use native.Mathlib.Omega.{arith}
use lib.Dec.{eqb}
use Rattle.shift.proofs.outgoing.Goals as goal

pub returns-then-lsb : goal.returns-then-lsb
returns-then-lsb c =
    let whole : c.args.register % 2 ≡ c.args.register / 1 % 2 = omega arith in
    rw c.if-lsb.true (ap (λ (d : ℕ). eqb d 1) whole)

pub returns-then-wide : goal.returns-then-wide
returns-then-wide c = rw c.if-lsb.false (rw c.if-wide.true refl)

pub returns : goal.returns
returns c = rw c.if-lsb.false (rw c.if-wide.false refl)
