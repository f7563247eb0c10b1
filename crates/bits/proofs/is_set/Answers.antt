-- Within the byte the shift brings the digit down; past it every digit is 0.
use mathlib.Core.Path.{ap, sym}
use Prim.Native.Nat.{ℕ, ◌^◌, ◌/◌}
use lib.Bits.{and_mask}
use lib.Dec.{eqb}
use borrow.Author.Rules.{rules}
use Rattle.bits.proofs.Masks.{past-byte}
use Rattle.bits.proofs.is_set.Goals as goal

pub returns-then-position-lt8 : goal.returns-then-position-lt8
returns-then-position-lt8 c = ap (λ (d : ℕ). eqb d 1) (and_mask (c.args.x / 2 ^ c.args.position) 1)

pub returns : goal.returns
returns c = sym (past-byte c.args.position c.args.x (search rules) (search rules))
