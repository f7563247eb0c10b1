-- `put_three` stores three levels.
use lib.ListN.{length-set}
use native.Mathlib.Numerals.{add-one}
use mathlib.Core.Path.{◌≡◌, refl}
use Prim.Native.Nat.{suc, ◌+◌}
use native.Mathlib.Omega.{arith}
use Rattle.encode.proofs.draw.put_three.Goals as goal

pub bounds-levels-at-2 : goal.bounds-levels-at-2
bounds-levels-at-2 c = rw length-set (omega arith)

pub bounds-levels-at-3 : goal.bounds-levels-at-3
bounds-levels-at-3 c = rw (length-set, length-set) (omega arith)

pub returns : goal.returns
returns c = let two : c.args.at + 2 ≡ suc (suc c.args.at) = omega arith in record {
  next = refl;
  stored = rw (add-one, two);
}
