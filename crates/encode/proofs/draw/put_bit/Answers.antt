-- `put_bit` stores two levels.
use Rattle.laws.proofs.Bools.{bool-byte}
use lib.ListN.{length-set}
use native.Mathlib.Numerals.{add-one}
use native.Mathlib.Omega.{arith}
use Rattle.encode.proofs.draw.put_bit.Goals as goal

pub overflow_mul-low : goal.overflow_mul-low
overflow_mul-low c = omega (arith, bool-byte c.args.bit)

pub overflow_add-levels : goal.overflow_add-levels
overflow_add-levels c = omega (arith, bool-byte c.args.bit)

pub bounds-levels-at-2 : goal.bounds-levels-at-2
bounds-levels-at-2 c = rw length-set (omega arith)

pub returns : goal.returns
returns c = rw (add-one c.args.at)
