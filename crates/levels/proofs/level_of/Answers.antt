-- Each line is 0 or 1.
use native.Mathlib.Omega.{arith}
use Rattle.laws.proofs.Bools.{bool-byte}
use Rattle.levels.proofs.level_of.Goals as goal

pub overflow_mul-result : goal.overflow_mul-result
overflow_mul-result c = omega (arith, bool-byte c.args.sda)

pub overflow_add-result : goal.overflow_add-result
overflow_add-result c = omega (arith, bool-byte c.args.scl, bool-byte c.args.sda)
