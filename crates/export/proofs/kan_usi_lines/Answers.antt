-- Two bits as a number.
use native.Mathlib.Omega.{arith}
use Rattle.bits.proofs.Masks.{bool_lt}
use Rattle.export.proofs.kan_usi_lines.Goals as goal

pub overflow_mul-result : goal.overflow_mul-result
overflow_mul-result c = omega (arith, bool_lt c.pulls_sda.result)

pub overflow_add-result : goal.overflow_add-result
overflow_add-result c = omega (arith, bool_lt c.pulls_sda.result, bool_lt c.pulls_scl.result)

pub returns : goal.returns
returns c = rw (c.pulls_sda.ensures, c.pulls_scl.ensures, c.unpacked-u.ensures)
