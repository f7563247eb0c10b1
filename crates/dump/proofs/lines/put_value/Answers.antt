-- `dump::lines::put_value` meets its contract.
use native.Mathlib.Omega.{arith}
use Rattle.laws.proofs.Bools.{bool-byte}
use Rattle.text.proofs.Putting.{put_next}
use Rattle.dump.specs.Text.{value_line}
use Rattle.dump.proofs.lines.put_value.Goals as goal

pub overflow_add-high : goal.overflow_add-high
overflow_add-high c = omega (arith, bool-byte c.args.high)

pub returns : goal.returns
unfolding value_line
returns c = put_next _ _ (put_next _ _ c.put_byte-past_value.ensures c.put_byte-past_wire.ensures) c.put_byte.ensures
