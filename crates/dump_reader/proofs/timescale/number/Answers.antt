-- `dump_reader::timescale::number` meets its contract.
use borrow.Author.Tests.{eq-eqb, ne_eqb}
use mathlib.Core.Path.{sym}
use lib.Seq.{length-take-le}
use Rattle.text.proofs.Runs.{to_end}
use Rattle.dump_reader.specs.Timescale.{number}
use Rattle.dump_reader.proofs.timescale.number.Goals as goal

pub slice_bounds-power_of-end : goal.slice_bounds-power_of-end
slice_bounds-power_of-end c = sym (length-take-le _ _ c.run_length-digits.ensures.upper_bound)

pub returns-then-power-eq-NO_POWER : goal.returns-then-power-eq-NO_POWER
unfolding number
returns-then-power-eq-NO_POWER c = rw (
  ← c.run_length-digits.ensures.value,
  ← c.power_of-power.ensures,
  eq-eqb _ _ c.if-power-eq-NO_POWER.true,
) c.refused.ensures

pub returns-then-digits-word : goal.returns-then-digits-word
unfolding number
returns-then-digits-word c = rw (
  ← c.run_length-digits.ensures.value,
  ← c.power_of-power.ensures,
  ne_eqb _ _ c.if-power-eq-NO_POWER.false,
  eq-eqb _ _ c.if-digits-word.true,
) c.moved.ensures

pub returns : goal.returns
unfolding number
returns c = rw (
  ← c.run_length-digits.ensures.value,
  ← c.power_of-power.ensures,
  ne_eqb _ _ c.if-power-eq-NO_POWER.false,
  ne_eqb _ _ c.if-digits-word.false,
  ← to_end,
) c.unit.ensures
