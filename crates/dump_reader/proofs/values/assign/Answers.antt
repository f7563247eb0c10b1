-- `dump_reader::values::assign` meets its contract.
use mathlib.Core.Path.{ap, ◌∙◌}
use Rattle.dump_reader.specs.declared.reader.Wave.{Wave}
use Rattle.dump_reader.specs.Reader.{with_wave}
use Rattle.laws.proofs.Branches.{first-case, second-case}
use borrow.Author.Tests.{not-true, not-false, eq-eqb, ne_eqb}
use Rattle.dump_reader.specs.Values.{assign}
use Rattle.dump_reader.proofs.values.assign.Goals as goal

pub returns-then-identifier-eq0 : goal.returns-then-identifier-eq0
unfolding assign
returns-then-identifier-eq0 c = rw (eq-eqb _ _ c.if-identifier-eq0.true) c.refused.ensures

pub returns-then-not-scl-sda : goal.returns-then-not-scl-sda
unfolding assign
returns-then-not-scl-sda c = rw (
  ne_eqb _ _ c.if-identifier-eq0.false,
  ← c.bytes_of.ensures,
  ← c.bytes_of-2.ensures,
  ← c.is_same-scl.ensures,
  ← c.is_same-sda.ensures,
  c.if-not-scl-sda.true,
) c.refused-then-not-scl-sda.ensures

pub returns-then-not-wave : goal.returns-then-not-wave
unfolding assign
returns-then-not-wave c =
    let begun = c.args.reader.wave.stamped in
    rw (
      ne_eqb _ _ c.if-identifier-eq0.false,
      ← c.bytes_of.ensures,
      ← c.bytes_of-2.ensures,
      ← c.is_same-scl.ensures,
      ← c.is_same-sda.ensures,
      c.if-not-scl-sda.false,
    ) (second-case begun _ _ _ (not-true begun c.if-not-wave.true) c.refused-then-not-wave.ensures)

pub returns : goal.returns
unfolding assign
returns c =
    let begun = c.args.reader.wave.stamped in
    rw (
      ne_eqb _ _ c.if-identifier-eq0.false,
      ← c.bytes_of.ensures,
      ← c.bytes_of-2.ensures,
      ← c.is_same-scl.ensures,
      ← c.is_same-sda.ensures,
      c.if-not-scl-sda.false,
    ) (
    first-case begun _ _ _ (not-false begun c.if-not-wave.false)
    (c.waved.ensures ∙ ap (λ (wave : Wave). with_wave wave c.args.reader) c.valued.ensures)
    )
