-- `dump_reader::check` meets its contract.
use mathlib.Core.Path.{refl, sym, ◌∙◌}
use borrow.Author.Tests.{eq-eqb, ne_eqb}
use Rattle.std.proofs.Common.{ap, not}
use Rattle.dump_reader.proofs.Parts.{no-number, number-is}
use Rattle.dump_reader.proofs.check.Goals as goal

pub returns-in-Some : goal.returns-in-Some
returns-in-Some c =
    let word = number-is c.args.reader.part c.in-Some.number (sym c.refused_word.ensures ∙ c.in-Some.is) in
    rw (word.0, word.1) c.refused.ensures

pub returns-then-not-is_closed-may_end : goal.returns-then-not-is_closed-may_end
returns-then-not-is_closed-may_end c = rw (
  no-number _ (sym c.refused_word.ensures ∙ c.in_default.is),
  ← c.is_closed.ensures,
  ← c.may_end.ensures,
  (ap not c.if-not-is_closed-may_end.true),
) c.refused-then-not-is_closed-may_end.ensures

pub returns-then-reader-ne-MAX_LEVEL : goal.returns-then-reader-ne-MAX_LEVEL
returns-then-reader-ne-MAX_LEVEL c = rw (
  no-number _ (sym c.refused_word.ensures ∙ c.in_default.is),
  ← c.is_closed.ensures,
  ← c.may_end.ensures,
  (ap not c.if-not-is_closed-may_end.false),
  ne_eqb _ _ c.if-reader-ne-MAX_LEVEL.true,
) c.refused-then-reader-ne-MAX_LEVEL.ensures

pub returns : goal.returns
returns c = rw (
  no-number _ (sym c.refused_word.ensures ∙ c.in_default.is),
  ← c.is_closed.ensures,
  ← c.may_end.ensures,
  (ap not c.if-not-is_closed-may_end.false),
  eq-eqb _ _ c.if-reader-ne-MAX_LEVEL.false,
) refl
