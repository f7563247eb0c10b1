-- `dump_reader::read` meets its contract.
use Rattle.std.proofs.Common.{sym, ◌∙◌, refl}
use Rattle.std.proofs.lemmas.Result.{err_from_is_err_and}
use borrow.Author.Tests.{ltb-false, lt-ltb, le-ltb}
use Rattle.laws.proofs.Bools.{neither}
use Rattle.dump_reader.specs.Words.{words}
use Rattle.dump_reader.specs.Reader.{started}
use Rattle.dump_reader.specs.Reading.{stamp_of, level_of}
use Rattle.dump_reader.proofs.Folds.{as_many}
use Rattle.dump_reader.proofs.Reply.{long-refused, in_order}
use Rattle.dump_reader.proofs.read.Goals as goal

pub returns-then-text-gt-LONGEST_TEXT-clause-answer : goal.returns-then-text-gt-LONGEST_TEXT-clause-answer
returns-then-text-gt-LONGEST_TEXT-clause-answer c =
    c.refused.ensures ∙ sym (long-refused _ _ _ c.if-text-gt-LONGEST_TEXT.true)

pub returns-in_err-check-clause-answer : goal.returns-in_err-check-clause-answer
returns-in_err-check-clause-answer c =
    let text = c.args.text.now in
    let p = err_from_is_err_and c.from_residual.result c.from_residual.ensures.1 in
    let scanned = c.scan-scanned.ensures in
    let first = sym c.check.ensures ∙ c.in_err-check.was in
    rw (
      p.1,
      p.2,
      in_order text _ _ c.if-text-gt-LONGEST_TEXT.false _ scanned.last,
      first,
    ) refl

pub returns-then-count-gt-MAX_SAMPLES-clause-answer : goal.returns-then-count-gt-MAX_SAMPLES-clause-answer
returns-then-count-gt-MAX_SAMPLES-clause-answer c =
    let text = c.args.text.now in
    let scanned = c.scan-scanned.ensures in
    let first = sym c.check.ensures ∙ c.in_ok-check.was in
    let many = lt-ltb _ _ (rw scanned.number at c.if-count-gt-MAX_SAMPLES.true) in
    rw (
      c.refused-then-count-gt-MAX_SAMPLES.ensures,
      in_order text _ _ c.if-text-gt-LONGEST_TEXT.false _ scanned.last,
      first,
      many,
    ) refl

pub returns-then-stamps-count-clause-answer : goal.returns-then-stamps-count-clause-answer
returns-then-stamps-count-clause-answer c =
    let text = c.args.text.now in
    let scanned = c.scan-scanned.ensures in
    let first = sym c.check.ensures ∙ c.in_ok-check.was in
    let few = le-ltb _ _ (rw scanned.number at c.if-count-gt-MAX_SAMPLES.false) in
    let short = rw scanned.number at c.if-stamps-count.true in
    rw (
      c.refused-then-stamps-count.ensures,
      in_order text _ _ c.if-text-gt-LONGEST_TEXT.false _ scanned.last,
      first,
      few,
      short,
    ) refl

pub write-requires : goal.write-requires
write-requires c =
    let scanned = c.scan-scanned.ensures in
    let text = c.args.text.now in
    let room = neither _ _ (rw scanned.number at c.if-stamps-count.false) in record {
      text_in_bounds = ltb-false _ _ room.0;
      text_in_bounds_2 = rw (as_many level_of stamp_of text started (words text)) (ltb-false _ _ room.1);
    }

pub returns-clause-answer : goal.returns-clause-answer
returns-clause-answer c =
    let text = c.args.text.now in
    let scanned = c.scan-scanned.ensures in
    let first = sym c.check.ensures ∙ c.in_ok-check.was in
    let few = le-ltb _ _ (rw scanned.number at c.if-count-gt-MAX_SAMPLES.false) in
    let enough = rw scanned.number at c.if-stamps-count.false in
    rw (
      scanned.last,
      scanned.number,
      in_order text _ _ c.if-text-gt-LONGEST_TEXT.false _ scanned.last,
      first,
      few,
      enough,
    ) refl
