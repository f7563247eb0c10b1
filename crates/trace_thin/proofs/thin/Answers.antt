-- `thin` tests in its order, and then writes.
use Rattle.std.proofs.Common.{refl, sym, ◌∙◌, length, nat_lt}
use Rattle.std.proofs.lemmas.Result.{err_from_is_err_and}
use borrow.Author.Tests.{lt-ltb, le-ltb, ltb-false}
use Rattle.laws.proofs.Bools.{neither}
use Rattle.trace.specs.Limits.{max_samples}
use Rattle.trace_thin.proofs.Reply.{captured, in_order, count-is, left_is}
use Rattle.trace_thin.proofs.thin.Goals as goal

pub returns-in_err-check-clause-answer : goal.returns-in_err-check-clause-answer
returns-in_err-check-clause-answer c =
    let a = c.args in
    let p = err_from_is_err_and c.from_residual.result c.from_residual.ensures.1 in
    let first = sym c.check.ensures ∙ c.in_err-check.was in
    rw (p.1, p.2, in_order a.stamps.now a.levels.now (length a.thin_stamps.now) (length a.thin_levels.now), first) refl

pub returns-then-count-gt-MAX_SAMPLES-clause-answer : goal.returns-then-count-gt-MAX_SAMPLES-clause-answer
returns-then-count-gt-MAX_SAMPLES-clause-answer c =
    let a = c.args in
    let first = sym c.check.ensures ∙ c.in_ok-check.was in
    let capture = captured _ _ _ first in
    let counted = c.count-count.ensures a.stamps.now capture.same in
    let count = count-is a.stamps.now a.levels.now c.count-count.result capture counted in
    let many = lt-ltb max_samples c.count-count.result c.if-count-gt-MAX_SAMPLES.true in
    rw (
      c.refused.ensures,
      in_order a.stamps.now a.levels.now (length a.thin_stamps.now) (length a.thin_levels.now),
      first,
      ← count,
      many,
    ) refl

pub returns-then-thin_stamps-count-clause-answer : goal.returns-then-thin_stamps-count-clause-answer
returns-then-thin_stamps-count-clause-answer c =
    let a = c.args in
    let first = sym c.check.ensures ∙ c.in_ok-check.was in
    let capture = captured _ _ _ first in
    let counted = c.count-count.ensures a.stamps.now capture.same in
    let count = count-is a.stamps.now a.levels.now c.count-count.result capture counted in
    let few = le-ltb max_samples c.count-count.result c.if-count-gt-MAX_SAMPLES.false in
    rw (
      c.refused-then-thin_stamps-count.ensures,
      in_order a.stamps.now a.levels.now (length a.thin_stamps.now) (length a.thin_levels.now),
      first,
      ← count,
      few,
      c.if-thin_stamps-count.true,
    ) refl

pub write-requires : goal.write-requires
write-requires c =
    let a = c.args in
    let capture = captured _ _ _ (sym c.check.ensures ∙ c.in_ok-check.was) in
    let counted = c.count-count.ensures a.stamps.now capture.same in
    let room =
    neither (nat_lt (length a.thin_stamps.now) c.count-count.result)
    (nat_lt (length a.thin_levels.now) c.count-count.result) c.if-thin_stamps-count.false in (
      capture.same,
      rw (← counted) (ltb-false _ _ room.0),
      rw (← counted) (ltb-false _ _ room.1),
    )

pub returns : goal.returns
returns c =
    let a = c.args in
    let first = sym c.check.ensures ∙ c.in_ok-check.was in
    let capture = captured _ _ _ first in
    let counted = c.count-count.ensures a.stamps.now capture.same in
    let count = count-is a.stamps.now a.levels.now c.count-count.result capture counted in
    let few = le-ltb max_samples c.count-count.result c.if-count-gt-MAX_SAMPLES.false in
    let wrote = c.write.ensures in
    let left = left_is a.stamps.now a.levels.now capture in record {
      answer = rw (
        in_order a.stamps.now a.levels.now (length a.thin_stamps.now) (length a.thin_levels.now),
        first,
        ← count,
        few,
        c.if-thin_stamps-count.false,
      ) refl;
      stamp_buffer = wrote.stamps_stored ∙ rw left;
      level_buffer = wrote.levels_stored ∙ rw left;
    }
