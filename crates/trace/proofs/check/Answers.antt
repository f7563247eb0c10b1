-- Each return is the first check of the table that applies.
use mathlib.Core.Path.{refl, sym, ◌∙◌}
use borrow.Author.Tests.{eq-eqb, le-ltb}
use Rattle.laws.proofs.Search.{any-first}
use Rattle.laws.specs.Search.{first}
use Rattle.trace.specs.Trace.{bad_level, bad_stamp}
use Rattle.trace.proofs.Pairs.{bad-within}
use Rattle.trace.proofs.Places.{position-place, place-some, place-none}
use Rattle.trace.proofs.check.Goals as goal

pub returns-in-Some : goal.returns-in-Some
returns-in-Some c =
    let levels = c.args.levels.now in
    let place = place-some levels (first bad_level levels) c.in-Some.level
    (sym (position-place bad_level levels) ∙ sym c.bad_level.ensures ∙ c.in-Some.is) in
    rw (eq-eqb _ _ c.if-stamps-levels.false, le-ltb _ _ c.if-levels-gt-MAX_SAMPLES.false)
    (rw (any-first bad_level levels, place.0, place.1) c.refused-in-Some.ensures)

pub returns-in-Some-bad_stamp : goal.returns-in-Some-bad_stamp
returns-in-Some-bad_stamp c =
    let levels = c.args.levels.now in
    let stamps = c.args.stamps.now in
    let legal = place-none levels (first bad_level levels)
    (sym (position-place bad_level levels) ∙ sym c.bad_level.ensures ∙ c.in_default.is) in
    let place = place-some stamps (bad_stamp stamps) c.in-Some-bad_stamp.stamp
    (sym c.bad_stamp.ensures ∙ c.in-Some-bad_stamp.is) in
    rw (eq-eqb _ _ c.if-stamps-levels.false, le-ltb _ _ c.if-levels-gt-MAX_SAMPLES.false)
    (rw (any-first bad_level levels, legal, bad-within stamps, place.0, place.1) c.refused-in-Some-bad_stamp.ensures)

pub returns : goal.returns
returns c =
    let levels = c.args.levels.now in
    let stamps = c.args.stamps.now in
    let legal = place-none levels (first bad_level levels)
    (sym (position-place bad_level levels) ∙ sym c.bad_level.ensures ∙ c.in_default.is) in
    let rises = place-none stamps (bad_stamp stamps) (sym c.bad_stamp.ensures ∙ c.in_default-bad_stamp.is) in
    rw (eq-eqb _ _ c.if-stamps-levels.false, le-ltb _ _ c.if-levels-gt-MAX_SAMPLES.false)
    (rw (any-first bad_level levels, legal, bad-within stamps, rises) refl)
