-- `decode_in` tests in the order of the definition, and leaves the rest to `decode`.
use Rattle.std.proofs.Common.{sym, ◌∙◌, length, refl}
use Rattle.std.proofs.lemmas.Result.{err_from_is_err_and}
use borrow.Author.Tests.{ltb-false}
use Rattle.trace.proofs.Checked.{checked}
use Rattle.trace.proofs.Places.{place-some, place-none}
use Rattle.phases.specs.Phases.{first_short}
use Rattle.phases.proofs.Reply.{in_order, long-enough}
use Rattle.phases.proofs.decode_in.Goals as goal

pub returns-in_err-check-clause-answer : goal.returns-in_err-check-clause-answer
returns-in_err-check-clause-answer c =
    let a = c.args in
    let p = err_from_is_err_and c.from_residual.result c.from_residual.ensures.1 in
    let first = sym c.check.ensures ∙ c.in_err-check.was in
    rw (p.1, p.2, in_order a.mode a.stamps.now a.levels.now (length a.events.now), first) refl

pub first_short-requires : goal.first_short-requires
first_short-requires c =
    let trace = checked c.args.stamps.now c.args.levels.now _ _ (sym c.check.ensures ∙ c.in_ok-check.was) in
    (trace.same, trace.rises)

pub returns-in-Some-clause-answer : goal.returns-in-Some-clause-answer
returns-in-Some-clause-answer c =
    let a = c.args in
    let levels = a.levels.now in
    let first = sym c.check.ensures ∙ c.in_ok-check.was in
    let place = place-some levels (first_short a.mode a.stamps.now levels) c.in-Some.place
    (sym c.first_short.ensures ∙ c.in-Some.is) in
    rw (c.refused.ensures, in_order a.mode a.stamps.now levels (length a.events.now), first, place.0, place.1) refl

pub returns-clause-answer : goal.returns-clause-answer
returns-clause-answer c =
    let a = c.args in
    let levels = a.levels.now in
    let none = place-none levels (first_short a.mode a.stamps.now levels) (sym c.first_short.ensures ∙ c.in_default.is) in
    c.decode.ensures.answer
    ∙ sym (long-enough a.mode a.stamps.now levels (length a.events.now) (ltb-false _ _ none))
