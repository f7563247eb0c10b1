-- `decode` tests in 01's order, and then writes.
use Rattle.std.proofs.Common.{sym, ◌∙◌, length, refl}
use Rattle.std.proofs.lemmas.Result.{err_from_is_err_and}
use Rattle.decode.proofs.Reply.{in_order}
use Rattle.decode.proofs.decode.Goals as goal

pub returns-in_err-check-clause-answer : goal.returns-in_err-check-clause-answer
returns-in_err-check-clause-answer c =
    let p = err_from_is_err_and c.from_residual.result c.from_residual.ensures.1 in
    let first = sym c.check.ensures ∙ c.in_err-check.was in
    rw (p.1, p.2, in_order c.args.stamps.now c.args.levels.now (length c.args.events.now), first) refl

-- src/lib.rt:55:9
pub returns-then-short-clause-answer : goal.returns-then-short-clause-answer
returns-then-short-clause-answer c =
    let first = sym c.check.ensures ∙ c.in_ok-check.was in
    let short = sym c.short.ensures ∙ c.if-short.true in
    rw (c.refused.ensures, in_order c.args.stamps.now c.args.levels.now (length c.args.events.now), first, short) refl

-- src/lib.rt:49:1
pub returns-clause-answer : goal.returns-clause-answer
returns-clause-answer c =
    let first = sym c.check.ensures ∙ c.in_ok-check.was in
    let enough = sym c.short.ensures ∙ c.if-short.false in
    let wrote = c.write_events-written.ensures in
    rw (wrote.last, wrote.number, in_order c.args.stamps.now c.args.levels.now (length c.args.events.now), first, enough) refl
