-- Refusals 12 and 13, then the rest.
use Rattle.std.proofs.Common.{sym, ◌∙◌}
use Rattle.std.proofs.lemmas.Result.{err_from_is_err_and}
use lib.Seq.{length-take-le}
use Rattle.arbitration_rules.specs.Reply.{asked}
use Rattle.arbitration_messages.proofs.Whole.{size-within, count-within, apart}
use Rattle.arbitration_checks.proofs.Decided.{settled-refused, settled-decided}
use Rattle.arbitration_checks.proofs.settle.Goals as goal

pub returns-in_err-sent : goal.returns-in_err-sent
returns-in_err-sent c =
    let a = c.args in
    let request = asked a.bytes.now a.parts.now a.counts.now a.acks.now in
    let p = err_from_is_err_and c.from_residual.result c.from_residual.ensures.1 in
    let is =
    sym (apart a.bytes.now a.parts.now a.counts.now a.acks.now) ∙ sym c.gather.ensures ∙ c.in_err-sent.was in
    rw (p.1, p.2) (settled-refused request _ is)

pub slice_bounds-sent-end : goal.slice_bounds-sent-end
slice_bounds-sent-end c = size-within _ _ (sym c.gather.ensures ∙ c.in_ok-sent.was)

pub slice_bounds-decide-end : goal.slice_bounds-decide-end
slice_bounds-decide-end c =
    sym (length-take-le _ _ (size-within _ _ (sym c.gather.ensures ∙ c.in_ok-sent.was)))

pub slice_bounds-lengths-end : goal.slice_bounds-lengths-end
slice_bounds-lengths-end c = count-within _ _ (sym c.gather.ensures ∙ c.in_ok-sent.was)

pub slice_bounds-decide-end-2 : goal.slice_bounds-decide-end-2
slice_bounds-decide-end-2 c =
    sym (length-take-le _ _ (count-within _ _ (sym c.gather.ensures ∙ c.in_ok-sent.was)))

pub returns : goal.returns
returns c =
    let a = c.args in
    let request = asked a.bytes.now a.parts.now a.counts.now a.acks.now in
    let is =
    sym (apart a.bytes.now a.parts.now a.counts.now a.acks.now) ∙ sym c.gather.ensures ∙ c.in_ok-sent.was in
    c.decide.ensures ∙ settled-decided request _ is
