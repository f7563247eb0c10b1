-- What was settled, then 8, and the run's beginning.
use Rattle.std.proofs.Common.{sym, ◌∙◌}
use Rattle.std.proofs.lemmas.Result.{err_from_is_err_and}
use native.Mathlib.Omega.{arith}
use lib.Seq.{length-take-le}
use Rattle.arbitration_rules.specs.Reply.{asked}
use Rattle.arbitration_rules.proofs.Pieces.{Bytes}
use Rattle.arbitration_messages.proofs.Whole.{size-within, count-within, sent-whole, lengths-whole, apart}
use Rattle.arbitration.proofs.Given.{bytes_below}
use Rattle.arbitration.proofs.Preparing.{stopped-before, no-room, all-room, gathers}
use Rattle.arbitration.proofs.prepare.prepare.Goals as goal

pub returns-in_err-settled : goal.returns-in_err-settled
returns-in_err-settled c =
    let a = c.args in
    let request = asked a.bytes.now a.parts.now a.counts.now a.acks.now in
    let p = err_from_is_err_and c.from_residual.result c.from_residual.ensures.1 in
    rw (p.1, p.2) (stopped-before request a.table a.carried a.levels _ (sym c.settle.ensures ∙ c.in_err-settled.was))

pub returns-then-short : goal.returns-then-short
returns-then-short c =
    let a = c.args in
    let request = asked a.bytes.now a.parts.now a.counts.now a.acks.now in
    let small : Bytes request.bytes = bytes_below a.bytes.now (λ i. omega (arith, c.type_inv.bytes i)) in
    c.refused.ensures
    ∙ no-room request a.table a.carried a.levels small _ (sym c.settle.ensures ∙ c.in_ok-settled.was)
    (sym c.short.ensures ∙ c.if-short.true)

-- nothing that settle passed
pub returns-in_err-sent : goal.returns-in_err-sent
returns-in_err-sent c =
    let a = c.args in
    let request = asked a.bytes.now a.parts.now a.counts.now a.acks.now in
    let small : Bytes request.bytes = bytes_below a.bytes.now (λ i. omega (arith, c.type_inv.bytes i)) in
    let is =
    sym (apart a.bytes.now a.parts.now a.counts.now a.acks.now) ∙ sym c.gather.ensures ∙ c.in_err-sent.was in
    absurd
    (gathers request a.table a.carried a.levels small _ (sym c.settle.ensures ∙ c.in_ok-settled.was) _ is)

pub slice_bounds-lengths-end : goal.slice_bounds-lengths-end
slice_bounds-lengths-end c = count-within _ _ (sym c.gather.ensures ∙ c.in_ok-sent.was)

pub slice_bounds-first-end : goal.slice_bounds-first-end
slice_bounds-first-end c =
    sym (length-take-le _ _ (count-within _ _ (sym c.gather.ensures ∙ c.in_ok-sent.was)))

pub slice_bounds-lengths-end-2 : goal.slice_bounds-lengths-end-2
slice_bounds-lengths-end-2 c = count-within _ _ (sym c.gather.ensures ∙ c.in_ok-sent.was)

pub slice_bounds-sent-end : goal.slice_bounds-sent-end
slice_bounds-sent-end c = size-within _ _ (sym c.gather.ensures ∙ c.in_ok-sent.was)

pub slice_bounds-rows-end : goal.slice_bounds-rows-end
slice_bounds-rows-end c =
    sym (length-take-le _ _ (size-within _ _ (sym c.gather.ensures ∙ c.in_ok-sent.was)))

pub slice_bounds-rows-end-2 : goal.slice_bounds-rows-end-2
slice_bounds-rows-end-2 c =
    sym (length-take-le _ _ (count-within _ _ (sym c.gather.ensures ∙ c.in_ok-sent.was)))

pub returns : goal.returns
returns c =
    let a = c.args in
    let request = asked a.bytes.now a.parts.now a.counts.now a.acks.now in
    let small : Bytes request.bytes = bytes_below a.bytes.now (λ i. omega (arith, c.type_inv.bytes i)) in
    let is =
    sym (apart a.bytes.now a.parts.now a.counts.now a.acks.now) ∙ sym c.gather.ensures ∙ c.in_ok-sent.was in
    rw (c.first-first.ensures, c.rows-rows.ensures, lengths-whole request _ is, sent-whole request _ is)
    (all-room request a.table a.carried a.levels small _ (sym c.settle.ensures ∙ c.in_ok-settled.was)
    (sym c.short.ensures ∙ c.if-short.false))
