-- 12 to 15, then 43, 16 and 8.
use Rattle.std.proofs.Common.{refl, sym, ◌∙◌, true, false}
use Rattle.std.proofs.lemmas.Result.{err_from_is_err_and}
use lib.Seq.{length-take-le}
use Rattle.arbitration_rules.specs.Reply.{asked}
use Rattle.arbitration_messages.proofs.Whole.{size-within, count-within}
use Rattle.night.proofs.Refused.{night-form, night-rest, all-gathered, apart-is}
use Rattle.night.proofs.refusals.admitted.Goals as goal

pub returns-in_err-messages : goal.returns-in_err-messages
returns-in_err-messages c =
    let a = c.args in
    let request = asked a.bytes.now a.parts.now a.counts.now a.acks.now in
    let p = err_from_is_err_and c.from_residual.result c.from_residual.ensures.1 in
    rw (p.1, p.2) (night-form request a.rounds_room a.table_room _ (sym c.form.ensures ∙ c.in_err-messages.was))

pub returns-then-any_one : goal.returns-then-any_one
returns-then-any_one c =
    let a = c.args in
    let request = asked a.bytes.now a.parts.now a.counts.now a.acks.now in
    let is = sym c.form.ensures ∙ c.in_ok-messages.was in
    c.refused.ensures
    ∙ sym (night-rest request a.rounds_room a.table_room _ is true _ _
    (sym c.any_one.ensures ∙ c.if-any_one.true) refl refl)

pub slice_bounds-sent-end : goal.slice_bounds-sent-end
slice_bounds-sent-end c =
    let a = c.args in
    let request = asked a.bytes.now a.parts.now a.counts.now a.acks.now in
    size-within request _ (all-gathered request a.rounds_room a.table_room _ (sym c.form.ensures ∙ c.in_ok-messages.was))

pub slice_bounds-end_apart-end : goal.slice_bounds-end_apart-end
slice_bounds-end_apart-end c =
    let a = c.args in
    let request = asked a.bytes.now a.parts.now a.counts.now a.acks.now in
    let gathers = all-gathered request a.rounds_room a.table_room _ (sym c.form.ensures ∙ c.in_ok-messages.was) in
    sym (length-take-le _ _ (size-within request _ gathers))

pub slice_bounds-lengths-end : goal.slice_bounds-lengths-end
slice_bounds-lengths-end c =
    let a = c.args in
    let request = asked a.bytes.now a.parts.now a.counts.now a.acks.now in
    count-within request _ (all-gathered request a.rounds_room a.table_room _ (sym c.form.ensures ∙ c.in_ok-messages.was))

pub slice_bounds-end_apart-end-2 : goal.slice_bounds-end_apart-end-2
slice_bounds-end_apart-end-2 c =
    let a = c.args in
    let request = asked a.bytes.now a.parts.now a.counts.now a.acks.now in
    let gathers = all-gathered request a.rounds_room a.table_room _ (sym c.form.ensures ∙ c.in_ok-messages.was) in
    sym (length-take-le _ _ (count-within request _ gathers))

pub returns-then-end_apart : goal.returns-then-end_apart
returns-then-end_apart c =
    let a = c.args in
    let request = asked a.bytes.now a.parts.now a.counts.now a.acks.now in
    let is = sym c.form.ensures ∙ c.in_ok-messages.was in
    c.refused-then-end_apart.ensures
    ∙ sym (night-rest request a.rounds_room a.table_room _ is false true _
    (sym c.any_one.ensures ∙ c.if-any_one.false)
    (sym (apart-is request a.rounds_room a.table_room _ is) ∙ sym c.end_apart.ensures ∙ c.if-end_apart.true) refl)

pub returns-then-rounds_room-counts : goal.returns-then-rounds_room-counts
returns-then-rounds_room-counts c =
    let a = c.args in
    let request = asked a.bytes.now a.parts.now a.counts.now a.acks.now in
    let is = sym c.form.ensures ∙ c.in_ok-messages.was in
    c.refused-then-rounds_room-counts.ensures
    ∙ sym (night-rest request a.rounds_room a.table_room _ is false false true
    (sym c.any_one.ensures ∙ c.if-any_one.false)
    (sym (apart-is request a.rounds_room a.table_room _ is) ∙ sym c.end_apart.ensures ∙ c.if-end_apart.false)
    c.if-rounds_room-counts.true)

pub returns : goal.returns
returns c =
    let a = c.args in
    let request = asked a.bytes.now a.parts.now a.counts.now a.acks.now in
    let is = sym c.form.ensures ∙ c.in_ok-messages.was in
    sym (night-rest request a.rounds_room a.table_room _ is false false false
    (sym c.any_one.ensures ∙ c.if-any_one.false)
    (sym (apart-is request a.rounds_room a.table_room _ is) ∙ sym c.end_apart.ensures ∙ c.if-end_apart.false)
    c.if-rounds_room-counts.false)
