-- A refusal's number, or what is decided of the messages that are gathered.
use Rattle.std.proofs.Common.{◌≡◌, refl, sym, ◌∙◌, List, [], ◌∷◌}
use lib.Seq.{length-take-le}
use borrow.Author.Tests.{eq-eqb, ne_eqb}
use Rattle.arbitration_messages.proofs.Whole.{size-within, count-within, whole, none-whole, apart}
use Rattle.arbitration_rules.specs.declared.Seat.{Seat}
use Rattle.verdict.specs.Verdict.{contenders, verdict_of}
use Rattle.verdict.proofs.judge.Goals as goal

pub returns-then-refusal-ne0 : goal.returns-then-refusal-ne0
unfolding verdict_of
returns-then-refusal-ne0 c = rw (ne_eqb _ _ c.if-refusal-ne0.true)

-- without a message nobody is in
nobody-in : (seats : List Seat) → contenders seats [] ≡ []
nobody-in [] = refl
nobody-in (seat ∷ seats) = refl

pub returns-in_default : goal.returns-in_default
unfolding verdict_of
returns-in_default c =
    let a = c.args in
    let is =
    sym (apart a.bytes.now a.parts.now a.counts.now a.acks.now) ∙ sym c.gather.ensures ∙ c.in_default.is in
    rw (eq-eqb _ _ c.if-refusal-ne0.false, ← none-whole _ _ is, nobody-in a.reply.seats) refl

pub slice_bounds-sent-end : goal.slice_bounds-sent-end
slice_bounds-sent-end c = size-within _ _ (sym c.gather.ensures ∙ c.in-Ok.is)

pub slice_bounds-decide-end : goal.slice_bounds-decide-end
slice_bounds-decide-end c =
    sym (length-take-le _ _ (size-within _ _ (sym c.gather.ensures ∙ c.in-Ok.is)))

pub slice_bounds-lengths-end : goal.slice_bounds-lengths-end
slice_bounds-lengths-end c = count-within _ _ (sym c.gather.ensures ∙ c.in-Ok.is)

pub slice_bounds-decide-end-2 : goal.slice_bounds-decide-end-2
slice_bounds-decide-end-2 c =
    sym (length-take-le _ _ (count-within _ _ (sym c.gather.ensures ∙ c.in-Ok.is)))

pub returns : goal.returns
unfolding verdict_of
returns c =
    let a = c.args in
    let is =
    sym (apart a.bytes.now a.parts.now a.counts.now a.acks.now) ∙ sym c.gather.ensures ∙ c.in-Ok.is in
    rw (eq-eqb _ _ c.if-refusal-ne0.false, ← whole _ _ is) c.decide.ensures
