-- The least of the messages that are gathered.
use Rattle.std.proofs.Common.{sym, ap, ◌∙◌}
use lib.Seq.{length-take-le}
use Rattle.arbitration_messages.proofs.Whole.{size-within, count-within, whole, none-whole}
use Rattle.arbitration_checks.specs.Order.{least_among}
use Rattle.arbitration_checks.proofs.LeastMessage.{least-answer}
use Rattle.arbitration_checks.proofs.order.least_message.Goals as goal

pub returns-in_default : goal.returns-in_default
returns-in_default c = ap least_among (none-whole _ _ (sym c.gather.ensures ∙ c.in_default.is))

pub slice_bounds-sent-end : goal.slice_bounds-sent-end
slice_bounds-sent-end c = size-within _ _ (sym c.gather.ensures ∙ c.in-Ok.is)

pub slice_bounds-locate_least-end : goal.slice_bounds-locate_least-end
slice_bounds-locate_least-end c =
    sym (length-take-le _ _ (size-within _ _ (sym c.gather.ensures ∙ c.in-Ok.is)))

pub slice_bounds-lengths-end : goal.slice_bounds-lengths-end
slice_bounds-lengths-end c = count-within _ _ (sym c.gather.ensures ∙ c.in-Ok.is)

pub slice_bounds-locate_least-end-2 : goal.slice_bounds-locate_least-end-2
slice_bounds-locate_least-end-2 c =
    sym (length-take-le _ _ (count-within _ _ (sym c.gather.ensures ∙ c.in-Ok.is)))

pub returns : goal.returns
returns c =
    least-answer _ _ c.locate_least-located.result c.locate_least-located.ensures
    ∙ ap least_among (whole _ _ (sym c.gather.ensures ∙ c.in-Ok.is))
