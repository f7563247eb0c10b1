-- The index that is found.
use mathlib.Core.Path.{ap}
use Rattle.arbitration_checks.specs.declared.order.Least.{Least}
use Rattle.export.proofs.order_calls.kan_least_message.Goals as goal

pub least_message-found-requires : goal.least_message-found-requires
least_message-found-requires c = tt

pub returns : goal.returns
returns c = ap (λ (l : Least). l.index) c.least_message-found.ensures
