-- The count of what was compared.
use mathlib.Core.Path.{ap}
use Rattle.arbitration_checks.specs.declared.order.Least.{Least}
use Rattle.export.proofs.order_calls.kan_least_comparisons.Goals as goal

pub least_message-counted-requires : goal.least_message-counted-requires
least_message-counted-requires c = tt

pub returns : goal.returns
returns c = ap (λ (l : Least). l.comparisons) c.least_message-counted.ensures
