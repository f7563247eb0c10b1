-- `load_text::boards::left_after` meets its contract.
use Rattle.load_text.proofs.Masters.{left-some, left-same, left_less}
use Rattle.load_text.proofs.boards.left_after.Goals as goal

pub overflow_sub-result : goal.overflow_sub-result
overflow_sub-result c = left-some c.args.silent _ c.if-silent-left.false

pub returns-then-silent-left : goal.returns-then-silent-left
returns-then-silent-left c = left-same c.args.silent _ c.if-silent-left.true

pub returns-else-silent-left : goal.returns-else-silent-left
returns-else-silent-left c = left_less c.args.silent _ c.if-silent-left.false
