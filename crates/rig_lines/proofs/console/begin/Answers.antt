-- `rig_lines::console::begin` meets its contract.
use Rattle.rig_lines.specs.Console.{beginning}
use borrow.Author.Tests.{lt-ltb, le-ltb}
use Rattle.rig_lines.proofs.console.begin.Goals as goal

pub returns-then-saturating_sub-lt-LINE : goal.returns-then-saturating_sub-lt-LINE
unfolding beginning
returns-then-saturating_sub-lt-LINE c = rw (← c.saturating_sub.ensures, lt-ltb _ _ c.if-saturating_sub-lt-LINE.true) c.flush.ensures

pub returns : goal.returns
unfolding beginning
returns c = rw (← c.saturating_sub.ensures, le-ltb _ _ c.if-saturating_sub-lt-LINE.false)
