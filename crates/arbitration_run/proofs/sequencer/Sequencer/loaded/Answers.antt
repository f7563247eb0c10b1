-- The restart comes first, or not.
use mathlib.Core.Bool.{false}
use mathlib.Core.Path.{ap, ◌∙◌}
use Rattle.arbitration_pass.specs.declared.instants.Part.TheVariants.{Restart}
use Rattle.arbitration_run.specs.Sequence.{entering, loaded}
use Rattle.arbitration_run.proofs.sequencer.Sequencer.loaded.Goals as goal

pub returns-then-restarting : goal.returns-then-restarting
unfolding loaded
returns-then-restarting c = rw (← c.column-column.ensures, ← c.restarting.ensures, c.if-restarting.true)
    (c.entering.ensures ∙ ap (entering Restart false) c.taking-loaded.ensures)

pub returns : goal.returns
unfolding loaded
returns c = rw (← c.column-column.ensures, ← c.restarting.ensures, c.if-restarting.false) c.taking-loaded.ensures
