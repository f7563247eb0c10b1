-- What the instant asks of the modules.
use Rattle.arbitration_run.specs.Sequence.{pass_of}
use Rattle.arbitration_run.proofs.sequencer.Sequencer.pass.Goals as goal

pub returns : goal.returns
unfolding pass_of
returns c = rw (c.shown.ensures, c.instant-instant.ensures)
