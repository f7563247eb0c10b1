-- What the instant does, and the one after it.
use Rattle.arbitration_run.specs.Sequence.{advanced, turned}
use Rattle.arbitration_run.specs.declared.sequencer.Sequencer.{Sequencer}
use mathlib.Core.Path.{ap, ◌∙◌}
use Rattle.arbitration_run.proofs.sequencer.Sequencer.next.Goals as goal

pub returns : goal.returns
unfolding turned
returns c =
    let a = c.args in
    let done = c.affected-after.ensures in (
      c.advanced.ensures
          ∙ ap (λ (s : Sequencer). advanced a.acks.now s) done.0,
      done.1,
      done.2,
    )
