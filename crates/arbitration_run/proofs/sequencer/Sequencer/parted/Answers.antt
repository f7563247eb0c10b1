-- Each part its next.
use Rattle.arbitration_pass.specs.declared.instants.Part.{Part}
use Rattle.arbitration_run.specs.Sequence.{parted_from, parted}
use mathlib.Core.Path.{sym, ap, ◌∙◌}
use Rattle.arbitration_run.proofs.sequencer.Sequencer.parted.Goals as goal

pub returns-in-Entry : goal.returns-in-Entry
unfolding parted
returns-in-Entry c = rw c.in-Entry.is c.entering.ensures

pub returns-in-Opening : goal.returns-in-Opening
unfolding parted
returns-in-Opening c =
    let a = c.args in
    c.opened.ensures
    ∙ ap (λ (part : Part). parted_from part a.acks.now a.self) (sym c.in-Opening.is)

pub returns-in-Restart : goal.returns-in-Restart
unfolding parted
returns-in-Restart c = rw c.in-Restart.is c.entering-in-Restart.ensures

pub returns-in-Byte : goal.returns-in-Byte
unfolding parted
returns-in-Byte c =
    let a = c.args in
    c.decided.ensures
    ∙ ap (λ (part : Part). parted_from part a.acks.now a.self) (sym c.in-Byte.is)

pub returns-in-Closing : goal.returns-in-Closing
unfolding parted
returns-in-Closing c = rw c.in-Closing.is
