use mathlib.Core.Path.{◌≡◌, ◌∙◌}
use Rattle.arbitration_turns.specs.Turns.{Turn, ended, more, ready}
use Rattle.arbitration.proofs.RunLoop.{ready-loading, ready-loaded, turn_made, work-less}
use Rattle.arbitration.proofs.table.run.Goals as goal
use Rattle.arbitration.proofs.table.run.Goals.{then-sequencer, else-sequencer}

pub loop-sequencer-init : goal.loop-sequencer-init
loop-sequencer-init c = λ final reached. reached

pub loop-sequencer-preserved : goal.loop-sequencer-preserved
loop-sequencer-preserved c = λ final reached.
    let prepared : c.if-sequencer.sequencer ≡ ready c.args.rows c.loop-sequencer.sequencer =
    elim c.if-sequencer.branch [
      | then-sequencer w ↦
          w.sequencer-is ∙ w.loaded-sequencer.ensures ∙ ready-loading c.args.rows c.loop-sequencer.sequencer w.if-sequencer.true
      | else-sequencer w ↦ w.sequencer-is ∙ ready-loaded c.args.rows c.loop-sequencer.sequencer w.if-sequencer.false
    ] in
    let before : Turn =
    record {
      sequencer = c.loop-sequencer.sequencer;
      table = c.loop-sequencer.table;
      carried = c.loop-sequencer.carried;
      levels = c.loop-sequencer.levels;
    } in
    c.loop-sequencer.invariant final
    (more before final c.loop-sequencer-test.true
    (rw (turn_made c.args.count c.args.rows c.args.acks.now before prepared c.pass-pass.ensures
    c.step_all-seen.ensures c.next-sequencer.ensures) reached))

pub loop-sequencer-smaller : goal.loop-sequencer-smaller
loop-sequencer-smaller c =
    let prepared : c.if-sequencer.sequencer ≡ ready c.args.rows c.loop-sequencer.sequencer =
    elim c.if-sequencer.branch [
      | then-sequencer w ↦
          w.sequencer-is ∙ w.loaded-sequencer.ensures ∙ ready-loading c.args.rows c.loop-sequencer.sequencer w.if-sequencer.true
      | else-sequencer w ↦ w.sequencer-is ∙ ready-loaded c.args.rows c.loop-sequencer.sequencer w.if-sequencer.false
    ] in
    work-less c.args.count c.args.rows c.args.acks.now
    (record {
      sequencer = c.loop-sequencer.sequencer;
      table = c.loop-sequencer.table;
      carried = c.loop-sequencer.carried;
      levels = c.loop-sequencer.levels;
    })
    prepared c.pass-pass.ensures c.step_all-seen.ensures c.next-sequencer.ensures c.loop-sequencer-test.true

pub returns : goal.returns
returns c = c.loop-sequencer.invariant _ (ended _ c.loop-sequencer-test.false)
