use native.Mathlib.Omega.{arith}
use Rattle.arbitration_messages.proofs.Marking.{marked_start, marked-room, marked-fits, marked_more}
use Rattle.arbitration_messages.proofs.Marking.{marked-done}
use Rattle.arbitration_messages.proofs.marks.part_marks.Goals as goal

pub loop-part-init : goal.loop-part-init
loop-part-init c = marked_start _ _ c.unmarked-marks.ensures

pub offset_bounds-marks-at : goal.offset_bounds-marks-at
offset_bounds-marks-at c = omega (arith, marked-room _ _ _ _ c.loop-part.invariant c.requires.0 c.requires.1 c.loop-part-test.true)

pub bounds-marks-at : goal.bounds-marks-at
bounds-marks-at c = marked-room _ _ _ _ c.loop-part.invariant c.requires.0 c.requires.1 c.loop-part-test.true

pub overflow_add-at : goal.overflow_add-at
overflow_add-at c =
    let head = c.loop-part in
    omega (arith, marked-fits _ _ _ _ head.invariant c.requires.0 c.requires.1 c.loop-part-test.true)

pub loop-part-preserved : goal.loop-part-preserved
loop-part-preserved c =
    let head = c.loop-part in
    marked_more _ _ _ _ head.invariant c.requires.0 c.requires.1 c.loop-part-test.true

pub returns : goal.returns
returns c = marked-done _ _ _ _ c.loop-part.invariant c.loop-part-test.false
