use mathlib.Core.Path.{refl}
use Rattle.text.proofs.Putting.{putting-length}
use Rattle.rig_lines.proofs.Forms.{forming-none, forming-more, forming-done}
use Rattle.rig_lines.proofs.console.put_form.Goals as goal

pub loop-b-init : goal.loop-b-init
loop-b-init c = forming-none _ _ _ _ _ c.min-next.ensures

pub loop-b-preserved : goal.loop-b-preserved
loop-b-preserved c = forming-more _ _ _ _ c.loop-b.b-index c.loop-b.number _ _ _ c.loop-b-test.true refl
    c.line_at.ensures c.taken-number.ensures.value c.taken-number.ensures.upper_bound c.loop-b.invariant
    c.put_formed-next.ensures

pub shape_of-page : goal.shape_of-page
shape_of-page c = putting-length c.loop-b.invariant.text

pub returns : goal.returns
returns c = forming-done _ _ _ _ c.loop-b.b-index c.loop-b.number c.loop-b-test.false c.loop-b.invariant
