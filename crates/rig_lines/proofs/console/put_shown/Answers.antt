use Prim.Native.Nat.{◌≤◌, ◌<◌}
use lib.ListN.{length}
use Rattle.text.proofs.Putting.{putting-none, putting-length}
use Rattle.rig_lines.proofs.Forms.{shown-more, shown-done}
use borrow.Author.Rules.{rules}
use Rattle.rig_lines.proofs.console.put_shown.Goals as goal

pub loop-b-init : goal.loop-b-init
loop-b-init c = (search rules, putting-none _ _ _ _ c.min-next.ensures)

pub loop-b-preserved : goal.loop-b-preserved
loop-b-preserved c =
    let inside : c.loop-b.b-index < length c.args.word.now = search rules in (
      search rules,
      shown-more _ _ _ _ _ inside c.shown.ensures c.loop-b.invariant.1
          c.put_byte-next.ensures,
    )

pub shape_of-page : goal.shape_of-page
shape_of-page c = putting-length c.loop-b.invariant.1

pub returns : goal.returns
returns c =
    let done : length c.args.word.now ≤ c.loop-b.b-index = search rules in
    shown-done _ _ _ _ done c.loop-b.invariant.1
