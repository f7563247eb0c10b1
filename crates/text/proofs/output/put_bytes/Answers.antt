use Prim.Native.Nat.{◌≤◌, ◌<◌}
use borrow.Author.Rules.{rules}
use lib.ListN.{length}
use Rattle.text.proofs.Putting.{put-none, put-more, put_all, put-length}
use Rattle.text.proofs.output.put_bytes.Goals as goal

pub loop-b-init : goal.loop-b-init
loop-b-init c = (search rules, put-none _ _ _ c.min-next.ensures)

pub loop-b-preserved : goal.loop-b-preserved
loop-b-preserved c =
    let inside : c.loop-b.b-index < length c.args.text.now = search rules in
    (search rules, put-more _ _ _ _ inside c.loop-b.invariant.1 c.put_byte-next.ensures)

pub shape_of-out : goal.shape_of-out
shape_of-out c = put-length _ _ c.loop-b.invariant.1

pub returns : goal.returns
returns c =
    let done : length c.args.text.now ≤ c.loop-b.b-index = search rules in
    put_all _ _ _ _ done c.loop-b.invariant.1
