use mathlib.Core.Path.{◌≡◌, ap, sym}
use mathlib.Core.Bool.{◌||◌}
use mathlib.Core.List.{[], ◌∷◌}
use Prim.Native.Nat.{ℕ, ◌<◌, ◌≤◌}
use lib.Dec.{eqb}
use Rattle.load_text.specs.Messages.{unless}
use lib.ListN.{length, get_or}
use Rattle.text.proofs.Putting.{put-none, put-length, put_as}
use Rattle.load_text.proofs.Begun.{parts_none, parts_more, parts_all}
use borrow.Author.Rules.{rules}
use Rattle.load_text.proofs.parts.put_parts.Goals as goal

pub loop-start-init : goal.loop-start-init
loop-start-init c = parts_none _ _ _ _ _ (put-none _ _ _ (search rules))

pub loop-start-preserved : goal.loop-start-preserved
loop-start-preserved c =
    let args = c.args in
    let less : c.loop-start.start-index < length args.row.now = search rules in
    let byte : get_or args.row.now c.loop-start.start-index 0 ≡ c.wide.result =
    sym c.wide.ensures in
    let said = ap (λ (b : ℕ). unless (args.silent || eqb (get_or args.row.now c.loop-start.start-index 0) 0) (b ∷ [])) byte in
    parts_more _ _ _ _ _ less c.loop-start.invariant (put_as _ _ said c.put_length-next.ensures)

pub shape_of-out : goal.shape_of-out
shape_of-out c = put-length _ _ c.loop-start.invariant.put

pub returns : goal.returns
returns c =
    let past : length c.args.row.now ≤ c.loop-start.start-index = search rules in
    parts_all _ _ _ _ _ past c.loop-start.invariant
