use mathlib.Core.Path.{refl}
use Prim.Native.Nat.{◌<◌, ◌≤◌}
use lib.ListN.{length}
use Rattle.load_text.proofs.Begun.{counted-more, counted-all}
use borrow.Author.Rules.{rules}
use Rattle.load_text.proofs.parts.count_parts.Goals as goal

pub loop-start-init : goal.loop-start-init
loop-start-init c = record { within = search rules; counted = refl; few = search rules }

pub loop-start-preserved : goal.loop-start-preserved
loop-start-preserved c =
    let less : c.loop-start.start-index < length c.args.row.now = search rules in
    counted-more _ _ less c.loop-start.invariant c.begins-count.ensures.value (search rules)

pub returns : goal.returns
returns c =
    let past : length c.args.row.now ≤ c.loop-start.start-index = search rules in
    counted-all _ _ past c.loop-start.invariant
