-- `rig_lines::console::put_quoted` meets its contract.
use mathlib.Core.Path.{sym}
use Prim.Native.Nat.{◌≤◌}
use lib.ListN.{length}
use lib.Seq.{length-take-le}
use Rattle.text.proofs.Putting.{puts}
use Rattle.laws.proofs.Branches.{branches}
use Rattle.rig_lines.specs.Console.{quoted_text}
use borrow.Author.Rules.{rules}
use Rattle.rig_lines.proofs.console.put_quoted.Goals as goal

pub slice_bounds-put_shown-end : goal.slice_bounds-put_shown-end
slice_bounds-put_shown-end c =
    let long : 32 ≤ length c.args.word.now = search rules in
    sym (length-take-le 32 c.args.word.now long)

pub returns-then-word-gt-QUOTED : goal.returns-then-word-gt-QUOTED
unfolding quoted_text
returns-then-word-gt-QUOTED c = search (puts, branches)

pub returns : goal.returns
unfolding quoted_text
returns c = search (puts, branches)
