-- `rig_lines::input::judged` meets its contract.
use Rattle.laws.proofs.Branches.{branches}
use Rattle.rig_lines.specs.Bytes.{plain}
use Rattle.rig_lines.proofs.Taking.{every-is}
use Rattle.rig_lines.specs.Input.{judged_line}
use mathlib.Core.Path.{sym}
use native.Mathlib.Omega.{arith}
use lib.Seq.{length-take-le}
use Rattle.rig_lines.proofs.input.judged.Goals as goal

pub returns-then-n-line : goal.returns-then-n-line
unfolding judged_line
returns-then-n-line c = search branches

pub slice_bounds-is_text-end : goal.slice_bounds-is_text-end
slice_bounds-is_text-end c = sym (length-take-le _ _ (omega arith))

pub returns-then-not-is_text : goal.returns-then-not-is_text
unfolding judged_line
returns-then-not-is_text c =
    let text = every-is plain _ _ c.is_text.ensures in search branches

pub returns : goal.returns
unfolding judged_line
returns c =
    let text = every-is plain _ _ c.is_text.ensures in search branches
