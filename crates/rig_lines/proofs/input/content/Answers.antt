-- `rig_lines::input::content` meets its contract.
use mathlib.Core.Path.{sym, ◌∙◌}
use mathlib.Core.Bool.{not}
use lib.Dec.{eqb}
use lib.ListN.{take}
use Rattle.text.proofs.Runs.{counted-run}
use lib.Seq.{length-take-le}
use Rattle.laws.proofs.Lists.{take-least}
use Rattle.rig_lines.proofs.input.content.Goals as goal

pub slice_bounds-result-end : goal.slice_bounds-result-end
slice_bounds-result-end c = sym (length-take-le _ _ c.comment_at-end.ensures.upper_bound)

pub returns : goal.returns
returns c =
    let whole = take c.bytes-part.result c.args.line.now in
    rw (c.comment_at-end.ensures.value ∙ counted-run (λ b. not (eqb b 0x23)) whole, c.bytes-part.ensures.value, take-least)
