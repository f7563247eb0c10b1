use Rattle.std.proofs.Common.{rules, ◌≡◌, ◌+◌, ◌≤◌, length}
use Rattle.rig_lines.specs.Input.{none, ended}
use Rattle.rig_lines.proofs.Filling.{read_more, read-nothing}
use Rattle.rig_lines.proofs.input.fill.Goals as goal

pub loop-n-init : goal.loop-n-init
loop-n-init g c = (search rules, search rules, none)

pub returns-then-count-eq0 : goal.returns-then-count-eq0
returns-then-count-eq0 g c =
    let at = c.loop-n in
    let new = c.read_once-count.new.piece in
    let long : at.n + length new ≡ length at.piece = search rules in
    ended _ _ (read-nothing new at.invariant.2 (search rules) long) c.if-from.false c.ended.ensures

pub loop-n-preserved : goal.loop-n-preserved
loop-n-preserved g c =
    let at = c.loop-n in
    let new = c.read_once-count.new.piece in
    let long : at.n + length new ≡ length at.piece = search rules in
    let less : c.read_once-count.result.0 ≤ length new = c.read_once-count.ensures in
    (search rules, search rules, read_more new _ at.invariant.2 (search rules) long less)
