use Prim.Native.Nat.{◌≤◌, ◌<◌}
use native.Mathlib.Omega.{arith}
use mathlib.Core.Path.{refl, sym, ◌∙◌}
use Rattle.frame_match.proofs.Boards.{boards-more, boards-done}
use borrow.Author.Rules.{rules}
use Rattle.frame_match.proofs.settling.settle_boards.Goals as goal

pub loop-row-init : goal.loop-row-init
loop-row-init c = (search rules, refl, refl)

pub loop-row-preserved : goal.loop-row-preserved
loop-row-preserved c =
    let head = c.loop-row in
    let args = c.args in
    let call = c.settle_board in
    let less : head.row < args.end = omega arith in (
      search rules,
      omega (arith, call.auto, head.invariant.1),
      head.invariant.2
          ∙ boards-more args.events.now args.frame.now args.found args.number head.book head.row args.end
          call.new.book call.ensures less,
    )

pub shape_of-book : goal.shape_of-book
shape_of-book c = c.loop-row.invariant.1

pub returns : goal.returns
returns c =
    let head = c.loop-row in
    let args = c.args in
    let past : args.end ≤ head.row = omega arith in
    boards-done args.events.now args.frame.now args.found args.number head.book head.row args.end past
    ∙ sym head.invariant.2
