use Prim.Native.Nat.{◌≤◌, ◌<◌}
use native.Mathlib.Omega.{arith}
use Rattle.laws.proofs.Bools.{bool-byte}
use Rattle.frame_match.specs.Book.{is_rehearsed}
use Rattle.frame_match.proofs.Searching.{counted-more, counted-all}
use borrow.Author.Rules.{rules}
use Rattle.frame_match.proofs.rows.loads_between.Goals as goal

pub loop-row-init : goal.loop-row-init
loop-row-init c = (search rules, omega arith, omega arith)

pub overflow_add-loads : goal.overflow_add-loads
overflow_add-loads c = omega (arith, bool-byte c.is_rehearsed.result)

pub loop-row-preserved : goal.loop-row-preserved
loop-row-preserved c =
    let head = c.loop-row in
    let args = c.args in
    let less : head.row < args.end = omega arith in (
      search rules,
      omega (arith, bool-byte c.is_rehearsed.result),
      counted-more (is_rehearsed args.book.now) head.row args.end less c.is_rehearsed.result
          c.is_rehearsed.ensures _ head.loads head.invariant.2,
    )

pub returns : goal.returns
returns c =
    let head = c.loop-row in
    let args = c.args in
    let past : args.end ≤ head.row = omega arith in
    counted-all (is_rehearsed args.book.now) head.row args.end past _ head.loads head.invariant.2
