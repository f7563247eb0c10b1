use native.Mathlib.Omega.{arith}
use mathlib.Core.Bool.{not}
use lib.Dec.{eqb}
use lib.ListN.{get_or}
use Rattle.laws.proofs.Bools.{bool-byte}
use Rattle.laws.proofs.Buffer.{progress-none, progress-done}
use Rattle.trace_thin.proofs.Keeping.{counted-more, rest-none}
use borrow.Author.Rules.{rules}
use Rattle.trace_thin.proofs.changes.count.Goals as goal

pub loop-level-init : goal.loop-level-init
loop-level-init c = (search rules, λ stamps same. progress-none _)

pub overflow_add-found : goal.overflow_add-found
overflow_add-found c =
    let head = c.loop-level in
    omega (arith, bool-byte (not (eqb (get_or c.args.levels.now head.level-index 0) head.last)))

pub loop-level-preserved : goal.loop-level-preserved
loop-level-preserved c =
    let head = c.loop-level in
    let levels = c.args.levels.now in (
      omega (arith, bool-byte (not (eqb (get_or levels head.level-index 0) head.last))),
      λ stamps same. counted-more stamps levels same head.last head.found head.level-index (omega arith) (head.invariant.1 stamps same),
    )

pub returns : goal.returns
returns c = λ stamps same.
    let head = c.loop-level in
    progress-done _ _ head.found (rest-none stamps c.args.levels.now same head.last head.level-index (omega arith))
    (head.invariant.1 stamps same)
