use Prim.Native.Nat.{◌<◌}
use native.Mathlib.Omega.{arith}
use mathlib.Core.Bool.{true, false}
use mathlib.Core.Path.{◌≡◌, sym, ◌∙◌}
use Rattle.frame_match.proofs.Searching.{row-found, row-passed}
use Rattle.frame_match.proofs.rows.first_passing.Goals as goal

pub returns-then-passes : goal.returns-then-passes
returns-then-passes g c = λ test is.
    let row = c.loop-row.row in
    let less : row < c.args.end = omega arith in
    let passes : test row ≡ true = sym (is row c.passes.result c.passes.ensures) ∙ c.if-passes.true in
    row-found test row c.args.end less passes ∙ sym (c.loop-row.invariant.1 test is)

pub loop-row-preserved : goal.loop-row-preserved
loop-row-preserved g c =
    let row = c.loop-row.row in
    let less : row < c.args.end = omega arith in (
      omega arith,
      λ test is.
          let fails : test row ≡ false = sym (is row c.passes.result c.passes.ensures) ∙ c.if-passes.false in
          c.loop-row.invariant.1 test is ∙ row-passed test row c.args.end less fails,
    )
