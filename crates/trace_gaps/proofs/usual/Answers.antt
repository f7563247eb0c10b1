-- `trace_gaps::usual` meets its contract.
use mathlib.Core.Path.{◌≡◌, ap, ◌∙◌}
use Prim.Native.Nat.{ℕ, ◌≤◌}
use lib.ListN.{get_or}
use Rattle.trace_gaps.specs.Gaps.{inside, tally_of}
use native.Mathlib.Omega.{arith}
use borrow.Author.Tests.{lt-ltb, le-ltb}
use Rattle.trace_gaps.specs.Gaps.{usual_gap}
use Rattle.trace_gaps.proofs.Counting.{all-up-to}
use Rattle.trace_gaps.proofs.usual.Goals as goal

pub returns-then-stamps-gt-MAX_GAPS : goal.returns-then-stamps-gt-MAX_GAPS
unfolding usual_gap
returns-then-stamps-gt-MAX_GAPS c = rw (lt-ltb _ _ c.if-stamps-gt-MAX_GAPS.true)

pub returns : goal.returns
unfolding usual_gap
returns c =
    let stamps = c.args.stamps.now in
    let few : (i : ℕ) → get_or stamps i 0 ≤ 18446744073709551615
    = λ i. omega (arith, c.type_inv.stamps i) in
    let first : c.counted.result ≡ tally_of (inside stamps c.args.levels.now)
    = c.counted.ensures.tally ∙ ap tally_of (all-up-to _ _ _ _ _ few) in
    rw (
      le-ltb _ _ c.if-stamps-gt-MAX_GAPS.false,
      ← first,
      ← c.fourfold-limit.ensures,
      ← c.counted-2.ensures.tally,
    ) c.average.ensures
