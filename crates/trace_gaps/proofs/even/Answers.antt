-- `trace_gaps::even` meets its contract.
use borrow.Author.Tests.{lt-ltb, le-ltb}
use Rattle.std.proofs.lemmas.List.{take_rest}
use Rattle.trace_gaps.specs.Gaps.{even_gap}
use Rattle.trace_gaps.proofs.even.Goals as goal

pub returns-then-stamps-lt2 : goal.returns-then-stamps-lt2
unfolding even_gap
returns-then-stamps-lt2 c = rw (lt-ltb _ _ c.if-stamps-lt2.true)

pub returns-then-all_apart : goal.returns-then-all_apart
unfolding even_gap
returns-then-all_apart c =
    let alike = rw take_rest at c.all_apart.ensures in
    rw (le-ltb _ _ c.if-stamps-lt2.false, ← c.apart-gap.ensures, ← alike, c.if-all_apart.true)

pub returns : goal.returns
unfolding even_gap
returns c =
    let alike = rw take_rest at c.all_apart.ensures in
    rw (le-ltb _ _ c.if-stamps-lt2.false, ← c.apart-gap.ensures, ← alike, c.if-all_apart.false)
