-- The lists agree to both their ends, or differ where they no longer do.
use mathlib.Core.Path.{sym}
use lib.Seq.{length-take-le}
use Rattle.event_match.proofs.Agreeing.{agreed-within}
use Rattle.event_match.proofs.Compared.{compared-equal, compared_at}
use Rattle.event_match.proofs.compare.Goals as goal

pub returns-then-index-rehearsed : goal.returns-then-index-rehearsed
returns-then-index-rehearsed c =
    let args = c.args in
    let index = c.agreed-index in
    compared-equal args.rehearsed.now args.seen.now index.result index.ensures c.if-index-rehearsed.true

pub slice_bounds-byte_at-end : goal.slice_bounds-byte_at-end
slice_bounds-byte_at-end c =
    let args = c.args in
    let index = c.agreed-index in
    rw index.ensures (sym (length-take-le _ _ (agreed-within args.rehearsed.now args.seen.now).0))

pub returns : goal.returns
returns c =
    let args = c.args in
    let index = c.agreed-index in
    compared_at args.rehearsed.now args.seen.now index.result index.ensures c.byte_at-byte.result
    c.part_at.result c.if-index-rehearsed.false c.byte_at-byte.ensures c.part_at.ensures
