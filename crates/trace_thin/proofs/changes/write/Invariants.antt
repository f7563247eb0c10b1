-- What differs from the one before is stored in both slices, and their rest stays.
use lib.ListN.{length, drop}
use Rattle.laws.proofs.Buffer.{Writing}
use Rattle.trace.specs.Samples.{samples, stamps_of, levels_of}
use Rattle.trace.specs.Changes.{changes_from}
use Rattle.trace_thin.proofs.changes.write.Given as goal

abbrev pub invariant-loop-stamp : goal.invariant-loop-stamp
invariant-loop-stamp l =
    let all = changes_from 4 (samples l.stamps l.levels) in
    let left = changes_from l.last (drop (length l.yielded) (samples l.stamps l.levels)) in
    Writing (stamps_of all) (stamps_of left) l.initial.thin_stamps l.thin_stamps l.found
    × Writing (levels_of all) (levels_of left) l.initial.thin_levels l.thin_levels l.found
