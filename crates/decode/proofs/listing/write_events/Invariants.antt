-- `write_events` puts what the samples passed so far listed at the buffer's start, and its rest stays.
use lib.ListN.{drop}
use Rattle.decode.specs.Decode.{listed, events}
use Rattle.laws.proofs.Buffer.{Writing}
use Rattle.decode.proofs.Passes.{Passed}
use Rattle.decode.proofs.listing.write_events.Given as goal

abbrev pub invariant-loop-level : goal.invariant-loop-level
invariant-loop-level l =
    Passed l.levels l.decoder l.count l.level-index
    × Writing (events l.levels) (listed l.decoder (drop l.level-index l.levels)) l.initial.events l.events l.count
