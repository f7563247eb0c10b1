-- `count_events` counts what the samples passed so far listed.
use lib.ListN.{drop}
use Rattle.decode.specs.Decode.{listed, events}
use Rattle.laws.proofs.Buffer.{Progress}
use Rattle.decode.proofs.Passes.{Passed}
use Rattle.decode.proofs.listing.count_events.Given as goal

abbrev pub invariant-loop-level : goal.invariant-loop-level
invariant-loop-level l =
    Passed l.levels l.decoder l.count l.level-index
    × Progress (events l.levels) (listed l.decoder (drop l.level-index l.levels)) l.count
