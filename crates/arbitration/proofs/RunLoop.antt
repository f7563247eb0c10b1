-- A turn of the loop in `run`, from what its calls ensure: it is the next turn, and leaves less work.
use Rattle.std.proofs.Common.{ℕ, ◌<◌, ◌≡◌, true, false, length, List}
use Rattle.usi.specs.declared.Usi.{Usi}
use Rattle.arbitration_pass.specs.declared.pass.Pass.{Pass}
use Rattle.arbitration_pass.specs.declared.pass.Seen.{Seen}
use Rattle.arbitration_pass.specs.Pass.{passed, seen}
use Rattle.arbitration_run.specs.declared.sequencer.Sequencer.{Sequencer}
use Rattle.arbitration_run.specs.Sequence.{pass_of, loaded, turned, carried_after, levels_after}
use Rattle.arbitration_turns.specs.Turns.{Turn, ready, turn_after}
use Rattle.arbitration_turns.proofs.Weight.{weight, weight-falls}

-- the bytes still to be taken are taken first
pub ready-loading : (rows : List (List ℕ)) (sequencer : Sequencer) → sequencer.loading ≡ true
    → loaded rows sequencer ≡ ready rows sequencer
unfolding ready
ready-loading rows sequencer loading = rw loading

pub ready-loaded : (rows : List (List ℕ)) (sequencer : Sequencer) → sequencer.loading ≡ false
    → sequencer ≡ ready rows sequencer
unfolding ready
ready-loaded rows sequencer taken = rw taken

module _
    (count : ℕ)
    (rows : List (List ℕ))
    (acks : List ℕ)
    (turn : Turn)
    {prepared : Sequencer}
    {pass : Pass}
    {table : List Usi}
    {shown : Seen}
    {next : Sequencer}
    {carried levels : List ℕ}
    (is : prepared ≡ ready rows turn.sequencer)
    (passes : pass ≡ pass_of prepared)
    (stepped : (table ≡ passed count pass turn.table) × (shown ≡ seen count (passed count pass turn.table)))
    (turns : (next ≡ turned (length turn.carried) (length turn.levels) acks shown prepared)
    × (carried ≡ carried_after acks shown prepared turn.carried)
    × (levels ≡ levels_after shown prepared turn.levels))
  where
    pub turn_made : turn_after count rows acks turn
        ≡ record { sequencer = next; table = table; carried = carried; levels = levels }
    unfolding turn_after
    turn_made = rw (turns.0, turns.1, turns.2, stepped.0, stepped.1, passes, is)

    pub work-less : turn.sequencer.running ≡ true → weight (length acks) next < weight (length acks) turn.sequencer
    work-less running =
        rw (turns.0, is)
        (weight-falls acks rows (length turn.carried) (length turn.levels) shown turn.sequencer running)
