-- What is reached from the turn that stands is reached from the first; a turn makes the work that is left less.
use Rattle.std.proofs.Common.{length}
use Rattle.arbitration_turns.specs.Turns.{Turn, Reached}
use Rattle.arbitration_turns.proofs.Weight.{weight}
use Rattle.arbitration.proofs.table.run.Given as goal

abbrev pub invariant-loop-sequencer : goal.invariant-loop-sequencer
invariant-loop-sequencer l =
    (final : Turn)
    → Reached l.count l.rows l.acks
    (record { sequencer = l.sequencer; table = l.table; carried = l.carried; levels = l.levels }) final
    → Reached l.count l.rows l.acks
    (record {
      sequencer = l.initial.sequencer;
      table = l.initial.table;
      carried = l.initial.carried;
      levels = l.initial.levels;
    }) final

abbrev pub decreases-loop-sequencer : goal.decreases-loop-sequencer
decreases-loop-sequencer l = weight (length l.acks) l.sequencer
