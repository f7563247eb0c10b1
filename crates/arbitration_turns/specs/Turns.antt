-- A run as turns: a pass over the table, and what the sequencer makes of it.
use Rattle.std.specs.Prelude.{ℕ, ◌≡◌, true, false, cond, List, length}
use Rattle.usi.specs.declared.Usi.{Usi}
use Rattle.arbitration_run.specs.declared.sequencer.Sequencer.{Sequencer}
use Rattle.arbitration_pass.specs.Pass.{passed, seen}
use Rattle.arbitration_run.specs.Sequence.{pass_of, loaded, turned, carried_after, levels_after}

-- the sequencer, the modules, and the two buffers
pub record Turn : Type 0 where
  pub sequencer : Sequencer
  pub table : List Usi
  pub carried : List ℕ
  pub levels : List ℕ

-- a byte still to be taken from the rows is taken first
unfoldable pub ready : List (List ℕ) → Sequencer → Sequencer
ready rows sequencer = cond sequencer.loading (loaded rows sequencer) sequencer

-- the next turn
unfoldable pub turn_after : ℕ → List (List ℕ) → List ℕ → Turn → Turn
turn_after count rows acknowledges turn =
    let sequencer = ready rows turn.sequencer in
    let table = passed count (pass_of sequencer) turn.table in
    let shown = seen count table in
    record {
      sequencer = turned (length turn.carried) (length turn.levels) acknowledges shown sequencer;
      table = table;
      carried = carried_after acknowledges shown sequencer turn.carried;
      levels = levels_after shown sequencer turn.levels;
    }

-- turn after turn while the sequencer runs
pub data Reached (count : ℕ) (rows : List (List ℕ)) (acknowledges : List ℕ) : Turn → Turn → Type 0 where
  ended : (turn : Turn) → turn.sequencer.running ≡ false → Reached count rows acknowledges turn turn
  more : (turn final : Turn) → turn.sequencer.running ≡ true
      → Reached count rows acknowledges (turn_after count rows acknowledges turn) final
      → Reached count rows acknowledges turn final
