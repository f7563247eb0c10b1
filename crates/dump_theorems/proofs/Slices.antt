-- What dump wrote into a slice reads back from there.
use mathlib.Core.Path.{◌≡◌, sym}
use mathlib.Core.List.{List, [], ◌∷◌}
use Prim.Native.Nat.{ℕ, ◌≤◌}
use native.Mathlib.Omega.{arith}
use lib.ListN.{length, take, drop}
use lib.Seq.{take_at}
use Rattle.std.specs.Prelude.{Ok}
use Rattle.trace.specs.Changes.{changed_stamps}
use Rattle.laws.proofs.Refusals.{ok_or_err}
use Rattle.dump.specs.Text.{dump_text}
use Rattle.dump.specs.Dumped.{dumped, text_after}
use Rattle.dump.proofs.Bound.{Stamps, written-trace, written_count}
use Rattle.dump_reader.specs.DumpRead.{longest_text}
use Rattle.dump_theorems.proofs.ReadBack.{ReadBack, text-back}

-- an empty trace is not written
written-some : (stamps levels : List ℕ) (room count : ℕ) → dumped stamps levels room ≡ Ok count
    → length levels ≡ 0 → ⊥
unfolding dumped
written-some [] [] room count reply none = ok_or_err reply
written-some (stamp ∷ stamps) [] room count reply none =
    let same = (written-trace (stamp ∷ stamps) [] room count reply).same in omega arith
written-some stamps (level ∷ levels) room count reply none = omega arith

-- dump writes a trace into a slice; what it wrote there, read into slices that have room for its changes
pub written-reads-back : (stamps levels slice stamp-slice level-slice : List ℕ) (count : ℕ) → Stamps stamps
    → dumped stamps levels (length slice) ≡ Ok count → count ≤ longest_text
    → length (changed_stamps stamps levels) ≤ length stamp-slice
    → length (changed_stamps stamps levels) ≤ length level-slice
    → ReadBack stamps levels (take count (text_after (dumped stamps levels (length slice)) stamps levels slice))
    stamp-slice level-slice
written-reads-back stamps levels slice stamp-slice level-slice count all reply few room room-too =
    let text = dump_text stamps levels in
    let counted = written_count stamps levels (length slice) count reply in
    let front : take count (text_after (dumped stamps levels (length slice)) stamps levels slice) ≡ text =
    rw reply (take_at text (drop (length text) slice) count (sym counted)) in
    rw front
    (text-back stamps levels stamp-slice level-slice all (written-trace stamps levels (length slice) count reply)
    (written-some stamps levels (length slice) count reply) (rw counted at few) room room-too)
