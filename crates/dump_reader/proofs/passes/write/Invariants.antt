-- `write` puts the samples that the words passed so far complete at the slices' starts, and their rest stays.
use Prim.Native.Nat.{◌-◌}
use lib.ListN.{length}
use Rattle.dump_reader.proofs.Folds.{Stored}
use Rattle.dump_reader.proofs.passes.write.Given as goal

abbrev pub invariant-loop-word : goal.invariant-loop-word
invariant-loop-word l = Stored l.text l.initial.stamps l.initial.levels l.stamps l.levels l.reader l.count l.word

abbrev pub decreases-loop-word : goal.decreases-loop-word
decreases-loop-word l = length l.text - l.word.end
