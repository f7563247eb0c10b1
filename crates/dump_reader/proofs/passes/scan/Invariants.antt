-- `scan` counts the samples that the words passed so far complete.
use Prim.Native.Nat.{◌-◌}
use lib.ListN.{length}
use Rattle.dump_reader.proofs.Folds.{Counted}
use Rattle.dump_reader.proofs.passes.scan.Given as goal

abbrev pub invariant-loop-word : goal.invariant-loop-word
invariant-loop-word l = Counted l.text l.reader l.count l.word

abbrev pub decreases-loop-word : goal.decreases-loop-word
decreases-loop-word l = length l.text - l.word.end
