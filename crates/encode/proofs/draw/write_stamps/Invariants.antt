-- `write_stamps` puts the first stamps at the slice's start, and its rest stays.
use Rattle.laws.proofs.Buffer.{Writing}
use Rattle.encode.specs.Encode.{stamps_from}
use Prim.Native.Nat.{◌+◌, ◌*◌, ◌-◌}
use Rattle.encode.proofs.draw.write_stamps.Given as goal

abbrev pub invariant-loop-i : goal.invariant-loop-i
invariant-loop-i l = Writing (stamps_from l.start l.gap l.count) (stamps_from (l.start + l.gap * l.i) l.gap (l.count - l.i)) l.initial.stamps l.stamps l.i
