-- The bytes passed so far are added to their marks.
use Prim.Native.Nat.{◌+◌, ◌≤◌}
use mathlib.Core.Path.{◌≡◌}
use lib.ListN.{length}
use Rattle.laws.proofs.Loops.{paired}
use Rattle.arbitration_messages.proofs.marks.joined.Given as goal

abbrev pub invariant-loop-i : goal.invariant-loop-i
invariant-loop-i l = (l.i ≤ length l.bytes) × (l.sent ≡ paired ◌+◌ l.bytes l.marks l.marks l.i)
