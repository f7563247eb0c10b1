-- `text::output::put_bytes` meets its contract. The invariant: the bytes passed have been put.
use Prim.Native.Nat.{◌≤◌}
use lib.ListN.{length, take}
use Rattle.text.specs.Output.{Put}
use Rattle.text.proofs.output.put_bytes.Given as goal

abbrev pub invariant-loop-b : goal.invariant-loop-b
invariant-loop-b l = (l.b-index ≤ length l.text) × Put l.initial.out l.at (take l.b-index l.text) l.out l.next
