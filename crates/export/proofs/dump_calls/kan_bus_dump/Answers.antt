-- The reply packed; the slice is what dump leaves.
use Prim.Native.Nat.{ℕ, ◌<◌, ◌^◌}
use native.Mathlib.Omega.{arith}
use lib.ListN.{get_or}
use Rattle.export.proofs.Small.{dumped-small}
use Rattle.export.proofs.dump_calls.kan_bus_dump.Goals as goal

pub dump_answer-requires : goal.dump_answer-requires
dump_answer-requires c =
    let stamps = c.args.stamps.now in
    let known : (i : ℕ) → get_or stamps i 0 < 2 ^ 32 = λ i. omega (arith, c.shared_slice_known-1.given i) in
    rw c.dump.ensures.answer (dumped-small _ _ _ known)

pub returns : goal.returns
returns c = record {
  answer = rw (c.dump_answer.ensures, c.dump.ensures.answer);
  buffer = rw (← c.dump.ensures.answer) c.dump.ensures.buffer;
}
