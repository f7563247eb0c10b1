-- `count_samples` has counted the events passed, and stops above the limit.
use Rattle.encode.specs.Encode.{sample_count}
use Rattle.trace.specs.Limits.{max_samples}
use lib.ListN.{drop}
use mathlib.Core.Path.{◌≡◌}
use Prim.Native.Nat.{◌+◌, ◌≤◌}
use Rattle.encode.proofs.frames.count_samples.Given as goal

abbrev pub invariant-loop-event : goal.invariant-loop-event
invariant-loop-event l = (l.count ≤ max_samples) × (sample_count l.events + 1 ≡ l.count + sample_count (drop l.event-index l.events))
