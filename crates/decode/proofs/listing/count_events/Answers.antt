use native.Mathlib.Omega.{arith}
use Prim.Native.Nat.{◌≤◌, ◌<◌}
use lib.ListN.{length}
use Rattle.decode.specs.Stepping.{list_of}
use Rattle.laws.proofs.Buffer.{progress-none, progress-more, progress-done}
use Rattle.decode.proofs.Passes.{passed_none, passed-more, left-more, left-none}
use Rattle.decode.proofs.listing.count_events.Goals as goal

pub loop-level-init : goal.loop-level-init
loop-level-init c = rw c.idle-decoder.ensures (passed_none _, progress-none _)

pub next-step-requires : goal.next-step-requires
next-step-requires c = c.loop-level.invariant.0.sound

pub counted-count-requires : goal.counted-count-requires
counted-count-requires c = omega (arith, c.loop-level.invariant.0.few)

pub loop-level-preserved : goal.loop-level-preserved
loop-level-preserved c =
    let head = c.loop-level in
    let levels = c.args.levels.now in
    let step = c.next-step in
    let more : head.level-index < length levels = omega arith in
    let left = left-more levels head.decoder head.level-index step.result step.ensures more in
    rw c.counted-count.ensures (
      passed-more _ _ _ step.result step.ensures more head.invariant.0,
      progress-more _ _ (list_of step.result.listed) _ _ left head.invariant.1,
    )

pub returns : goal.returns
returns c =
    let head = c.loop-level in
    let levels = c.args.levels.now in
    let done : length levels ≤ head.level-index = omega arith in
    progress-done _ _ _ (left-none levels head.decoder head.level-index done) head.invariant.1
