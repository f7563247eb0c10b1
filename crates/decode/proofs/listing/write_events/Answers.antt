use native.Mathlib.Omega.{arith}
use Prim.Native.Nat.{◌≤◌, ◌<◌}
use lib.ListN.{length}
use Rattle.decode.specs.Stepping.{list_of}
use Rattle.laws.proofs.Buffer.{writing-none, writing-long, writing-room, writing_more, writing-done}
use Rattle.laws.proofs.Buffer.{progress-done}
use Rattle.decode.proofs.Passes.{passed_none, passed-more, passed-last, left-more, left-none}
use Rattle.decode.proofs.listing.write_events.Goals as goal

pub loop-level-init : goal.loop-level-init
loop-level-init c = rw c.idle-decoder.ensures (passed_none _, writing-none _ _)

pub next-step-requires : goal.next-step-requires
next-step-requires c = c.loop-level.invariant.0.sound

pub put-count-requires : goal.put-count-requires
put-count-requires c =
    let head = c.loop-level in
    let levels = c.args.levels.now in
    let step = c.next-step in
    let more : head.level-index < length levels = omega arith in
    let left = left-more levels head.decoder head.level-index step.result step.ensures more in
    writing-room _ _ _ _ _ c.requires head.invariant.1 (list_of step.result.listed) _ left

pub loop-level-preserved : goal.loop-level-preserved
loop-level-preserved c =
    let head = c.loop-level in
    let levels = c.args.levels.now in
    let step = c.next-step in
    let stored = c.put-count.ensures in
    let more : head.level-index < length levels = omega arith in
    let left = left-more levels head.decoder head.level-index step.result step.ensures more in
    rw (stored.next, stored.stored) (
      passed-more _ _ _ step.result step.ensures more head.invariant.0,
      writing_more _ _ _ _ _ c.requires head.invariant.1 (list_of step.result.listed) _ left,
    )

pub shape_of-events : goal.shape_of-events
shape_of-events c = writing-long _ _ _ _ _ c.requires c.loop-level.invariant.1

pub returns : goal.returns
returns c =
    let head = c.loop-level in
    let levels = c.args.levels.now in
    let done : length levels ≤ head.level-index = omega arith in
    let none = left-none levels head.decoder head.level-index done in record {
      last = passed-last _ _ _ done head.invariant.0;
      number = progress-done _ _ _ none head.invariant.1.progress;
      stored = writing-done _ _ _ _ _ c.requires head.invariant.1 none;
    }
