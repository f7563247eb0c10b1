use Prim.Native.Nat.{◌≤◌}
use native.Mathlib.Omega.{arith}
use lib.ListN.{length, length-append}
use Rattle.std.proofs.lemmas.Slice.Zip.{zip_turn, zip_end}
use Rattle.laws.proofs.Buffer.{writing-none}
use Rattle.trace_thin.proofs.Keeping.{keeping-long, keeping-room, keeping-more, keeping-done}
use Rattle.trace_thin.proofs.changes.write.Goals as goal

pub loop-stamp-init : goal.loop-stamp-init
loop-stamp-init c = (writing-none _ _, writing-none _ _)

pub put-found-requires : goal.put-found-requires
put-found-requires c =
    let head = c.loop-stamp in
    let args = c.args in
    let stamps = args.stamps.now in
    let levels = args.levels.now in
    let i = length head.yielded in
    let turn = zip_turn stamps levels head.yielded c.into_iter-stamp-iterator.result head.stamp-iterator c.next.new.self
    _ (cc) (cc) head.yielded_by _ c.in-Some.is c.next.ensures.steps in
    rw (turn.2 0, turn.3 0) (
      keeping-room stamps levels c.requires.0 (λ s. s.0) args.thin_stamps.now c.requires.1 head.thin_stamps head.last
          head.found i head.invariant.0 turn.0,
      keeping-room stamps levels c.requires.0 (λ s. s.1) args.thin_levels.now c.requires.2 head.thin_levels head.last
          head.found i head.invariant.1 turn.0,
    )

pub loop-stamp-preserved : goal.loop-stamp-preserved
loop-stamp-preserved c =
    let head = c.loop-stamp in
    let args = c.args in
    let stamps = args.stamps.now in
    let levels = args.levels.now in
    let i = length head.yielded in
    let put = c.put-found in
    let turn = zip_turn stamps levels head.yielded c.into_iter-stamp-iterator.result head.stamp-iterator c.next.new.self
    _ (cc) (cc) head.yielded_by _ c.in-Some.is c.next.ensures.steps in
    rw (put.ensures.next, put.ensures.stamps_stored, put.ensures.levels_stored, length-append, turn.2 0, turn.3 0) (
      keeping-more stamps levels c.requires.0 (λ s. s.0) args.thin_stamps.now c.requires.1 head.thin_stamps head.last
          head.found i head.invariant.0 turn.0,
      keeping-more stamps levels c.requires.0 (λ s. s.1) args.thin_levels.now c.requires.2 head.thin_levels head.last
          head.found i head.invariant.1 turn.0,
    )

pub shape_of-thin_stamps : goal.shape_of-thin_stamps
shape_of-thin_stamps c =
    let head = c.loop-stamp in
    let args = c.args in
    keeping-long args.stamps.now args.levels.now c.requires.0 (λ s. s.0) args.thin_stamps.now c.requires.1 head.thin_stamps
    head.last head.found (length head.yielded) head.invariant.0

pub shape_of-thin_levels : goal.shape_of-thin_levels
shape_of-thin_levels c =
    let head = c.loop-stamp in
    let args = c.args in
    keeping-long args.stamps.now args.levels.now c.requires.0 (λ s. s.1) args.thin_levels.now c.requires.2 head.thin_levels
    head.last head.found (length head.yielded) head.invariant.1

pub returns : goal.returns
returns c =
    let head = c.loop-stamp in
    let args = c.args in
    let stamps = args.stamps.now in
    let levels = args.levels.now in
    let i = length head.yielded in
    let all = zip_end stamps levels head.yielded c.into_iter-stamp-iterator.result head.stamp-iterator c.next.new.self _
    (cc) (cc) head.yielded_by c.in-None.is c.next.ensures.steps in
    let end : length stamps ≤ i = omega (arith, all) in record {
      stamps_stored = keeping-done stamps levels c.requires.0 (λ s. s.0) args.thin_stamps.now c.requires.1 head.thin_stamps
          head.last head.found i head.invariant.0 end;
      levels_stored = keeping-done stamps levels c.requires.0 (λ s. s.1) args.thin_levels.now c.requires.2 head.thin_levels
          head.last head.found i head.invariant.1 end;
    }
