use mathlib.Core.List.{[], ◌∷◌}
use Rattle.encode.proofs.Stamps.{length-stamps, stamp-fits, stamps-more, stamps-end}
use Rattle.laws.proofs.Buffer.{writing-none, writing-long, writing_more, writing-done}
use Rattle.encode.specs.Encode.{stamps_from}
use lib.ListN.{length}
use mathlib.Core.Path.{◌≡◌}
use Prim.Native.Nat.{◌+◌, ◌*◌, ◌≤◌, ◌<◌, ◌-◌}
use native.Mathlib.Omega.{arith}
use Rattle.encode.proofs.draw.write_stamps.Goals as goal

pub loop-i-init : goal.loop-i-init
loop-i-init c =
    let args = c.args in
    let first : args.start + args.gap * 0 ≡ args.start = omega arith in
    let all : args.count - 0 ≡ args.count = omega arith in
    rw (first, all) (writing-none _ _)

pub overflow_mul-stamps : goal.overflow_mul-stamps
overflow_mul-stamps c =
    let args = c.args in
    let i = c.loop-i.i in
    omega (arith, stamp-fits args.start args.gap args.count i (omega arith))

pub overflow_add-stamps : goal.overflow_add-stamps
overflow_add-stamps c =
    let args = c.args in
    let i = c.loop-i.i in
    omega (arith, stamp-fits args.start args.gap args.count i (omega arith))

pub bounds-stamps-i : goal.bounds-stamps-i
bounds-stamps-i c =
    let args = c.args in
    let room : length (stamps_from args.start args.gap args.count) ≤ length args.stamps.now =
    rw (length-stamps args.start args.gap args.count) c.requires.2 in
    omega (arith, writing-long _ _ _ _ _ room c.loop-i.invariant, c.requires.2)

pub loop-i-preserved : goal.loop-i-preserved
loop-i-preserved c =
    let args = c.args in
    let room : length (stamps_from args.start args.gap args.count) ≤ length args.stamps.now =
    rw (length-stamps args.start args.gap args.count) c.requires.2 in
    let more : c.loop-i.i < args.count = omega arith in
    let stamp = args.start + args.gap * c.loop-i.i in
    let left = stamps-more args.start args.gap args.count _ more in
    writing_more _ _ _ _ _ room c.loop-i.invariant (stamp ∷ []) _ left

pub shape_of-stamps : goal.shape_of-stamps
shape_of-stamps c =
    let args = c.args in
    let room : length (stamps_from args.start args.gap args.count) ≤ length args.stamps.now =
    rw (length-stamps args.start args.gap args.count) c.requires.2 in
    writing-long _ _ _ _ _ room c.loop-i.invariant

pub returns : goal.returns
returns c =
    let args = c.args in
    let room : length (stamps_from args.start args.gap args.count) ≤ length args.stamps.now =
    rw (length-stamps args.start args.gap args.count) c.requires.2 in
    let done : args.count ≤ c.loop-i.i = omega arith in
    writing-done _ _ _ _ _ room c.loop-i.invariant (stamps-end args.start args.gap args.count _ done)
