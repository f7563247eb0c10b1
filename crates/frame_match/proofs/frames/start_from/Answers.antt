use Prim.Native.Nat.{◌≤◌, ◌<◌}
use native.Mathlib.Omega.{arith}
use mathlib.Core.Path.{◌≡◌, refl, sym, ◌∙◌}
use lib.ListN.{length}
use Rattle.frame_match.proofs.Cutting.{start-here, start-passed, start_none}
use Rattle.frame_match.proofs.frames.start_from.Goals as goal

pub loop-i-init : goal.loop-i-init
loop-i-init c = (omega arith, refl)

pub returns-then-seen-i-eq-START : goal.returns-then-seen-i-eq-START
returns-then-seen-i-eq-START c =
    let head = c.loop-i in
    let seen = c.args.seen.now in
    let less : head.i < length seen = omega arith in
    start-here seen head.i less c.if-seen-i-eq-START.true ∙ sym head.invariant.1

pub loop-i-preserved : goal.loop-i-preserved
loop-i-preserved c =
    let head = c.loop-i in
    let seen = c.args.seen.now in
    let less : head.i < length seen = omega arith in
    (omega arith, head.invariant.1 ∙ start-passed seen head.i less c.if-seen-i-eq-START.false)

pub returns : goal.returns
returns c =
    let head = c.loop-i in
    let seen = c.args.seen.now in
    let past : length seen ≤ head.i = omega arith in
    let last : c.max.result ≡ head.i = omega arith in
    last ∙ start_none seen head.i past ∙ sym head.invariant.1
