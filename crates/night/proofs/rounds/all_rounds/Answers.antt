use Prim.Native.Nat.{◌≤◌}
use mathlib.Core.Path.{sym, ◌∙◌}
use native.Mathlib.Omega.{arith}
use lib.ListN.{length}
use lib.Seq.{length-take-le}
use Rattle.arbitration_rules.specs.Reply.{asked}
use Rattle.arbitration_rules.proofs.Pieces.{Bytes}
use Rattle.arbitration.proofs.Given.{bytes_below}
use Rattle.night.proofs.Contests.{few}
use Rattle.night.proofs.Nights.{most-few, stands-first, stands-inside, stands_on, stands-over, stands-long}
use Rattle.night.proofs.rounds.all_rounds.Goals as goal

pub loop-standing-init : goal.loop-standing-init
loop-standing-init c =
    let bytes_small : Bytes c.args.bytes.now =
    bytes_below c.args.bytes.now (λ i. omega (arith, c.shared_slice_known-1.given i)) in
    let a = c.args in
    let request = asked a.bytes.now a.parts.now a.counts.now a.acks.now in
    let small = bytes_small in
    (omega arith, stands-first request small c.requires.0 a.modules)

pub slice_bounds-rounds-end : goal.slice_bounds-rounds-end
slice_bounds-rounds-end c =
    let bytes_small : Bytes c.args.bytes.now =
    bytes_below c.args.bytes.now (λ i. omega (arith, c.shared_slice_known-1.given i)) in
    let head = c.loop-standing in
    let a = c.args in
    let request = asked a.bytes.now a.parts.now a.counts.now a.acks.now in
    let small = bytes_small in
    let passes = c.requires.0 in
    let long = stands-long request small passes a.modules head.standing head.invariant.0 head.invariant.1 in
    omega (arith, long, few request passes)

pub slice_bounds-any_waits-end : goal.slice_bounds-any_waits-end
slice_bounds-any_waits-end c =
    let bytes_small : Bytes c.args.bytes.now =
    bytes_below c.args.bytes.now (λ i. omega (arith, c.shared_slice_known-1.given i)) in
    let head = c.loop-standing in
    let a = c.args in
    let request = asked a.bytes.now a.parts.now a.counts.now a.acks.now in
    let small = bytes_small in
    let passes = c.requires.0 in
    let long = stands-long request small passes a.modules head.standing head.invariant.0 head.invariant.1 in
    let within : length a.counts.now ≤ length head.standing.rounds = omega (arith, long, few request passes) in
    sym (length-take-le (length a.counts.now) head.standing.rounds within)

pub returns-then-not-any_waits : goal.returns-then-not-any_waits
returns-then-not-any_waits c =
    let bytes_small : Bytes c.args.bytes.now =
    bytes_below c.args.bytes.now (λ i. omega (arith, c.shared_slice_known-1.given i)) in
    let head = c.loop-standing in
    let a = c.args in
    let request = asked a.bytes.now a.parts.now a.counts.now a.acks.now in
    let small = bytes_small in
    let passes = c.requires.0 in
    let nobody = sym c.any_waits.ensures ∙ c.if-not-any_waits.true in
    stands-over request small passes a.modules head.standing head.invariant.0 head.invariant.1 nobody

pub round-next-requires : goal.round-next-requires
round-next-requires c =
    let bytes_small : Bytes c.args.bytes.now =
    bytes_below c.args.bytes.now (λ i. omega (arith, c.shared_slice_known-1.given i)) in
    let head = c.loop-standing in
    let a = c.args in
    let request = asked a.bytes.now a.parts.now a.counts.now a.acks.now in
    let small = bytes_small in
    let passes = c.requires.0 in
    let some = sym c.any_waits.ensures ∙ c.if-not-any_waits.false in
    let inside = stands-inside request small passes a.modules head.standing head.invariant.0 head.invariant.1 some
    in (
      record { unrefused = passes; someone = some; long = c.requires.1 },
      omega (arith, inside, most-few request small passes a.modules),
    )

pub loop-standing-smaller : goal.loop-standing-smaller
loop-standing-smaller c =
    let bytes_small : Bytes c.args.bytes.now =
    bytes_below c.args.bytes.now (λ i. omega (arith, c.shared_slice_known-1.given i)) in
    let head = c.loop-standing in
    let a = c.args in
    let request = asked a.bytes.now a.parts.now a.counts.now a.acks.now in
    let small = bytes_small in
    let passes = c.requires.0 in
    let some = sym c.any_waits.ensures ∙ c.if-not-any_waits.false in
    let inside = stands-inside request small passes a.modules head.standing head.invariant.0 head.invariant.1 some in
    let on = stands_on request small passes a.modules head.standing head.invariant.0 head.invariant.1
    c.round-next.result some c.round-next.ensures in
    omega (arith, inside, on.0)

pub loop-standing-preserved : goal.loop-standing-preserved
loop-standing-preserved c =
    let bytes_small : Bytes c.args.bytes.now =
    bytes_below c.args.bytes.now (λ i. omega (arith, c.shared_slice_known-1.given i)) in
    let head = c.loop-standing in
    let a = c.args in
    let request = asked a.bytes.now a.parts.now a.counts.now a.acks.now in
    let small = bytes_small in
    let passes = c.requires.0 in
    let some = sym c.any_waits.ensures ∙ c.if-not-any_waits.false in
    let inside = stands-inside request small passes a.modules head.standing head.invariant.0 head.invariant.1 some in
    let on = stands_on request small passes a.modules head.standing head.invariant.0 head.invariant.1
    c.round-next.result some c.round-next.ensures in
    (omega (arith, inside, on.0), on.1)
