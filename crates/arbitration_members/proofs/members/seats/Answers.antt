use native.Mathlib.Omega.{arith}
use Prim.Native.Nat.{ℕ, ◌<◌, ◌-◌, min}
use mathlib.Core.Path.{◌≡◌, refl, ap, ap₂, ◌∙◌}
use mathlib.Core.Bool.{false}
use mathlib.Core.List.{List, ◌++◌, zip_with}
use lib.ListN.{length, take, replicate, length-replicate}
use Rattle.laws.proofs.Lists.{take_min}
use Rattle.laws.proofs.Loops.{paired-more, drop-replicate}
use Rattle.arbitration_rules.specs.Limits.{max_masters}
use Rattle.arbitration_rules.specs.declared.Seat.{Seat}
use Rattle.arbitration_members.specs.Members.{seat_of, writes_clear}
use Rattle.arbitration_members.proofs.members.seats.Goals as goal

pub loop-i-init : goal.loop-i-init
unfolding zip_with
loop-i-init c = (omega arith, refl)

pub loop-i-preserved : goal.loop-i-preserved
loop-i-preserved c =
    let head = c.loop-i in
    let a = c.args in
    let less : head.i < length a.contending = omega arith in
    let less_other : head.i < length a.positions = omega arith in
    let room : head.i < length (replicate max_masters c.seat_of-out.result) =
    omega (arith, length-replicate max_masters c.seat_of-out.result) in (
      omega arith,
      rw c.seat_of.ensures (paired-more (seat_of writes_clear) _ _ _ _ _ false 0 head.invariant.1 less
          less_other room),
    )

pub returns : goal.returns
returns c =
    let head = c.loop-i in
    let a = c.args in
    let here : head.i ≡ min (length a.contending) a.count = omega (arith, head.invariant.0) in
    let there : head.i ≡ min (length a.positions) a.count = omega (arith, head.invariant.0) in
    let left : max_masters - head.i ≡ max_masters - a.count = omega (arith, here) in
    head.invariant.1
    ∙ ap₂ (λ (seats rest : List Seat). seats ++ rest)
    (ap₂ (zip_with (seat_of writes_clear)) (ap (λ (n : ℕ). take n a.contending) here ∙ take_min a.count a.contending)
    (ap (λ (n : ℕ). take n a.positions) there ∙ take_min a.count a.positions))
    (drop-replicate c.seat_of-out.result max_masters head.i (omega (arith, here))
    ∙ ap₂ (λ (n : ℕ) (seat : Seat). replicate n seat) left c.seat_of-out.ensures)
