use Prim.Native.Nat.{ℕ, ◌+◌, ◌≤◌, ◌<◌}
use mathlib.Core.Path.{◌≡◌, refl, sym, ap₂, ◌∙◌}
use native.Mathlib.Omega.{arith}
use lib.ListN.{length, get_or, length-set}
use Rattle.night_rules.specs.Night.{waits}
use Rattle.arbitration_rules.specs.Limits.{max_masters}
use Rattle.night.specs.Carried.{entered_by}
use Rattle.night.proofs.Entering.{rounds-start, modules-start, rounds-done, modules-done}
use Rattle.night.proofs.Entering.{rounds-more, modules-more, length-mapped, seat-within}
use mathlib.Core.List.{List}
use Rattle.usi.specs.declared.Usi.{Usi}
use Rattle.night.specs.declared.carried.Standing.{Standing}
use borrow.Author.Rules.{rules}
use Rattle.night.proofs.carried.enter.Goals as goal

pub loop-i-init : goal.loop-i-init
loop-i-init c = (search rules, search rules, search (rules, length-mapped), refl, refl)

pub loop-i-preserved : goal.loop-i-preserved
loop-i-preserved c =
    let head = c.loop-i in
    let a = c.args in
    let less : head.i < a.count = omega arith in
    let most : a.count ≤ max_masters = c.requires.0 in
    let in-rounds : head.i < length head.rounds = omega (arith, head.invariant.1, less, most) in
    let in-modules : head.i < length head.modules = omega (arith, head.invariant.2, less, most) in
    let all-seats : length a.seats ≡ max_masters = search (rules, length-mapped) in
    let all_left : length a.left ≡ max_masters = search (rules, length-mapped) in
    let in-seats : head.seat < length a.seats = omega (arith, head.invariant.0, less, most, all-seats) in
    let in_left : head.seat < length a.left = omega (arith, head.invariant.0, less, most, all_left) in (
      seat-within (waits (get_or head.rounds head.i 0)) head.seat c.seat_after-seat.result head.i c.seat_after-seat.ensures head.invariant.0,
      length-set head.rounds head.i c.round_of.result ∙ head.invariant.1,
      length-set head.modules head.i c.module_of-usi.result ∙ head.invariant.2,
      head.invariant.3
          ∙ rounds-more a.count (a.standing.count + 1) a.seats a.left head.rounds head.modules head.i
          head.seat c.seat_after-seat.result _ _ c.round_of.result c.module_of-usi.result _
          refl c.round_of.ensures c.module_of-usi.ensures c.seat_after-seat.ensures less
          in-rounds in-modules in-seats in_left,
      head.invariant.4
          ∙ modules-more a.count (a.standing.count + 1) a.seats a.left head.rounds head.modules head.i
          head.seat c.seat_after-seat.result _ _ c.round_of.result c.module_of-usi.result _
          refl c.round_of.ensures c.module_of-usi.ensures c.seat_after-seat.ensures less
          in-rounds in-modules in-seats in_left,
    )

pub returns : goal.returns
unfolding entered_by
returns c =
    let head = c.loop-i in
    let a = c.args in
    let number = a.standing.count + 1 in
    let end : head.i ≡ a.count = omega arith in
    ap₂ (λ (rounds : List ℕ) (modules : List Usi). made number rounds modules)
    (sym (rounds-done a.count number a.seats a.left head.rounds head.i head.seat end) ∙ sym head.invariant.3
    ∙ rounds-start a.count number a.seats a.left a.standing.rounds)
    (sym (modules-done a.count number a.seats a.left head.rounds head.modules head.i head.seat end)
    ∙ sym head.invariant.4
    ∙ modules-start a.count number a.seats a.left a.standing.rounds a.standing.modules)
  where
    made : ℕ → List ℕ → List Usi → Standing
    made count rounds modules = record { count = count; rounds = rounds; modules = modules }
