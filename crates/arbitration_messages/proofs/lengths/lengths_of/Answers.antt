use native.Mathlib.Omega.{arith}
use Prim.Native.Nat.{ℕ, ◌-◌, ◌<◌, ◌≤◌}
use mathlib.Core.Path.{◌≡◌, refl, ap, ap₂, ◌∙◌}
use mathlib.Core.List.{List, [], ◌++◌, map}
use lib.ListN.{length, set, take, drop, replicate, length-map}
use lib.Seq.{take_all}
use Rattle.arbitration_rules.specs.Limits.{max_masters}
use Rattle.arbitration_rules.specs.Reply.{cut}
use Rattle.arbitration_rules.proofs.Cut.{cut-count}
use Rattle.laws.proofs.Loops.{gathered-more, drop-replicate}
use Rattle.arbitration_messages.specs.Lengths.{limited}
use Rattle.arbitration_messages.proofs.Limited.{limited-small}
use Rattle.arbitration_messages.proofs.Walk.{at-start, at_more, in-messages, message-is}
use borrow.Author.Rules.{rules}
use Rattle.arbitration_messages.proofs.lengths.lengths_of.Goals as goal

pub loop-i-init : goal.loop-i-init
loop-i-init c = (search rules, at-start _ _, refl)

pub end_of-to-requires : goal.end_of-to-requires
end_of-to-requires c = tt

pub offset_bounds-parts-from : goal.offset_bounds-parts-from
offset_bounds-parts-from c = omega (arith, c.end_of-to.ensures, c.loop-i.invariant.1.within)

pub slice_bounds-length_of-count : goal.slice_bounds-length_of-count
slice_bounds-length_of-count c = omega (arith, c.end_of-to.ensures, c.loop-i.invariant.1.within)

pub length_of-requires : goal.length_of-requires
length_of-requires c = tt

pub overflow_cast-lengths : goal.overflow_cast-lengths
overflow_cast-lengths c =
    let parts = c.args.parts.now in
    let own = take (c.end_of-to.result - c.loop-i.from) (drop c.loop-i.from parts) in
    omega (arith, c.length_of.ensures, limited-small own)

pub bounds-lengths-i : goal.bounds-lengths-i
bounds-lengths-i c = omega (arith, c.requires, c.loop-i-test.true)

pub loop-i-preserved : goal.loop-i-preserved
loop-i-preserved c =
    let head = c.loop-i in
    let args = c.args in
    let counts = args.counts.now in
    let parts = args.parts.now in
    let less = c.loop-i-test.true in
    let end = c.end_of-to.ensures in
    let room : head.i < length {A = ℕ} (replicate max_masters 0) =
    omega (arith, c.requires) in
    let here = in-messages counts parts head.i head.from _ head.invariant.1 less end in
    let own = message-is counts parts head.i head.from _ head.invariant.1 less end in (
      search rules,
      at_more counts parts head.i head.from _ head.invariant.1 less end,
      ap (set head.lengths head.i) (c.length_of.ensures ∙ ap limited own)
          ∙ gathered-more limited (cut counts parts) (replicate max_masters 0) head.lengths head.i []
          head.invariant.2 here room,
    )

pub returns : goal.returns
returns c =
    let head = c.loop-i in
    let counts = c.args.counts.now in
    let messages = cut counts c.args.parts.now in
    let count = cut-count counts c.args.parts.now in
    let all : length messages ≤ head.i = omega (arith, count) in
    let few : head.i ≤ max_masters = omega (arith, c.requires) in
    let left : max_masters - head.i ≡ max_masters - length (map limited messages) =
    omega (arith, length-map messages limited, count) in
    head.invariant.2
    ∙ ap₂ (λ (l : List (List ℕ)) (k : List ℕ). map limited l ++ k) (take_all head.i messages all)
    (drop-replicate 0 max_masters head.i few ∙ ap (λ (k : ℕ). replicate k 0) left)
