use native.Mathlib.Omega.{arith}
use Prim.Native.Nat.{◌<◌}
use mathlib.Core.Path.{◌≡◌, ◌∙◌}
use lib.ListN.{length}
use Rattle.laws.proofs.Search.{passed_start, passed-more, found_first, none_first}
use Rattle.arbitration_rules.specs.Limits.{max_masters}
use Rattle.verdict.specs.Verdict.{still_in}
use borrow.Author.Rules.{rules}
use Rattle.verdict.proofs.contenders.first.Goals as goal

pub loop-i-init : goal.loop-i-init
loop-i-init c = passed_start still_in _

pub returns-then-seat : goal.returns-then-seat
returns-then-seat c =
    let less : c.loop-i.i < length c.args.seats = search rules in
    found_first still_in _ _ _ c.loop-i.invariant less c.if-seat.true

pub loop-i-preserved : goal.loop-i-preserved
loop-i-preserved c =
    let less : c.loop-i.i < length c.args.seats = search rules in
    passed-more still_in _ _ _ c.loop-i.invariant less c.if-seat.false

pub returns : goal.returns
returns c =
    let long : length c.args.seats ≡ max_masters = search rules in
    let all : max_masters ≡ c.loop-i.i = omega arith in
    all ∙ none_first still_in _ _ c.loop-i.invariant (omega arith)
