-- Each answer is the case of the definition that its tests lead to.
use mathlib.Core.Path.{◌≡◌}
use lib.ListN.{length}
use Rattle.arbitration_rules.specs.Limits.{max_masters}
use Rattle.verdict.proofs.Judged.{judged-nobody, judged-apart, judged-sent, judged-cut}
use borrow.Author.Rules.{rules}
use Rattle.std.proofs.Common.{ap, not}
use Rattle.verdict.proofs.decide.Goals as goal

pub returns-then-winner-lengths : goal.returns-then-winner-lengths
returns-then-winner-lengths c =
    let seated : length c.args.seats ≡ max_masters =
    search rules in
    let a = c.args in
    judged-nobody a.seats a.count a.lengths.now a.sent.now a.acks.now _ c.first-winner.ensures
    (seated) c.if-winner-lengths.true

pub returns-then-not-agree : goal.returns-then-not-agree
returns-then-not-agree c =
    let seated : length c.args.seats ≡ max_masters =
    search rules in
    let a = c.args in
    judged-apart a.seats a.count a.lengths.now a.sent.now a.acks.now _ c.first-winner.ensures
    (seated) _
    _ c.message_at-span.ensures.same c.agree.ensures c.if-winner-lengths.false (ap not c.if-not-agree.true)

pub returns-then-count-message : goal.returns-then-count-message
returns-then-count-message c =
    let seated : length c.args.seats ≡ max_masters =
    search rules in
    let a = c.args in
    judged-sent a.seats a.count a.lengths.now a.sent.now a.acks.now _ c.first-winner.ensures
    (seated) _
    _ c.message_at-span.ensures.same c.agree.ensures c.if-winner-lengths.false _
    c.acknowledged.ensures (ap not c.if-not-agree.false) c.if-count-message.true

pub returns : goal.returns
returns c =
    let seated : length c.args.seats ≡ max_masters =
    search rules in
    let a = c.args in
    judged-cut a.seats a.count a.lengths.now a.sent.now a.acks.now _ c.first-winner.ensures
    (seated) _
    _ c.message_at-span.ensures.same c.agree.ensures c.if-winner-lengths.false _
    c.acknowledged.ensures (ap not c.if-not-agree.false) c.if-count-message.false
