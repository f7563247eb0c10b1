-- The night after the arbitration of those that wait.
use Prim.Native.Nat.{ℕ, ◌<◌}
use mathlib.Core.Path.{◌≡◌, ◌∙◌}
use native.Mathlib.Omega.{arith}
use lib.ListN.{length, get_or}
use Rattle.arbitration_rules.specs.Limits.{max_masters}
use Rattle.arbitration_rules.specs.Reply.{asked}
use Rattle.arbitration.proofs.Given.{bytes_below}
use Rattle.night.proofs.Contests.{few}
use Rattle.night.proofs.Nights.{round-after}
use borrow.Author.Rules.{rules}
use Rattle.night.proofs.rounds.round.Goals as goal

pub enter-requires : goal.enter-requires
enter-requires c =
    let a = c.args in
    let request = asked a.bytes.now a.parts.now a.counts.now a.acks.now in
    (few request c.requires.0.unrefused, c.requires.1)

pub returns : goal.returns
returns c =
    let a = c.args in
    let request = asked a.bytes.now a.parts.now a.counts.now a.acks.now in
    let below : (i : ℕ) → get_or a.bytes.now i 0 < 256 =
    λ i. omega (
      arith,
      c.shared_slice_known-1.given i,
    ) in
    let small = bytes_below a.bytes.now below in
    let long : length a.standing.rounds ≡ max_masters = search rules in
    let got = c.contest-shown in
    c.enter.ensures
    ∙ round-after request small c.requires.0.unrefused a.standing a.lengths.now got.result c.requires.0
    long got.ensures
