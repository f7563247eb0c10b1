-- A refusal, or the rounds put into their slice.
use Prim.Native.Nat.{ℕ, ◌<◌, ◌≤◌}
use mathlib.Core.Path.{◌≡◌, refl, sym}
use native.Mathlib.Omega.{arith}
use lib.ListN.{length, get_or, take}
use lib.Seq.{length-take-le}
use Rattle.arbitration_rules.specs.Limits.{max_masters}
use Rattle.arbitration_rules.specs.Reply.{asked}
use Rattle.arbitration.proofs.Given.{bytes_below}
use Rattle.night.proofs.Entering.{length-mapped}
use Rattle.night.proofs.Lending.{refused-leaves, rounds-room, masters-few, ran-leaves}
use borrow.Author.Rules.{rules}
use Rattle.night.proofs.lent.settle.Goals as goal

pub returns-then-refusal-ne0 : goal.returns-then-refusal-ne0
returns-then-refusal-ne0 c =
    let a = c.args in
    let request = asked a.bytes.now a.parts.now a.counts.now a.acks.now in
    let night = c.rehearse-run in
    refused-leaves request a.rounds.now a.table_room _ night.result night.ensures c.if-refusal-ne0.true

pub slice_bounds-list-end : goal.slice_bounds-list-end
slice_bounds-list-end c =
    let a = c.args in
    let request = asked a.bytes.now a.parts.now a.counts.now a.acks.now in
    let night = c.rehearse-run in
    let below : (i : ℕ) → get_or a.bytes.now i 0 < 256 =
    λ i. omega (arith, c.shared_slice_known-1.given i) in
    let small = bytes_below a.bytes.now below in
    let none_so = c.if-refusal-ne0.false in
    let few : length a.counts.now ≤ max_masters =
    masters-few request a.rounds.now a.table_room _ night.result night.ensures small none_so refl in
    let long : length night.result.rounds ≡ max_masters = search (rules, length-mapped) in
    let within : length a.counts.now ≤ length night.result.rounds = omega (arith, few, long) in
    within

pub slice_bounds-put_rounds-end : goal.slice_bounds-put_rounds-end
slice_bounds-put_rounds-end c =
    let a = c.args in
    let request = asked a.bytes.now a.parts.now a.counts.now a.acks.now in
    let night = c.rehearse-run in
    let below : (i : ℕ) → get_or a.bytes.now i 0 < 256 =
    λ i. omega (arith, c.shared_slice_known-1.given i) in
    let small = bytes_below a.bytes.now below in
    let none_so = c.if-refusal-ne0.false in
    let few : length a.counts.now ≤ max_masters =
    masters-few request a.rounds.now a.table_room _ night.result night.ensures small none_so refl in
    let long : length night.result.rounds ≡ max_masters = search (rules, length-mapped) in
    let within : length a.counts.now ≤ length night.result.rounds = omega (arith, few, long) in
    sym (length-take-le (length a.counts.now) night.result.rounds within)

pub put_rounds-requires : goal.put_rounds-requires
put_rounds-requires c =
    let a = c.args in
    let request = asked a.bytes.now a.parts.now a.counts.now a.acks.now in
    let night = c.rehearse-run in
    let below : (i : ℕ) → get_or a.bytes.now i 0 < 256 =
    λ i. omega (arith, c.shared_slice_known-1.given i) in
    let small = bytes_below a.bytes.now below in
    let none_so = c.if-refusal-ne0.false in
    let few : length a.counts.now ≤ max_masters =
    masters-few request a.rounds.now a.table_room _ night.result night.ensures small none_so refl in
    let long : length night.result.rounds ≡ max_masters = search (rules, length-mapped) in
    let within : length a.counts.now ≤ length night.result.rounds = omega (arith, few, long) in
    let taken : length (take (length a.counts.now) night.result.rounds) ≡ length a.counts.now =
    length-take-le (length a.counts.now) night.result.rounds within in
    let enough : length a.counts.now ≤ length a.rounds.now =
    rounds-room request a.rounds.now a.table_room _ night.result night.ensures small none_so refl in
    omega (arith, taken, enough)

pub returns : goal.returns
returns c =
    let a = c.args in
    let request = asked a.bytes.now a.parts.now a.counts.now a.acks.now in
    let night = c.rehearse-run in
    let below : (i : ℕ) → get_or a.bytes.now i 0 < 256 =
    λ i. omega (arith, c.shared_slice_known-1.given i) in
    let small = bytes_below a.bytes.now below in
    let none_so = c.if-refusal-ne0.false in
    rw c.put_rounds.ensures
    (ran-leaves request a.rounds.now a.table_room _ night.result night.ensures small none_so refl)
