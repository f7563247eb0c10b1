-- The messages that wait, lent anew to an arbitration.
use Prim.Native.Nat.{ℕ, ◌<◌, ◌≤◌}
use mathlib.Core.Path.{◌≡◌, refl, sym, ap, ◌∙◌}
use mathlib.Core.List.{List, map}
use native.Mathlib.Omega.{arith}
use lib.ListN.{length, get_or, take, replicate}
use lib.Seq.{length-take-le}
use Rattle.arbitration_rules.specs.Limits.{max_masters}
use Rattle.arbitration_rules.specs.Reply.{asked, longest}
use Rattle.arbitration.proofs.Given.{bytes_below}
use Rattle.night.specs.Waiting.{waiting_in}
use Rattle.night.specs.Round.{contenders}
use Rattle.night.proofs.Contests.{take-ones, few, parts_within, bytes-within, lengths-few, needed-is}
use Rattle.night.proofs.Contests.{needed-within, lent-anew}
use Rattle.night.proofs.Gathered.{joined_waiting-is}
use borrow.Author.Rules.{rules}
use Rattle.night.proofs.contest.contest.Goals as goal

pub slice_bounds-ones-end : goal.slice_bounds-ones-end
slice_bounds-ones-end c =
    let a = c.args in
    let request = asked a.bytes.now a.parts.now a.counts.now a.acks.now in
    let passes = c.requires.unrefused in
    few request passes

pub slice_bounds-joined-end : goal.slice_bounds-joined-end
slice_bounds-joined-end c =
    let a = c.args in
    let request = asked a.bytes.now a.parts.now a.counts.now a.acks.now in
    let passes = c.requires.unrefused in
    sym (length-take-le {A = ℕ} (length a.counts.now) (replicate max_masters 1) (few request passes))

pub joined-own_counts-requires : goal.joined-own_counts-requires
joined-own_counts-requires c =
    let a = c.args in
    let request = asked a.bytes.now a.parts.now a.counts.now a.acks.now in
    let passes = c.requires.unrefused in
    let count = length a.counts.now in
    let long : length (take {A = ℕ} count (replicate max_masters 1)) ≡ count =
    length-take-le {A = ℕ} count (replicate max_masters 1) (few request passes) in
    (omega arith, (omega (arith, long, few request passes), omega (arith, few request passes)))

pub joined-own_parts-requires : goal.joined-own_parts-requires
joined-own_parts-requires c =
    let a = c.args in
    let request = asked a.bytes.now a.parts.now a.counts.now a.acks.now in
    let passes = c.requires.unrefused in
    (omega arith, (few request passes, parts_within request passes))

pub joined-own_bytes-requires : goal.joined-own_bytes-requires
joined-own_bytes-requires c =
    let a = c.args in
    let request = asked a.bytes.now a.parts.now a.counts.now a.acks.now in
    let passes = c.requires.unrefused in
    (omega arith, (omega (arith, ap length c.requires.long, lengths-few request passes), bytes-within request passes))

pub needed-heard-requires : goal.needed-heard-requires
needed-heard-requires c =
    let a = c.args in
    let request = asked a.bytes.now a.parts.now a.counts.now a.acks.now in
    let passes = c.requires.unrefused in
    omega (arith, ap length c.requires.long, lengths-few request passes)

pub slice_bounds-rehearse-end : goal.slice_bounds-rehearse-end
slice_bounds-rehearse-end c =
    let a = c.args in
    let request = asked a.bytes.now a.parts.now a.counts.now a.acks.now in
    let passes = c.requires.unrefused in
    let heard = c.needed-heard in
    let many : heard.result ≡ longest (map length (contenders request a.rounds)) =
    heard.ensures
    ∙ ap longest (ap (λ (l : List ℕ). waiting_in a.rounds (replicate (length l) 1) l) c.requires.long
    ∙ needed-is request passes a.rounds) in
    let within : heard.result ≤ length a.acks.now = omega (
      arith,
      many,
      needed-within request passes a.rounds,
    ) in
    sym (length-take-le heard.result a.acks.now within)

pub returns : goal.returns
returns c =
    let a = c.args in
    let request = asked a.bytes.now a.parts.now a.counts.now a.acks.now in
    let passes = c.requires.unrefused in
    let below : (i : ℕ) → get_or a.bytes.now i 0 < 256 =
    λ i. omega (
      arith,
      c.shared_slice_known-1.given i,
    )
    in
    let small = bytes_below a.bytes.now below in
    let heard = c.needed-heard in
    let many : heard.result ≡ longest (map length (contenders request a.rounds)) =
    heard.ensures
    ∙ ap longest (ap (λ (l : List ℕ). waiting_in a.rounds (replicate (length l) 1) l) c.requires.long
    ∙ needed-is request passes a.rounds) in
    let table : length a.modules ≡ max_masters = search rules in
    lent-anew request passes a.rounds small c.requires.someone _ _ _ _ _ _ a.modules
    c.rehearse.result table refl refl refl refl
    (c.items.ensures ∙ c.joined-own_bytes.ensures.front ∙ joined_waiting-is a.rounds a.lengths.now a.bytes.now
    ∙ ap (λ (l : List ℕ). waiting_in a.rounds l a.bytes.now) c.requires.long)
    (c.items-2.ensures ∙ c.joined-own_parts.ensures.front ∙ joined_waiting-is a.rounds a.counts.now a.parts.now)
    (c.items-3.ensures ∙ c.joined-own_counts.ensures.front
    ∙ joined_waiting-is a.rounds (take {A = ℕ} (length a.counts.now) (replicate max_masters 1)) a.counts.now
    ∙ ap (λ (l : List ℕ). waiting_in a.rounds l a.counts.now)
    (take-ones (length a.counts.now) (few request passes)))
    (ap (λ (n : ℕ). take n a.acks.now) many)
    c.rehearse.ensures
