-- The longest of the lengths that wait.
use Prim.Native.Nat.{ℕ}
use mathlib.Core.Path.{◌≡◌, sym, ap, ◌∙◌}
use mathlib.Core.List.{List}
use native.Mathlib.Omega.{arith}
use lib.ListN.{length, take, replicate}
use lib.Seq.{length-take-le}
use Rattle.arbitration_rules.specs.Limits.{max_masters}
use Rattle.arbitration_rules.specs.Reply.{longest}
use Rattle.night.specs.Waiting.{waiting_in}
use Rattle.night.proofs.Contests.{take-ones}
use Rattle.night.proofs.Gathered.{joined_waiting-is}
use Rattle.night.proofs.contest.needed.Goals as goal

pub slice_bounds-joined-end : goal.slice_bounds-joined-end
slice_bounds-joined-end c = sym (length-take-le {A = ℕ} (length c.args.lengths.now) (replicate max_masters 1) c.requires)

pub joined-waiting-requires : goal.joined-waiting-requires
joined-waiting-requires c =
    let count = length c.args.lengths.now in
    let long : length (take {A = ℕ} count (replicate max_masters 1)) ≡ count =
    length-take-le {A = ℕ} count (replicate max_masters 1) c.requires in
    (omega arith, (omega (arith, long, c.requires), omega (arith, c.requires)))

pub returns : goal.returns
returns c =
    let a = c.args in
    c.longest.ensures
    ∙ ap longest
    (c.items.ensures ∙ c.joined-waiting.ensures.front ∙ joined_waiting-is a.rounds (take {A = ℕ} (length a.lengths.now) (replicate max_masters 1)) a.lengths.now
    ∙ ap (λ (l : List ℕ). waiting_in a.rounds l a.lengths.now) (take-ones (length a.lengths.now) c.requires))
