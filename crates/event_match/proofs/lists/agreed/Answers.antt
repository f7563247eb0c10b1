use mathlib.Core.Path.{◌∙◌}
use Prim.Native.Nat.{ℕ}
use lib.Dec.{eqb}
use Rattle.std.specs.List.{zip}
use Rattle.std.proofs.Common.{rules, tests}
use Rattle.std.proofs.lemmas.Iterator.{YieldsList-from_slice, YieldsList-from_zip}
use Rattle.std.proofs.lemmas.Iterator.Consumers.{YieldsList-at, count_from_yields_List}
use Rattle.std.proofs.lemmas.Iterator.Search.{YieldsList-from_take_while}
use Rattle.std.proofs.lemmas.List.Folds.{length-prefix_len}
use Rattle.event_match.proofs.Agreeing.{agreed-prefix}
use Rattle.event_match.proofs.lists.agreed.Goals as goal

pub returns : goal.returns
returns c =
    let rehearsed = c.args.rehearsed.now in
    let seen = c.args.seen.now in
    count_from_yields_List c.take_while.result c.count.result c.count.ensures.ran
    (YieldsList-from_take_while _ (λ p. eqb p.0 p.1) (YieldsList-at c.take_while.ensures.source
    (YieldsList-from_zip (YieldsList-from_slice rehearsed (cc)) (YieldsList-from_slice seen (cc))))
    c.take_while.ensures.closure c.take_while.ensures.done (λ x r q k. search (rules, tests)))
    ∙ length-prefix_len {X = ℕ × ℕ} (λ p. eqb p.0 p.1) (zip rehearsed seen) ∙ agreed-prefix rehearsed seen
