use mathlib.Core.Path.{◌≡◌, ◌∙◌}
use Prim.Native.Nat.{ℕ}
use Rattle.std.proofs.Common.{rules, tests}
use Rattle.std.proofs.lemmas.Iterator.{YieldsList-from_slice}
use Rattle.std.proofs.lemmas.Iterator.Consumers.{YieldsList-at, count_from_yields_List}
use Rattle.std.proofs.lemmas.Iterator.Search.{YieldsList-from_take_while}
use Rattle.std.proofs.lemmas.List.Folds.{length-prefix_len}
use Rattle.text.specs.Words.{run_length}
use Rattle.text.proofs.Runs.{run-within}
use Rattle.dump_reader.specs.Words.{belongs}
use Rattle.dump_reader.proofs.Spans.{prefix-run}
use Rattle.dump_reader.proofs.words.run_length.Goals as goal

pub returns : goal.returns
returns c =
    let s = c.args.s.now in
    let value : c.count.result ≡ run_length (belongs c.args.run) s =
    count_from_yields_List c.take_while.result c.count.result c.count.ensures.ran
    (YieldsList-from_take_while _ (belongs c.args.run)
    (YieldsList-at c.take_while.ensures.source (YieldsList-from_slice s (cc)))
    c.take_while.ensures.closure c.take_while.ensures.done (λ x r q k. search (rules, tests)))
    ∙ length-prefix_len {X = ℕ} (belongs c.args.run) s ∙ prefix-run (belongs c.args.run) s in
    record { value = value; upper_bound = rw value (run-within (belongs c.args.run) s) }
