-- `load_text::parts::count_in` meets its contract.
use mathlib.Core.Path.{ap, ◌∙◌}
use mathlib.Core.List.{List}
use Prim.Native.Nat.{ℕ, ◌≤◌}
use native.Mathlib.Omega.{arith}
use lib.ListN.{length}
use Rattle.arbitration_rules.specs.Limits.{max_length}
use Rattle.load_text.specs.Messages.{part_lengths}
use Rattle.load_text.proofs.Begun.{parts-few, count_at}
use borrow.Author.Rules.{rules}
use Rattle.load_text.proofs.parts.count_in.Goals as goal

pub overflow_cast-result : goal.overflow_cast-result
overflow_cast-result c =
    let row = c.row_in in
    let few : c.count_parts.result ≤ max_length =
    omega (arith, c.count_parts.ensures, parts-few row.result.now, row.ensures.result_len_bound) in
    search rules

pub returns : goal.returns
returns c =
    let args = c.args in
    c.count_parts.ensures
    ∙ ap (λ (l : List ℕ). length (part_lengths l)) c.row_in.ensures.result_value
    ∙ count_at args.rows.now args.board
