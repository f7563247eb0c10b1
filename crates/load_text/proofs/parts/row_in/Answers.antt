-- `load_text::parts::row_in` meets its contract.
use mathlib.Core.Path.{◌≡◌, ap}
use mathlib.Core.List.{[]}
use Prim.Native.Nat.{ℕ, ◌≤◌}
use lib.ListN.{length, get_or}
use Rattle.load_text.specs.Messages.{rows_in}
use Rattle.load_text.proofs.Begun.{short}
use Rattle.load_text.proofs.parts.row_in.Goals as goal

pub returns : goal.returns
unfolding rows_in
returns c =
    let args = c.args in
    let row : c.message_in.result.now ≡ get_or (rows_in args.rows.now) args.board [] = c.message_in.ensures in
    record { result_value = row; result_len_bound = le_of (ap length row) (short args.rows.now args.board) }
  where
    le_of : {a b k : ℕ} → a ≡ b → b ≤ k → a ≤ k
    le_of e h = rw e h
