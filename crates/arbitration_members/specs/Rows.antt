-- Messages as rows, one for each of the most masters: what a message sends, filled up with 256, a byte of 0.
use Rattle.std.specs.Prelude.{ℕ, ◌-◌, List, ◌++◌, map, length, take, replicate}
use Rattle.arbitration_rules.specs.Limits.{max_masters, max_length}
use Rattle.arbitration_rules.specs.Outcome.{sent_at}

abbrev pub empty_row : List ℕ
empty_row = replicate max_length 256

abbrev pub row_of : List ℕ → List ℕ
row_of message = take max_length message ++ replicate (max_length - length message) 256

unfoldable pub rows_of : List (List ℕ) → List (List ℕ)
rows_of messages = map row_of (take max_masters messages) ++ replicate (max_masters - length messages) empty_row

-- what each row sends at an index
abbrev pub column_of : List (List ℕ) → ℕ → List ℕ
column_of rows index = map (sent_at index) rows
