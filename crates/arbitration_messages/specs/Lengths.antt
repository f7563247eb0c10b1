-- The lengths of messages as they are gathered, for contracts inside the crate.
use Rattle.std.specs.Prelude.{ℕ, suc, Bool, cond, ◌||◌, ltb}
use mathlib.Core.List.{List, zip_with}
use Rattle.laws.specs.Search.{any}
use Rattle.arbitration_rules.specs.Limits.{max_length}
use Rattle.arbitration_rules.specs.Reply.{is_empty, total}

-- the length of a message by its parts, one above the limit where a part is empty or it is above the limit
unfoldable pub limited : List ℕ → ℕ
limited parts = cond (any is_empty parts || ltb max_length (total parts)) (suc max_length) (total parts)

-- 13 by a message's count of parts and that length
abbrev pub bad_length : ℕ → ℕ → Bool
bad_length count length = is_empty count || ltb max_length length

abbrev pub bad_lengths_of : List ℕ → List ℕ → List Bool
bad_lengths_of counts lengths = zip_with bad_length counts lengths
