-- What a buffer holds after a text is put into it, and how numbers are spelled.
use Rattle.std.specs.Prelude.{◌≡◌, cond, List, [], ◌∷◌, ◌++◌, ℕ, zero, suc, ◌+◌, ◌-◌, ◌/◌, ◌%◌, ◌≤◌, min, ltb, length, take}
use Rattle.std.proofs.lemmas.List.Edits.{sets}

-- `new` is the buffer `old` with `text` stored from position `at` on, as far as the buffer goes, and `next` the
-- position after it, at most the buffer's length. The last two follow from these: `&new[..next]` asks for them.
pub record Put (old : List ℕ) (at : ℕ) (text : List ℕ) (new : List ℕ) (next : ℕ) : Type 0 where
  pub stored : new ≡ sets old at text
  pub moved : next ≡ min (at + length text) (length old)
  pub within : next ≤ length new
  pub counted : next ≡ length (take next new)

-- the byte of a digit below 16: `0` to `9`, `A` to `F`
unfoldable pub digit_byte : ℕ → ℕ
digit_byte d = cond (ltb d 10) (48 + d) (65 + d - 10)

-- the digits of n in base 10, the most significant first, at most so many
unfoldable pub decimal_up_to : ℕ → ℕ → List ℕ
decimal_up_to zero n = []
decimal_up_to (suc most) n = cond (ltb n 10) [] (decimal_up_to most (n / 10)) ++ (digit_byte (n % 10) ∷ [])

-- n in decimal: it has no more than n + 1 digits
abbrev pub decimal_text : ℕ → List ℕ
decimal_text n = decimal_up_to (suc n) n

-- the last k hexadecimal digits of n, the most significant first
unfoldable pub hex_text : ℕ → ℕ → List ℕ
hex_text zero n = []
hex_text (suc k) n = hex_text k (n / 16) ++ (digit_byte (n % 16) ∷ [])
