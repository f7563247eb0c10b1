-- Bytes of a text.
use Rattle.std.specs.Prelude.{Bool, true, not, ◌&&◌, ◌||◌, List, [], ◌∷◌, ℕ, eqb, ltb}
pub use Rattle.text.specs.Bytes.{ascii}

-- a control byte: below 20h, or 7Fh
abbrev pub control : ℕ → Bool
control b = ltb b 0x20 || eqb b 0x7f

-- a byte of a line of text: no control byte but tab and carriage return
abbrev pub plain : ℕ → Bool
plain b = not (control b && not (eqb b 0x09) && not (eqb b 0x0d))

-- every byte of a text passes a test
unfoldable pub every : (ℕ → Bool) → List ℕ → Bool
every test [] = true
every test (b ∷ text) = test b && every test text
