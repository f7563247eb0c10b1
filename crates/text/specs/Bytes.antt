-- Bytes of a text in quotes.
use Rattle.std.specs.Prelude.{List, [], ◌∷◌, ℕ}
use Prim.Native.Char.{code}
use Prim.Native.String.{String, [] as none, ◌∷◌ as ◌∷ₛ◌}

abbrev pub ascii : String → List ℕ
ascii none = []
ascii (c ∷ₛ text) = code c ∷ ascii text
