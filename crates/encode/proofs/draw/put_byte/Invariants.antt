-- `put_byte` draws a byte's bits and the ninth, one after the other.
use Rattle.encode.specs.Encode.{byte_bits, draw_bits}
use lib.Seq.{sets}
use lib.ListN.{take}
use mathlib.Core.List.{List, [], ◌∷◌, ◌++◌}
use mathlib.Core.Bool.{Bool}
use mathlib.Core.Path.{◌≡◌}
use Prim.Native.Nat.{ℕ}
use Rattle.encode.proofs.draw.put_byte.Given as goal

abbrev nine : ℕ → Bool → List Bool
nine byte ninth = byte_bits byte ++ ninth ∷ []

abbrev pub invariant-loop-k : goal.invariant-loop-k
invariant-loop-k l =
    l.levels ≡ sets l.initial.levels l.at (draw_bits (take l.k (nine l.byte l.ninth)))
