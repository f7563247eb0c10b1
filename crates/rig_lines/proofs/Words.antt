-- A loop that goes from word to word of a line ends: past a word the line is shorter.
use mathlib.Core.Path.{◌≡◌, ap}
use mathlib.Core.List.{List}
use Prim.Native.Nat.{ℕ, ◌<◌}
use native.Mathlib.Omega.{arith}
use lib.ListN.{length}
use Rattle.text.specs.Words.{first_word, after_word}
use Rattle.text.proofs.Runs.{after-word-shorter}

pub past_word : (line word rest : List ℕ)
    → word ≡ first_word line → rest ≡ after_word line → 0 < length word → length rest < length line
past_word line word rest w r h =
    let full : 0 < length (first_word line) = omega (arith, ap length w) in
    omega (arith, ap length r, after-word-shorter line full)
