-- Request 2's case as a whole, and a record that each number refuses, as dump answers them.
use mathlib.Core.Path.{◌≡◌, refl}
use mathlib.Core.List.{List, [], ◌∷◌, ◌++◌}
use Prim.Native.Nat.{ℕ}
use lib.ListN.{replicate}
use Rattle.std.specs.Prelude.{Result, Ok, Err}
use Rattle.laws.specs.Buffer.{filled}
use Rattle.laws.specs.declared.Refusal.{Refusal}
use Rattle.laws.specs.Refusals.{refused_at}
use Rattle.text.specs.Bytes.{ascii}
use Rattle.text.specs.Output.{digit_byte, decimal_up_to}
use Rattle.dump.specs.Text.{header, stamp_line, value_line, change_line, sample_text}
use Rattle.dump.specs.Dumped.{dumped, text_after}

-- stamps 5 6 9, levels 3 3 1: a file of 142 bytes
abbrev pub case : ℕ → Result ℕ Refusal
case room = dumped (5 ∷ 6 ∷ 9 ∷ []) (3 ∷ 3 ∷ 1 ∷ []) room

abbrev pub file : List ℕ
file =
    ascii "$timescale 100 ns $end\n$scope module bus $end\n$var wire 1 ! scl $end\n$var wire 1 \" sda $end\n"
    ++ ascii "$upscope $end\n$enddefinitions $end\n"
    ++ ascii "#5\n1!\n1\"\n#9\n0\"\n"

pub case-reply : case 142 ≡ Ok 142
unfolding dumped header stamp_line value_line change_line sample_text digit_byte decimal_up_to
case-reply = refl

pub case-slice : (buffer : List ℕ) → text_after (case 142) (5 ∷ 6 ∷ 9 ∷ []) (3 ∷ 3 ∷ 1 ∷ []) buffer ≡ filled file buffer
unfolding dumped header stamp_line value_line change_line sample_text digit_byte decimal_up_to
case-slice buffer = refl

-- one byte less is too short
pub case-short : case 141 ≡ Err (refused_at 8 0)
unfolding dumped header stamp_line value_line change_line sample_text digit_byte decimal_up_to
case-short = refl

-- 5, 6, 4 and 7 as in every trace, then 19; each where the later ones apply too
pub refused-by-5 : dumped (0 ∷ []) [] 0 ≡ Err (refused_at 5 0)
unfolding dumped
refused-by-5 = refl

pub refused-by-6 : dumped (replicate 4097 0) (replicate 4097 4) 0 ≡ Err (refused_at 6 0)
unfolding dumped
refused-by-6 = refl

pub refused-by-4 : dumped (9 ∷ 9 ∷ 9 ∷ []) (3 ∷ 1 ∷ 4 ∷ []) 0 ≡ Err (refused_at 4 2)
unfolding dumped
refused-by-4 = refl

pub refused-by-7 : dumped (8 ∷ 9 ∷ 9 ∷ []) (3 ∷ 1 ∷ 3 ∷ []) 0 ≡ Err (refused_at 7 2)
unfolding dumped
refused-by-7 = refl

pub refused-by-19 : dumped [] [] 0 ≡ Err (refused_at 19 0)
unfolding dumped
refused-by-19 = refl

-- whatever slice is lent, no refusal changes it
pub refusal-leaves : (number place : ℕ) (stamps levels buffer : List ℕ)
    → text_after (Err (refused_at number place)) stamps levels buffer ≡ buffer
refusal-leaves number place stamps levels buffer = refl
