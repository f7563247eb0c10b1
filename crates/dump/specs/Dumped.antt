-- What dump answers, refusals in the order 5, 6, 4, 7, 19, 8, and what the lent slice holds after it.
use Rattle.std.specs.Prelude.{ℕ, List, [], ◌∷◌, ◌++◌, eqb, ltb, length, Result, Ok, Err}
use Rattle.laws.specs.Buffer.{filled}
use Rattle.laws.specs.declared.Refusal.{Refusal}
use Rattle.laws.specs.Refusals.{Check, check, answer}
use Rattle.trace.specs.Trace.{trace_checks}
use Rattle.dump.specs.Text.{dump_text}

-- 19: there is no sample; 8: the slice is shorter than the text
abbrev pub dump_checks : List ℕ → List ℕ → ℕ → List Check
dump_checks stamps levels room =
    trace_checks stamps levels
    ++ check 19 (eqb (length levels) 0)
    ∷ check 8 (ltb room (length (dump_text stamps levels)))
    ∷ []

-- the first of them that applies, else the length of the text
unfoldable pub dumped : List ℕ → List ℕ → ℕ → Result ℕ Refusal
dumped stamps levels room = answer (dump_checks stamps levels room) (length (dump_text stamps levels))

-- the numbers of an answer: the refusal (0: none) and its place, and how many bytes; in a refused answer none
pub record DumpedNumbers : Type 0 where
  pub refusal : ℕ
  pub place : ℕ
  pub count : ℕ

abbrev pub dumped_numbers : Result ℕ Refusal → DumpedNumbers
dumped_numbers (Ok count) = record { refusal = 0; place = 0; count = count }
dumped_numbers (Err refusal) = record { refusal = refusal.number; place = refusal.place; count = 0 }

-- the lent slice after it: the text, and its rest as it was; after a refusal all as it was
abbrev pub text_after : Result ℕ Refusal → List ℕ → List ℕ → List ℕ → List ℕ
text_after (Ok count) stamps levels buffer = filled (dump_text stamps levels) buffer
text_after (Err refusal) stamps levels buffer = buffer
