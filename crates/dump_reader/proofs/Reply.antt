-- What read answers in each case: 26, the text's refusal, 6, 8, or the samples.
use mathlib.Core.Path.{◌≡◌, refl}
use mathlib.Core.Bool.{Bool, true, ◌||◌}
use mathlib.Core.List.{List, [], ◌∷◌}
use Prim.Native.Nat.{ℕ, ◌≤◌, ◌<◌}
use borrow.Author.Tests.{lt-ltb, le-ltb}
use lib.Dec.{ltb}
use lib.ListN.{length}
use Rattle.std.specs.Prelude.{Err}
use Rattle.std.specs.Result.{result_and}
use Rattle.laws.specs.Refusals.{Check, check, refused_at, answer}
use Rattle.laws.proofs.Refusals.{Passed, answer-in_order}
use Rattle.levels.specs.Levels.{max_level}
use Rattle.trace.specs.Limits.{max_samples}
use Rattle.dump_reader.specs.declared.reader.Part.TheVariants.{Values}
use Rattle.dump_reader.specs.declared.reader.Reader.{Reader}
use Rattle.dump_reader.specs.Reading.{final, stamps_in}
use Rattle.dump_reader.specs.DumpRead.{longest_text, closed, text_checks, held, dump_read}

-- a closed text that ends among the values, with a value for each wire, is not refused
pub text_passed : (text : List ℕ) (reader : Reader) → reader.part ≡ Values → closed text ≡ true
    → reader.wave.known ≡ max_level → Passed (text_checks text reader)
text_passed text reader among ended full = rw (among, ended, full) (refl, (refl, (refl, tt)))

module _ (text : List ℕ) (stamps-room levels-room : ℕ) where
  abbrev short : Bool
  short = ltb stamps-room (length (stamps_in text)) || ltb levels-room (length (stamps_in text))

  -- the checks after the text's
  abbrev pub others : List Check
  others = check 6 (ltb max_samples (length (stamps_in text))) ∷ check 8 short ∷ []

  pub long-refused : longest_text < length text → dump_read text stamps-room levels-room ≡ Err (refused_at 26 0)
  unfolding dump_read
  long-refused long = rw (lt-ltb longest_text (length text) long) refl

  -- 6 and 8 come after what the reader after all words is refused for
  pub in_order : length text ≤ longest_text → (reader : Reader) → reader ≡ final text
      → dump_read text stamps-room levels-room
      ≡ result_and (answer (text_checks text reader) (tt {0})) (answer others (held text))
  unfolding dump_read
  in_order fits reader last =
      rw (le-ltb longest_text (length text) fits, last)
      (answer-in_order (text_checks text (final text)) others (tt {0}) (held text))
