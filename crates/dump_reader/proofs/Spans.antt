-- Parts of a text, and where a word lies in it.
use mathlib.Core.Path.{◌≡◌, refl, sym, ap, ◌∙◌}
use mathlib.Core.Bool.{Bool, cond}
use mathlib.Core.List.{List, [], ◌∷◌}
use Prim.Native.Nat.{ℕ, zero, suc, ◌+◌, ◌-◌, ◌≤◌, ◌<◌, min}
use native.Mathlib.Omega.{arith}
use lib.ListN.{length, take, drop, length-drop}
use lib.Seq.{length-take-le, take-nil}
use Rattle.std.specs.List.{prefix_len}
use Rattle.std.proofs.lemmas.List.{drop-take}
use Rattle.laws.proofs.Lists.{take-least, drop-least}
use Rattle.text.specs.Words.{run_length}
use Rattle.text.proofs.Runs.{to_end, run-within}
use Rattle.dump_reader.specs.declared.words.Run.{Run}
use Rattle.dump_reader.specs.declared.words.Word.{Word}
use Rattle.dump_reader.specs.declared.words.Run.TheVariants.{Parting, Word as InWord}
use Rattle.dump_reader.specs.Words.{belongs, word_start, word_from, bytes_of}

-- the part from the lesser of a place and the length is what `drop` leaves
pub tail-is : (start from : ℕ) (text : List ℕ) → start ≡ min from (length text)
    → take (length text - start) (drop start text) ≡ drop from text
tail-is start from text least =
    to_end start text ∙ ap (λ (k : ℕ). drop k text) least ∙ drop-least from text

-- what is left of a front is the front of what is left
drop-front : (from to : ℕ) (text : List ℕ) → drop from (take to text) ≡ take (to - from) (drop from text)
drop-front zero to text = let all : to - 0 ≡ to = omega arith in rw all
drop-front (suc from) zero text = let none : 0 - suc from ≡ 0 = omega arith in rw none
drop-front (suc from) (suc to) [] = sym (take-nil (suc to - suc from))
drop-front (suc from) (suc to) (b ∷ text) =
    let less : suc to - suc from ≡ to - from = omega arith in
    rw less (drop-front from to text)

-- the bytes of a word, as far as the text goes
pub bytes-are : (text : List ℕ) (word : Word) (start end : ℕ) → end ≡ min word.end (length text) → start ≡ min word.start end
    → take (end - start) (drop start text) ≡ bytes_of text word
bytes-are text word start end is-end is-start =
    let all : start + (end - start) ≡ end = omega arith in
    let long : length (take end text) ≡ end = length-take-le end text (omega arith) in
    sym (rw all at (drop-take start (end - start) text))
    ∙ ap (λ (k : ℕ). drop k (take end text)) (is-start ∙ ap (min word.start) (sym long))
    ∙ drop-least word.start (take end text)
    ∙ ap (λ (k : ℕ). drop word.start (take k text)) is-end
    ∙ ap (drop word.start) (take-least word.end text)
    ∙ drop-front word.start word.end text

-- how many bytes from the front on are in a run
pub prefix-run : (test : ℕ → Bool) (s : List ℕ) → prefix_len test s ≡ run_length test s
unfolding run_length
prefix-run test [] = refl
prefix-run test (b ∷ s) =
    let more : 1 + run_length test s ≡ suc (run_length test s) = omega arith in
    rw (prefix-run test s) (ap (λ (n : ℕ). cond (test b) n 0) more)

-- a run from a place on ends within the text
pub run_ends : (run : Run) (text : List ℕ) (from : ℕ) → from ≤ length text
    → from + run_length (belongs run) (drop from text) ≤ length text
run_ends run text from within = omega (
  arith,
  run-within (belongs run) (drop from text),
  length-drop from text,
)

pub word-start : (text : List ℕ) (from : ℕ) → from ≤ length text → word_start text from ≤ length text
word-start text from within = run_ends Parting text from within

pub word_end : (text : List ℕ) (from : ℕ) → from ≤ length text → (word_from text from).end ≤ length text
word_end text from within = run_ends InWord text (word_start text from) (word-start text from within)

pub word_after : (text : List ℕ) (from : ℕ) → from ≤ (word_from text from).end
word_after text from = omega arith

-- the next word ends further on
pub next-after : (text : List ℕ) (word next : Word) → next ≡ word_from text (word.end + 1) → word.end < next.end
next-after text word next is = rw is (omega (arith, word_after text (word.end + 1)))

-- a run from a place on does not pass a limit that both the place and the text's length keep
pub run_fits : (limit from run : ℕ) (text rest : List ℕ) → rest ≡ drop from text → run ≤ length rest → from < limit
    → length text < limit → from + run < limit
run_fits limit from run text rest same within small few =
    omega (arith, ap length same, length-drop from text)
