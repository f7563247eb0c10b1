-- A refusal's place lies within the text, or at its end.
use mathlib.Core.Path.{◌≡◌, refl}
use mathlib.Core.Bool.{Bool, true, false, cond, ◌&&◌, ◌||◌}
use mathlib.Core.List.{List, [], ◌∷◌}
use Prim.Native.Nat.{ℕ, zero, suc, ◌+◌, ◌*◌, ◌≤◌}
use native.Mathlib.Omega.{arith}
use borrow.Author.Tests.{ltb-true, ltb-false}
use lib.Dec.{eqb, leb, ltb}
use lib.ListN.{length, take, drop}
use Rattle.laws.specs.Everyone.{Everyone, nobody, also}
use Rattle.std.specs.Prelude.{Err}
use Rattle.laws.specs.declared.Refusal.{Refusal}
use Rattle.laws.proofs.Refusals.{refused_place}
use Rattle.trace.specs.Limits.{largest_stamp}
use Rattle.std.specs.Prelude.{Result, Ok, Err}
use Rattle.text.specs.declared.numbers.NotNumber.{NotNumber}
use Rattle.text.specs.declared.numbers.NotNumber.TheVariants.{TooLarge, Bad}
use Rattle.text.specs.Numbers.{number_in}
use Rattle.dump_reader.specs.declared.words.Word.{Word}
use Rattle.dump_reader.specs.declared.reader.Part.{Part}
use Rattle.dump_reader.specs.declared.reader.Part.TheVariants as next
use Rattle.dump_reader.specs.declared.reader.Reader.{Reader}
use Rattle.laws.specs.Same.{same}
use Rattle.dump_reader.specs.Words.{word_from, words, words_up_to, bytes_of, first_byte}
use Rattle.dump_reader.specs.Reader.{started, with_part, with_place, with_timescale, with_scl, with_sda, with_wave}
use Rattle.dump_reader.specs.Reader.{refused_by}
use Rattle.dump_reader.specs.Timescale.{power_of, number_of, unit_of, digits_of, unit, number}
use Rattle.dump_reader.specs.Definitions.{identifier, declare}
use Rattle.dump_reader.specs.Values.{valued, stamped, missing, judge, read_stamp, assign}
use Rattle.dump_reader.specs.Values.{unknown, command, unknown_byte, change}
use Rattle.dump_reader.specs.Reading.{step_in, step, after, final}
use Rattle.dump_reader.specs.DumpRead.{longest_text, read_checks, held, dump_read}
use Rattle.dump_reader.proofs.Spans.{word-start}

-- whichever case is taken, the place is still this one
either : {place : ℕ} (test : Bool) (one other : Reader) → one.place ≡ place → other.place ≡ place
    → (cond test one other).place ≡ place
either true one other first second = first
either false one other first second = second

unit-place : (reader : Reader) (power : ℕ) (word : List ℕ) → (unit reader power word).place ≡ reader.place
unfolding unit
unit-place reader power word =
    either (eqb (unit_of word) 0) (refused_by 27 reader)
    (with_part next.Close (with_timescale (number_of power * unit_of word) reader)) refl refl

number-place : (reader : Reader) (word : List ℕ) → (number reader word).place ≡ reader.place
unfolding number
number-place reader word =
    let power = power_of (take (digits_of word) word) in
    let rest = drop (digits_of word) word in
    either (eqb power 3) (refused_by 27 reader)
    (cond (eqb (digits_of word) (length word)) (with_part (next.Unit power) reader) (unit reader power rest)) refl
    (either (eqb (digits_of word) (length word)) (with_part (next.Unit power) reader) (unit reader power rest) refl
    (unit-place reader power rest))

declare-place : (text : List ℕ) (reader : Reader) (word : Word) → (declare text reader word).place ≡ reader.place
unfolding declare
declare-place text reader word =
    go (identifier (bytes_of text word)) (eqb reader.wires 0)
    (same (bytes_of text word) (bytes_of text reader.scl))
  where
    go : (good-one first twice : Bool)
        → (cond good-one
        (cond first (with_part next.Name (with_scl word reader))
        (cond twice (refused_by 24 reader) (with_part next.Name (with_sda word reader))))
        (refused_by 27 reader)).place ≡ reader.place
    go false first twice = refl
    go true true twice = refl
    go true false true = refl
    go true false false = refl

judge-place : (reader : Reader) (stamp : ℕ) (inside : Bool) → (judge reader stamp inside).place ≡ reader.place
unfolding judge
judge-place reader stamp inside =
    go (reader.wave.stamped && leb stamp reader.wave.stamp) (missing reader.wave) (ltb largest_stamp stamp)
    inside
  where
    go : (low lacks large inner : Bool)
        → (cond low (refused_by 21 reader)
        (cond lacks (refused_by 24 reader)
        (cond large (refused_by 25 reader)
        (cond inner (refused_by 27 reader) (with_wave (stamped reader.wave stamp) reader))))).place ≡ reader.place
    go true lacks large inner = refl
    go false true large inner = refl
    go false false true inner = refl
    go false false false true = refl
    go false false false false = refl

stamp-place : (reader : Reader) (said : Result ℕ NotNumber) (inside : Bool) → (read_stamp reader said inside).place ≡ reader.place
stamp-place reader (Ok stamp) inside = judge-place reader stamp inside
stamp-place reader (Err TooLarge) inside = judge-place reader 18446744073709551615 inside
stamp-place reader (Err Bad) inside = refl

assign-place : (text : List ℕ) (reader : Reader) (word : List ℕ) (high : Bool)
    → (assign text reader word high).place ≡ reader.place
unfolding assign
assign-place text reader word high =
    go (eqb (length word) 0)
    (same word (bytes_of text reader.scl) || same word (bytes_of text reader.sda)) reader.wave.stamped
  where
    go : (none known begun : Bool)
        → (cond none (refused_by 27 reader)
        (cond known
        (cond begun
        (with_wave (valued reader.wave (same word (bytes_of text reader.scl)) high) reader)
        (refused_by 27 reader))
        (refused_by 22 reader))).place ≡ reader.place
    go true known begun = refl
    go false false begun = refl
    go false true true = refl
    go false true false = refl

change-place : (text : List ℕ) (reader : Reader) (word : List ℕ) (inside : Bool)
    → (change text reader word inside).place ≡ reader.place
unfolding change
change-place text reader word inside =
    go (eqb (first_byte word) 0x23) (eqb (first_byte word) 0x30) (eqb (first_byte word) 0x31)
    (unknown_byte (first_byte word))
  where
    go : (stamp low high neither : Bool)
        → (cond stamp (read_stamp reader (number_in 10 (drop 1 word)) inside)
        (cond low (assign text reader (drop 1 word) false)
        (cond high (assign text reader (drop 1 word) true)
        (cond neither (with_part (unknown word) reader) (with_part (command word inside) reader))))).place
        ≡ reader.place
    go true low high neither = stamp-place reader (number_in 10 (drop 1 word)) inside
    go false true high neither = assign-place text reader (drop 1 word) false
    go false false true neither = assign-place text reader (drop 1 word) true
    go false false false true = refl
    go false false false false = refl

-- a word that is judged has its place kept; after a refusal the place stays
stepped-place : (part : Part) (text : List ℕ) (reader here : Reader) (bytes : List ℕ) (word : Word) (most : ℕ)
    → reader.place ≤ most → here.place ≤ most → (step_in part text reader here bytes word).place ≤ most
stepped-place next.Definitions text reader here bytes word most was is = is
stepped-place next.Note text reader here bytes word most was is = is
stepped-place next.Number text reader here bytes word most was is = rw (number-place here bytes) is
stepped-place (next.Unit power) text reader here bytes word most was is = rw (unit-place here power bytes) is
stepped-place next.Close text reader here bytes word most was is = is
stepped-place next.ScopeType text reader here bytes word most was is = is
stepped-place next.ScopeName text reader here bytes word most was is = is
stepped-place next.WireType text reader here bytes word most was is = is
stepped-place next.WireSize text reader here bytes word most was is = is
stepped-place next.Identifier text reader here bytes word most was is = rw (declare-place text here word) is
stepped-place next.Name text reader here bytes word most was is = is
stepped-place next.Names text reader here bytes word most was is = is
stepped-place next.Opening text reader here bytes word most was is = is
stepped-place next.Values text reader here bytes word most was is = rw (change-place text here bytes false) is
stepped-place next.Section text reader here bytes word most was is = rw (change-place text here bytes true) is
stepped-place next.Comment text reader here bytes word most was is = is
stepped-place (next.Refused number) text reader here bytes word most was is = was

step-place : (text : List ℕ) (reader : Reader) (word : Word) (most : ℕ) → reader.place ≤ most → word.start ≤ most
    → (step text reader word).place ≤ most
unfolding step
step-place text reader word most was is =
    stepped-place reader.part text reader (with_place word.start reader) _ word most was is

after-place : (text : List ℕ) (most : ℕ) (reader : Reader) (left : List Word) → reader.place ≤ most
    → Everyone (λ (word : Word). word.start ≤ most) left → (after text reader left).place ≤ most
after-place text most reader [] was all = was
after-place text most reader (word ∷ left) was (also one rest) =
    after-place text most (step text reader word) left (step-place text reader word most was one) rest

-- every word begins within the text
words-within : (text : List ℕ) (most from : ℕ) → from ≤ length text
    → Everyone (λ (word : Word). word.start ≤ length text) (words_up_to most text from)
unfolding words_up_to
words-within text zero from within = nobody
words-within text (suc most) from within =
    go (ltb (word_from text from).end (length text)) refl
    (words-within text most ((word_from text from).end + 1))
  where
    go : (is_whole : Bool) → ltb (word_from text from).end (length text) ≡ is_whole
        → ((word_from text from).end + 1 ≤ length text
        → Everyone (λ (word : Word). word.start ≤ length text)
        (words_up_to most text ((word_from text from).end + 1)))
        → Everyone (λ (word : Word). word.start ≤ length text)
        (cond is_whole (word_from text from ∷ words_up_to most text ((word_from text from).end + 1)) [])
    go true is rest =
        also (word-start text from within)
        (rest (omega (arith, ltb-true (word_from text from).end (length text) is)))
    go false is rest = nobody

pub final-place : (text : List ℕ) → (final text).place ≤ length text
final-place text =
    after-place text (length text) started (words text) (omega arith)
    (words-within text (length text) 0 (omega arith))

-- the place of every refusal fits 16 bits
pub read-place : (text : List ℕ) (stamps-room levels-room : ℕ) (refusal : Refusal)
    → dump_read text stamps-room levels-room ≡ Err refusal → refusal.place ≤ longest_text
unfolding dump_read
read-place text stamps-room levels-room refusal is =
    refused_place longest_text (read_checks text stamps-room levels-room) (held text) refusal (
      omega arith,
      λ short.
          let fits : length text ≤ longest_text = ltb-false longest_text (length text) short in
          let within : (final text).place ≤ longest_text = omega (arith, final-place text) in
          (within, λ a. (fits, λ b. (fits, λ d. (omega arith, λ e. (omega arith, λ f. tt))))),
    ) is
