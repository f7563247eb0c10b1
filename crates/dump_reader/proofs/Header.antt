-- The header of a dump reads as two wires and a timescale.
use mathlib.Core.Path.{◌≡◌, refl}
use mathlib.Core.Bool.{true}
use mathlib.Core.List.{List, [], ◌∷◌, ◌++◌}
use Prim.Native.Nat.{ℕ}
use Prim.Native.String.{String}
use Rattle.text.specs.Bytes.{ascii}
use Rattle.text.specs.Words.{run_length}
use Rattle.text.specs.Numbers.{digit_value, all_digits, value_after, fitting, number_in}
use Rattle.laws.specs.Search.{all}
use Rattle.dump_reader.specs.declared.words.Word.{Word}
use Rattle.dump_reader.specs.declared.reader.Part.TheVariants.{Values}
use Rattle.dump_reader.specs.declared.reader.Wave.{Wave}
use Rattle.dump_reader.specs.declared.reader.Reader.{Reader}
use Rattle.laws.specs.Same.{same}
use Rattle.dump_reader.specs.Reader.{started}
use Rattle.dump_reader.specs.Timescale.{power_of, number_of, unit_of, unit, number}
use Rattle.dump_reader.specs.Definitions.{close, skip, name, note, wire, opening, command, scope}
use Rattle.dump_reader.specs.Definitions.{scope_type, wire_type, one, identifier, declare, names}
use Rattle.dump_reader.specs.Reading.{step, after, listed, completed}
use Rattle.dump_reader.proofs.Spelled.{Spelt, spelled, proper, placed}

abbrev said : String → ℕ → Spelt
said word parted = record { bytes = ascii word; parted = parted }

-- its words: a space after each but the last of a line
abbrev pub header_words : List Spelt
header_words =
    said "$timescale" 0x20
    ∷ said "100" 0x20
    ∷ said "ns" 0x20
    ∷ said "$end" 0x0a
    ∷ said "$scope" 0x20
    ∷ said "module" 0x20
    ∷ said "bus" 0x20
    ∷ said "$end" 0x0a
    ∷ said "$var" 0x20
    ∷ said "wire" 0x20
    ∷ said "1" 0x20
    ∷ said "!" 0x20
    ∷ said "scl" 0x20
    ∷ said "$end" 0x0a
    ∷ said "$var" 0x20
    ∷ said "wire" 0x20
    ∷ said "1" 0x20
    ∷ said "\"" 0x20
    ∷ said "sda" 0x20
    ∷ said "$end" 0x0a
    ∷ said "$upscope" 0x20
    ∷ said "$end" 0x0a
    ∷ said "$enddefinitions" 0x20
    ∷ said "$end" 0x0a
    ∷ []

pub header-proper : all proper header_words ≡ true
header-proper = refl

abbrev pub scl_word : Word
scl_word = record { start = 58; end = 59 }

abbrev pub sda_word : Word
sda_word = record { start = 81; end = 82 }

-- a reader among the values of a dump
abbrev pub reading : ℕ → Wave → Reader
reading place wave =
    record {
      part = Values;
      place = place;
      timescale = 100000000;
      wires = 2;
      scl = scl_word;
      sda = sda_word;
      wave = wave;
    }

abbrev pub after_header : Reader
after_header = reading 122 started.wave

pub header_read : (ws : List Spelt)
    → after (spelled (header_words ++ ws)) started (placed 0 (header_words ++ ws))
    ≡ after (spelled (header_words ++ ws)) after_header (placed 127 ws)
unfolding step command note same number power_of unit_of unit number_of close skip name scope scope_type wire_type one
    identifier declare names wire opening run_length number_in all_digits digit_value value_after fitting
header_read ws = refl

-- and completes no sample
pub header-listed : (of : Wave → ℕ) (ws : List Spelt)
    → listed of (spelled (header_words ++ ws)) started (placed 0 (header_words ++ ws))
    ≡ listed of (spelled (header_words ++ ws)) after_header (placed 127 ws)
unfolding completed step command note same number power_of unit_of unit number_of close skip name scope scope_type wire_type
    one identifier declare names wire opening run_length number_in all_digits digit_value value_after fitting
header-listed of ws = refl
