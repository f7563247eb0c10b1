-- What the reader knows: before the first word, and with another part, timescale, wire or wave.
use Rattle.std.specs.Prelude.{ℕ, false}
use Rattle.dump_reader.specs.declared.words.Word.{Word}
use Rattle.dump_reader.specs.declared.reader.Part.{Part}
use Rattle.dump_reader.specs.declared.reader.Part.TheVariants.{Definitions, Refused}
use Rattle.dump_reader.specs.declared.reader.Wave.{Wave}
use Rattle.dump_reader.specs.declared.reader.Reader.{Reader}

-- no level is this number
abbrev pub no_sample : ℕ
no_sample = 4

abbrev pub no_word : Word
no_word = record { start = 0; end = 0 }

-- before the first word: no wire, no stamp, no value and no sample
abbrev pub started : Reader
started =
    record {
      part = Definitions;
      place = 0;
      timescale = 0;
      wires = 0;
      scl = no_word;
      sda = no_word;
      wave = record { stamped = false; stamp = 0; known = 0; level = 0; shown = no_sample };
    }

abbrev pub with_part : Part → Reader → Reader
with_part part reader =
    record {
      part = part;
      place = reader.place;
      timescale = reader.timescale;
      wires = reader.wires;
      scl = reader.scl;
      sda = reader.sda;
      wave = reader.wave;
    }

-- a word is refused with a number
abbrev pub refused_by : ℕ → Reader → Reader
refused_by number reader = with_part (Refused number) reader

abbrev pub with_place : ℕ → Reader → Reader
with_place place reader =
    record {
      part = reader.part;
      place = place;
      timescale = reader.timescale;
      wires = reader.wires;
      scl = reader.scl;
      sda = reader.sda;
      wave = reader.wave;
    }

abbrev pub with_timescale : ℕ → Reader → Reader
with_timescale timescale reader =
    record {
      part = reader.part;
      place = reader.place;
      timescale = timescale;
      wires = reader.wires;
      scl = reader.scl;
      sda = reader.sda;
      wave = reader.wave;
    }

-- the first wire is SCL, the second SDA
abbrev pub with_scl : Word → Reader → Reader
with_scl word reader =
    record {
      part = reader.part;
      place = reader.place;
      timescale = reader.timescale;
      wires = 1;
      scl = word;
      sda = reader.sda;
      wave = reader.wave;
    }

abbrev pub with_sda : Word → Reader → Reader
with_sda word reader =
    record {
      part = reader.part;
      place = reader.place;
      timescale = reader.timescale;
      wires = 2;
      scl = reader.scl;
      sda = word;
      wave = reader.wave;
    }

abbrev pub with_wave : Wave → Reader → Reader
with_wave wave reader =
    record {
      part = reader.part;
      place = reader.place;
      timescale = reader.timescale;
      wires = reader.wires;
      scl = reader.scl;
      sda = reader.sda;
      wave = wave;
    }
