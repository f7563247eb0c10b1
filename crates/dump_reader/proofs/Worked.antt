-- Texts that are read, and one that each number refuses, with the ties between them.
use mathlib.Core.Path.{◌≡◌, refl}
use mathlib.Core.List.{List, [], ◌∷◌, ◌++◌, map}
use Prim.Native.Nat.{ℕ}
use Prim.Native.String.{String}
use lib.ListN.{replicate}
use Rattle.std.specs.Prelude.{Result, Ok, Err}
use Rattle.laws.specs.Same.{same}
use Rattle.laws.specs.declared.Refusal.{Refusal}
use Rattle.laws.specs.Refusals.{refused_at}
use Rattle.text.specs.Bytes.{ascii}
use Rattle.text.specs.Words.{run_length}
use Rattle.text.specs.Numbers.{digit_value, all_digits, value_after, fitting, number_in}
use Rattle.dump_reader.specs.declared.DumpRead.{DumpRead}
use Rattle.dump_reader.specs.Words.{words_up_to}
use Rattle.dump_reader.specs.Timescale.{power_of, number_of, unit_of, unit, number}
use Rattle.dump_reader.specs.Definitions as definitions
use Rattle.dump_reader.specs.Values as values
use Rattle.dump_reader.specs.Reading.{step, completed}
use Rattle.dump_reader.specs.DumpRead.{samples_in_unit, dump_read, stamps_after, levels_after}

-- a text, and values after sound definitions of 67 bytes
abbrev reads : String → Result DumpRead Refusal
reads text = dump_read (ascii text) 4 4

abbrev with_values : String → List ℕ
with_values text =
    ascii "$var wire 1 ! scl $end\n$var wire 1 \" sda $end\n$enddefinitions $end\n" ++ ascii text

abbrev reads_values : String → Result DumpRead Refusal
reads_values text = dump_read (with_values text) 4 4

-- 02's case: stamps 5 6 9 and levels 3 3 1 as a dump
abbrev case : List ℕ
case =
    ascii "$timescale 100 ns $end\n$scope module bus $end\n$var wire 1 ! scl $end\n$var wire 1 \" sda $end\n"
    ++ ascii "$upscope $end\n$enddefinitions $end\n"
    ++ ascii "#5\n1!\n1\"\n#9\n0\"\n"

-- its reply, and 8 where either slice is too short
pub case-read : dump_read case 2 2 ∷ dump_read case 1 2 ∷ dump_read case 2 1 ∷ []
    ≡ Ok (samples_in_unit 2 100000000) ∷ Err (refused_at 8 0) ∷ Err (refused_at 8 0) ∷ []
unfolding dump_read words_up_to run_length same digit_value all_digits value_after fitting number_in power_of number_of unit_of
    unit number definitions.close definitions.skip definitions.name definitions.note definitions.wire
    definitions.opening definitions.command definitions.scope definitions.scope_type definitions.wire_type definitions.one
    definitions.identifier definitions.declare definitions.names values.with_line values.judge values.assign
    values.unknown values.dump values.command values.change step completed
case-read = refl

-- the samples in longer slices, whose rest stays
pub case-slices : stamps_after (dump_read case 4 3) case (7 ∷ 7 ∷ 7 ∷ 7 ∷ [])
    ∷ levels_after (dump_read case 4 3) case (8 ∷ 8 ∷ 8 ∷ [])
    ∷ []
    ≡ (5 ∷ 9 ∷ 7 ∷ 7 ∷ []) ∷ (3 ∷ 1 ∷ 8 ∷ []) ∷ []
unfolding dump_read words_up_to run_length same digit_value all_digits value_after fitting number_in power_of number_of unit_of
    unit number definitions.close definitions.skip definitions.name definitions.note definitions.wire
    definitions.opening definitions.command definitions.scope definitions.scope_type definitions.wire_type definitions.one
    definitions.identifier definitions.declare definitions.names values.with_line values.judge values.assign
    values.unknown values.dump values.command values.change step completed
case-slices = refl

-- the definitions: 24, 23 and 27
pub definitions-answered : map reads (
    ""
    ∷ "\n"
    ∷ " "
    ∷ "$date $endless\n"
    ∷ "$timescale 01 ns $end\n"
    ∷ "$timescale 1 $end\n"
    ∷ "$scope class x $end\n"
    ∷ "$var reg 1 ! x $end\n"
    ∷ "$var wire 2 ! x $end\n"
    ∷ "$var wire 01 ! $end\n"
    ∷ "$var wire 1 $end\n"
    ∷ "$var wire 1 ! a $end $var wire 1 ! b $end\n"
    ∷ "$enddefinitions $end\n"
    ∷ "x! \n"
    ∷ [])
    ≡ Err (refused_at 24 0)
    ∷ Err (refused_at 24 1)
    ∷ Err (refused_at 23 1)
    ∷ Err (refused_at 23 15)
    ∷ Err (refused_at 27 11)
    ∷ Err (refused_at 27 13)
    ∷ Err (refused_at 27 7)
    ∷ Err (refused_at 24 5)
    ∷ Err (refused_at 24 10)
    ∷ Err (refused_at 27 15)
    ∷ Err (refused_at 27 12)
    ∷ Err (refused_at 24 33)
    ∷ Err (refused_at 24 0)
    ∷ Err (refused_at 27 0)
    ∷ []
unfolding dump_read words_up_to run_length same digit_value all_digits value_after fitting number_in power_of number_of unit_of
    unit number definitions.close definitions.skip definitions.name definitions.note definitions.wire
    definitions.opening definitions.command definitions.scope definitions.scope_type definitions.wire_type definitions.one
    definitions.identifier definitions.declare definitions.names values.with_line values.judge values.assign
    values.unknown values.dump values.command values.change step completed
definitions-answered = refl

-- the values: each number from 20 on, the lower one where two apply; and two texts that are read
pub values-answered : map reads_values (
    "x!\n"
    ∷ "x#\n"
    ∷ "#5 1! 1\" #5\n"
    ∷ "#5 1! #5\n"
    ∷ "#5 1#\n"
    ∷ "1#\n"
    ∷ "#5 1! 1\""
    ∷ "#5 1! 1\"\n$dumpall\n"
    ∷ "#5 1! #6\n"
    ∷ "#5 1! #4294967296\n"
    ∷ "$var\n"
    ∷ "#5\n"
    ∷ "#4294967296\n"
    ∷ "$dumpvars #4294967296 $end\n"
    ∷ "1!\n"
    ∷ "$dumpvars #5 $end\n"
    ∷ "b1 !\n"
    ∷ "#5 0! 1! 1\" #6 0! 1! #7 $comment $endless $end #8 0\"\n"
    ∷ "#5 $dumpvars 1! 0\" $end\n"
    ∷ [])
    ≡ Err (refused_at 20 67)
    ∷ Err (refused_at 20 67)
    ∷ Err (refused_at 21 76)
    ∷ Err (refused_at 21 73)
    ∷ Err (refused_at 22 70)
    ∷ Err (refused_at 22 67)
    ∷ Err (refused_at 23 75)
    ∷ Err (refused_at 23 85)
    ∷ Err (refused_at 24 73)
    ∷ Err (refused_at 24 73)
    ∷ Err (refused_at 24 67)
    ∷ Err (refused_at 24 70)
    ∷ Err (refused_at 25 67)
    ∷ Err (refused_at 25 77)
    ∷ Err (refused_at 27 67)
    ∷ Err (refused_at 27 77)
    ∷ Err (refused_at 27 67)
    ∷ Ok (samples_in_unit 2 0)
    ∷ Ok (samples_in_unit 1 0)
    ∷ []
unfolding dump_read words_up_to run_length same digit_value all_digits value_after fitting number_in power_of number_of unit_of
    unit number definitions.close definitions.skip definitions.name definitions.note definitions.wire
    definitions.opening definitions.command definitions.scope definitions.scope_type definitions.wire_type definitions.one
    definitions.identifier definitions.declare definitions.names values.with_line values.judge values.assign
    values.unknown values.dump values.command values.change step completed
values-answered = refl

-- 26 comes first
pub refused-by-26 : dump_read (replicate 60001 0x20) 0 0 ≡ Err (refused_at 26 0)
unfolding dump_read
refused-by-26 = refl
