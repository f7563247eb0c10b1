-- The text of a trace as a four-state Value Change Dump (IEEE 1364), byte by byte; every line is closed by 0Ah.
use Rattle.std.specs.Prelude.{ℕ, ◌+◌, Bool, cond, not, ◌&&◌, List, [], ◌∷◌, ◌++◌}
use Prim.Native.String.{String}
use Rattle.std.specs.Bool.{beq}
use mir.Val.{bool_byte}
use Rattle.text.specs.Bytes.{ascii}
use Rattle.text.specs.Output.{decimal_text}
use Rattle.levels.specs.Levels.{scl, sda, level_of}

abbrev line : String → List ℕ
line text = ascii text ++ 0x0a ∷ []

-- six lines: stamps count 100 ns, `!` is SCL and `"` is SDA
unfoldable pub header : List ℕ
header =
    line "$timescale 100 ns $end"
    ++ line "$scope module bus $end"
    ++ line "$var wire 1 ! scl $end"
    ++ line "$var wire 1 \" sda $end"
    ++ line "$upscope $end"
    ++ line "$enddefinitions $end"

-- the identifiers of the two wires
abbrev pub scl_wire : ℕ
scl_wire = 0x21

abbrev pub sda_wire : ℕ
sda_wire = 0x22

-- `#` and the stamp in decimal
unfoldable pub stamp_line : ℕ → List ℕ
stamp_line stamp = (0x23 ∷ []) ++ decimal_text stamp ++ (0x0a ∷ [])

-- `0` or `1` and the wire
unfoldable pub value_line : Bool → ℕ → List ℕ
value_line high wire = (0x30 + bool_byte high) ∷ wire ∷ 0x0a ∷ []

-- a wire's line where its level is another than before, else nothing
unfoldable pub change_line : Bool → Bool → ℕ → List ℕ
change_line was high wire = cond (beq high was) [] (value_line high wire)

-- the first sample: both wires, SCL first
abbrev pub first_text : ℕ → ℕ → List ℕ
first_text stamp level = stamp_line stamp ++ value_line (scl level) scl_wire ++ value_line (sda level) sda_wire

-- a sample after one of level `last`: the wires that change, SCL first, and nothing at all where none does
unfoldable pub sample_text : ℕ → ℕ → ℕ → List ℕ
sample_text last stamp level =
    cond (beq (scl level) (scl last) && beq (sda level) (sda last)) []
    (stamp_line stamp
    ++ change_line (scl last) (scl level) scl_wire
    ++ change_line (sda last) (sda level) sda_wire)

-- the samples after one of level `last`, as many as there are both stamps and levels
abbrev pub samples_after : ℕ → List ℕ → List ℕ → List ℕ
samples_after last [] levels = []
samples_after last (stamp ∷ stamps) [] = []
samples_after last (stamp ∷ stamps) (level ∷ levels) = sample_text last stamp level ++ samples_after level stamps levels

abbrev pub samples_text : List ℕ → List ℕ → List ℕ
samples_text [] levels = []
samples_text (stamp ∷ stamps) [] = []
samples_text (stamp ∷ stamps) (level ∷ levels) = first_text stamp level ++ samples_after level stamps levels

abbrev pub dump_text : List ℕ → List ℕ → List ℕ
dump_text stamps levels = header ++ samples_text stamps levels

-- the level with both lines the other way than the first sample has them, as if before it
abbrev pub unlike_first : List ℕ → ℕ
unlike_first [] = 0
unlike_first (level ∷ levels) = level_of (not (scl level)) (not (sda level))
