-- How a USI module is written as text.
use Rattle.std.specs.Prelude.{Bool, cond, List, [], ◌∷◌, ◌++◌, ℕ, ◌+◌}
use Rattle.text.specs.Output.{hex_text}
use Rattle.usi.specs.declared.Usi.{Usi}
use Rattle.usi_spi.specs.declared.Driven.{Driven}
use Rattle.usi_spi.specs.declared.Driven.TheVariants.{Released, Low, High}
use Rattle.usi.specs.Module.{fits_spi, pulls_scl, pulls_sda, spi_lines}

-- a bit as a digit
abbrev pub flag_byte : Bool → ℕ
flag_byte on = cond on 49 48

-- the lines pulled low as a digit: 1 for SCL, and 2 for SDA
abbrev pub lines_byte : Bool → Bool → ℕ
lines_byte scl sda = 48 + (cond scl 1 0 + cond sda 2 0)

-- a driven line as its level, a released one as `-`
abbrev pub driven_byte : Driven → ℕ
driven_byte Released = 45
driven_byte Low = 48
driven_byte High = 49

-- a label and a bit
abbrev pub flag_text : List ℕ → Bool → List ℕ
flag_text label on = label ++ (flag_byte on ∷ [])

-- a register, two hexadecimal digits after a space
abbrev pub spaced_text : ℕ → List ℕ
spaced_text register = 32 ∷ hex_text 2 register

-- the six registers in the order of their addresses, with a space between
unfoldable pub registers_text : Usi → List ℕ
registers_text u =
    hex_text 2 u.usictl0
    ++ spaced_text u.usictl1
    ++ spaced_text u.usickctl
    ++ spaced_text u.usicnt
    ++ spaced_text u.usisrl
    ++ spaced_text u.usisrh

-- " latch="
abbrev pub latch_label : List ℕ
latch_label = 32 ∷ 108 ∷ 97 ∷ 116 ∷ 99 ∷ 104 ∷ 61 ∷ []

-- " enable="
abbrev pub enable_label : List ℕ
enable_label = 32 ∷ 101 ∷ 110 ∷ 97 ∷ 98 ∷ 108 ∷ 101 ∷ 61 ∷ []

-- " phase="
abbrev pub phase_label : List ℕ
phase_label = 32 ∷ 112 ∷ 104 ∷ 97 ∷ 115 ∷ 101 ∷ 61 ∷ []

-- " seen="
abbrev pub seen_label : List ℕ
seen_label = 32 ∷ 115 ∷ 101 ∷ 101 ∷ 110 ∷ 61 ∷ []

-- " scl="
abbrev pub scl_label : List ℕ
scl_label = 32 ∷ 115 ∷ 99 ∷ 108 ∷ 61 ∷ []

-- " sda="
abbrev pub sda_label : List ℕ
sda_label = 32 ∷ 115 ∷ 100 ∷ 97 ∷ 61 ∷ []

-- " stretch="
abbrev pub stretch_label : List ℕ
stretch_label = 32 ∷ 115 ∷ 116 ∷ 114 ∷ 101 ∷ 116 ∷ 99 ∷ 104 ∷ 61 ∷ []

-- " pull="
abbrev pub pull_label : List ℕ
pull_label = 32 ∷ 112 ∷ 117 ∷ 108 ∷ 108 ∷ 61 ∷ []

-- " sclk="
abbrev pub sclk_label : List ℕ
sclk_label = 32 ∷ 115 ∷ 99 ∷ 108 ∷ 107 ∷ 61 ∷ []

-- " sdo="
abbrev pub sdo_label : List ℕ
sdo_label = 32 ∷ 115 ∷ 100 ∷ 111 ∷ 61 ∷ []

-- the hidden state of the outputs
unfoldable pub output_text : Usi → List ℕ
output_text u = flag_text latch_label u.latch ++ flag_text enable_label u.enable ++ flag_text phase_label u.phase

-- the hidden state of the inputs
unfoldable pub input_text : Usi → List ℕ
input_text u =
    flag_text seen_label u.seen
    ++ flag_text scl_label u.scl
    ++ flag_text sda_label u.sda
    ++ flag_text stretch_label u.stretch

-- the lines pulled low
abbrev pub pulls_text : Usi → List ℕ
pulls_text u = pull_label ++ (lines_byte (pulls_scl u) (pulls_sda u) ∷ [])

-- the lines driven in SPI
abbrev pub driven_text : List ℕ → Driven → List ℕ
driven_text label line = label ++ (driven_byte line ∷ [])

unfoldable pub drives_text : Usi → List ℕ
drives_text u = driven_text sclk_label (spi_lines u).sclk ++ driven_text sdo_label (spi_lines u).sdo

-- what the module does to its lines, by the set-up
unfoldable pub lines_text : Usi → List ℕ
lines_text u = cond (fits_spi u) (drives_text u) (pulls_text u)

-- the module: registers, hidden state, lines
unfoldable pub module_text : Usi → List ℕ
module_text u = registers_text u ++ output_text u ++ input_text u ++ lines_text u
