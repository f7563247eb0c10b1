-- The rules of SPI one line each, as the module's functions answer them: to be held beside docs/RULES.md in its order.
-- Each transfer names a module and a list of samples that the theorem of proofs/Transfer.antt speaks of.
use Prim.Native.Nat.{ℕ, ◌+◌, ◌*◌}
use mathlib.Core.Path.{◌≡◌, refl}
use mathlib.Core.Bool.{Bool, true, false, not}
use mathlib.Core.List.{List, [], ◌∷◌}
use mir.Val.{bool_byte}
use Rattle.usi_registers.specs.Rules.{count_flags}
use Rattle.usi_i2c.specs.Rules as i2c
use Rattle.usi_spi.specs.declared.Driven.{Driven}
use Rattle.usi_spi.specs.declared.Driven.TheVariants.{Released, Low, High}
use Rattle.usi_spi.specs.Rules as spi
use Rattle.usi.specs.declared.Usi.{Usi}
use Rattle.usi.specs.declared.SpiLines.{SpiLines}
use Rattle.usi.specs.declared.Refused.{Refused}
use Rattle.std.specs.Prelude.{Result, Err}
use Rattle.usi.specs.Module.{power_up, lines, spi_lines}
use Rattle.usi.specs.Spi as steps
use Rattle.usi.specs.Step.{refused, refusal, module_of, followed, settled, write_byte, edged, sample, tick}
use Rattle.spi_transfers.specs.Transfer.{Act, Sample, after, sent}

-- the replies as they compute: all that each is made of unfolds with it
unfoldable pub written : List (ℕ × ℕ) → Usi → Usi
unfolding count_flags followed steps.followed spi.register settled write_byte
written [] u = u
written ((address, value) ∷ others) u = written others (module_of (write_byte u address value))

unfoldable pub stepped : Usi → ℕ → Result Usi Refused
unfolding i2c.condition_flags i2c.condition_count i2c.end_flags followed edged spi.captures spi.changes spi.register
    spi.high steps.followed steps.changed steps.at_edge steps.edged sample
stepped u level = sample u level

unfoldable pub clocked : Usi → Result Usi Refused
unfolding i2c.phase_after spi.phase_after spi.register followed steps.followed tick
clocked u = tick u

unfoldable pub shown : Usi → SpiLines
unfolding spi.clock_line spi.data_line spi_lines
shown u = spi_lines u

-- registers in the order of their addresses; SCLK idle is then seen
abbrev pub set_up : ℕ → ℕ → ℕ → ℕ → ℕ → ℕ → Usi
set_up usictl0 usictl1 usickctl usicnt usisrl usisrh =
    written
    ((0x07c, usisrl) ∷ (0x07d, usisrh) ∷ (0x07a, usickctl) ∷ (0x079, usictl1) ∷ (0x078, usictl0) ∷ (0x07b, usicnt) ∷ [])
    (power_up 0x00 0x00)

-- a period of SCLK from its idle level for each bit on SDI
abbrev pub level : Bool → Bool → ℕ
level sclk sdi = bool_byte sclk + 2 * bool_byte sdi

abbrev pub clocking : Bool → List Bool → List Act
clocking rest [] = []
clocking rest (sdi ∷ bits) = Sample (level (not rest) sdi) ∷ Sample (level rest sdi) ∷ clocking rest bits

-- ---- the set-up
-- PE7 PE6 PE5 with I2C=0 and SWRST=0; each of the five bits is needed, and a set-up of I2C goes on being one
pub fits-spi :
    (refusal (tick (set_up 0xe0 0x00 0x00 0x00 0 0)) ≡ 0) × (refusal (tick (set_up 0x60 0x00 0x00 0x00 0 0)) ≡ 3)
    × (refusal (tick (set_up 0xa0 0x00 0x00 0x00 0 0)) ≡ 3) × (refusal (tick (set_up 0xc0 0x00 0x00 0x00 0 0)) ≡ 3)
    × (refusal (tick (set_up 0xe1 0x00 0x00 0x00 0 0)) ≡ 3) × (refusal (tick (set_up 0xe0 0x40 0x00 0x00 0 0)) ≡ 3)
    × (refusal (tick (set_up 0xe0 0x40 0x02 0x00 0 0)) ≡ 0)
unfolding written clocked
fits-spi = (refl, refl, refl, refl, refl, refl, refl)

-- a sample: 4, then 3, and the module stays
pub refuses-samples : (sample (set_up 0xc0 0x00 0x00 0x00 0 0) 4 ≡ Err (refused 4 (set_up 0xc0 0x00 0x00 0x00 0 0)))
    × (sample (set_up 0xc0 0x00 0x00 0x00 0 0) 3 ≡ Err (refused 3 (set_up 0xc0 0x00 0x00 0x00 0 0)))
    × (refusal (sample (set_up 0xe0 0x00 0x00 0x00 0 0) 3) ≡ 0)
unfolding written stepped
refuses-samples = (refl, refl, refl)

-- a change of set-up rests the hidden state, both ways; a change inside SPI does not
abbrev pub seeing : Usi → Usi
seeing u = module_of (sample u 3)

pub rests-between :
    ((written ((0x079, 0x40) ∷ []) (seeing (set_up 0xe0 0x00 0x02 0x00 0 0))).seen ≡ false)
    × ((written ((0x079, 0x00) ∷ []) (seeing (set_up 0xe0 0x40 0x02 0x00 0 0))).seen ≡ false)
    × ((written ((0x078, 0xc0) ∷ []) (seeing (set_up 0xe0 0x00 0x02 0x00 0 0))).seen ≡ false)
    × ((written ((0x079, 0x80) ∷ []) (seeing (set_up 0xe0 0x00 0x02 0x00 0 0))).seen ≡ true)
unfolding written stepped
rests-between = (refl, refl, refl, refl)

-- ---- transfers: the shift bytes, USICNT, USICTL1 and what SDO showed
abbrev pub moved : Bool → List Bool → Usi → ℕ × ℕ × ℕ × ℕ
moved rest bits u =
    let v = after (clocking rest bits) (module_of (sample u (level rest false))) in
    (v.usisrl, v.usisrh, v.usicnt, v.usictl1)

abbrev pub driven : Bool → List Bool → Usi → List Driven
driven rest bits u =
    sent u.usictl1 u.usickctl rest (clocking rest bits) (module_of (sample u (level rest false)))

-- 3Ch, highest bit first
abbrev pub bits-of-3c : List Bool
bits-of-3c = false ∷ false ∷ true ∷ true ∷ true ∷ true ∷ false ∷ false ∷ []

-- A5h out, highest bit first, 3Ch in; USISRH stays; both CKPH, both CKPL
pub eight-bits :
    (moved false bits-of-3c (set_up 0xe2 0x00 0x00 0x08 0xa5 0x77) ≡ (0x3c, 0x77, 0x00, 0x01))
    × (moved true bits-of-3c (set_up 0xe2 0x00 0x02 0x08 0xa5 0x77) ≡ (0x3c, 0x77, 0x00, 0x01))
    × (moved false bits-of-3c (set_up 0xe2 0x80 0x00 0x08 0xa5 0x77) ≡ (0x3c, 0x77, 0x00, 0x81))
    × (moved true bits-of-3c (set_up 0xe2 0x80 0x02 0x08 0xa5 0x77) ≡ (0x3c, 0x77, 0x00, 0x81))
unfolding written stepped after
eight-bits = (refl, refl, refl, refl)

abbrev pub drives-a5 : List Driven
drives-a5 = High ∷ Low ∷ High ∷ Low ∷ Low ∷ High ∷ Low ∷ High ∷ []

pub eight-driven :
    (driven false bits-of-3c (set_up 0xe2 0x00 0x00 0x08 0xa5 0x77) ≡ drives-a5)
    × (driven true bits-of-3c (set_up 0xe2 0x00 0x02 0x08 0xa5 0x77) ≡ drives-a5)
    × (driven false bits-of-3c (set_up 0xe2 0x80 0x00 0x08 0xa5 0x77) ≡ drives-a5)
    × (driven true bits-of-3c (set_up 0xe2 0x80 0x02 0x08 0xa5 0x77) ≡ drives-a5)
unfolding written stepped sent shown
eight-driven = (refl, refl, refl, refl)

-- 13h out, lowest bit first, 0Bh in
abbrev pub bits-of-0b : List Bool
bits-of-0b = true ∷ true ∷ false ∷ true ∷ false ∷ false ∷ false ∷ false ∷ []

pub lowest-first :
    (moved true bits-of-0b (set_up 0xf2 0x80 0x02 0x08 0x13 0x77) ≡ (0x0b, 0x77, 0x00, 0x81))
    × (driven true bits-of-0b (set_up 0xf2 0x80 0x02 0x08 0x13 0x77)
    ≡ High ∷ High ∷ Low ∷ Low ∷ High ∷ Low ∷ Low ∷ Low ∷ [])
unfolding written stepped after sent shown
lowest-first = (refl, refl)

-- 1234h out, BEEFh in; five bits of it lowest first: 00101 out, 10110 in, and 6891h is left
abbrev pub bits-of-beef : List Bool
bits-of-beef =
    true ∷ false ∷ true ∷ true ∷ true ∷ true ∷ true ∷ false ∷ true ∷ true ∷ true ∷ false ∷ true ∷ true ∷ true ∷ true ∷ []

pub sixteen-bits : moved false bits-of-beef (set_up 0xe2 0x00 0x00 0x50 0x34 0x12) ≡ (0xef, 0xbe, 0x40, 0x01)
unfolding written stepped after
sixteen-bits = refl

pub five-of-sixteen :
    (moved false (true ∷ false ∷ true ∷ true ∷ false ∷ []) (set_up 0xf2 0x00 0x00 0x45 0x34 0x12)
    ≡ (0x91, 0x68, 0x40, 0x01))
    × (driven false (true ∷ false ∷ true ∷ true ∷ false ∷ []) (set_up 0xf2 0x00 0x00 0x45 0x34 0x12)
    ≡ Low ∷ Low ∷ High ∷ Low ∷ High ∷ [])
unfolding written stepped after sent shown
five-of-sixteen = (refl, refl)

-- ---- single rules
-- CNT=0: nothing enters; IFG=1 (kept by IFGCC) stops nothing; IFG is 0 until the last bit
pub counts-only :
    (moved false (true ∷ []) (set_up 0xe2 0x01 0x00 0x00 0xa5 0x77) ≡ (0xa5, 0x77, 0x00, 0x01))
    × (moved false (true ∷ []) (set_up 0xe2 0x01 0x00 0x28 0xa5 0x77) ≡ (0x4b, 0x77, 0x27, 0x01))
    × (moved false (true ∷ []) (set_up 0xe2 0x00 0x00 0x02 0xa5 0x77) ≡ (0x4b, 0x77, 0x01, 0x00))
unfolding written stepped after
counts-only = (refl, refl, refl)

-- SDO before the first edge: with CKPH=1 the first bit, with CKPH=0 nothing yet; with GE=1 it follows at once
pub before-first-edge :
    ((spi_lines (module_of (sample (set_up 0xe2 0x80 0x00 0x08 0xa5 0x77) 0))).sdo ≡ High)
    × ((spi_lines (module_of (sample (set_up 0xe2 0x00 0x00 0x08 0xa5 0x77) 0))).sdo ≡ Released)
    × ((spi_lines (set_up 0xe6 0x00 0x00 0x08 0x25 0x77)).sdo ≡ Low)
    × ((spi_lines (written ((0x07c, 0xa5) ∷ []) (set_up 0xe6 0x00 0x00 0x08 0x25 0x77))).sdo ≡ High)
unfolding written stepped shown
before-first-edge = (refl, refl, refl, refl)

-- SDI moves while SCLK stays high: no START and no STOP
pub no-conditions : module_of (sample (module_of (sample (seeing (set_up 0xe2 0x00 0x02 0x08 0xa5 0x77)) 1)) 3)
    ≡ seeing (set_up 0xe2 0x00 0x02 0x08 0xa5 0x77)
unfolding written stepped
no-conditions = refl

-- SCLK of a master: idle, then active, at once although SCLK was seen active with DIV=0 (17 is I2C's); idle again where
-- no bit is left; a slave drives none; I2C's lines are released
abbrev pub ticking : Usi → Usi
ticking u = module_of (tick u)

abbrev pub master : Usi
master = set_up 0xea 0x00 0x00 0x08 0xa5 0x77

pub clocks :
    ((spi_lines master).sclk ≡ Low) × ((spi_lines (ticking master)).sclk ≡ High)
    × ((spi_lines (ticking (ticking master))).sclk ≡ Low)
    × ((spi_lines (ticking (set_up 0xea 0x00 0x02 0x08 0xa5 0x77))).sclk ≡ Low)
    × (refusal (tick (module_of (sample master 1))) ≡ 0)
    × ((spi_lines (ticking (written ((0x07b, 0x00) ∷ []) (ticking master)))).sclk ≡ Low)
    × ((spi_lines (ticking (set_up 0xe2 0x00 0x00 0x08 0xa5 0x77))).sclk ≡ Released)
    × (lines (ticking master) ≡ record { scl = false; sda = false })
unfolding written stepped clocked shown
clocks = (refl, refl, refl, refl, refl, refl, refl, refl)

-- nothing is driven unless the set-up fits SPI
pub drives-nothing : (spi_lines (power_up 0 0) ≡ record { sclk = Released; sdo = Released })
    × (spi_lines (set_up 0xee 0x40 0x02 0x08 0x00 0x00) ≡ record { sclk = Released; sdo = Released })
unfolding written shown
drives-nothing = (refl, refl)
