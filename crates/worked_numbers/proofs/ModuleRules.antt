-- Document 01's rules of the module, one line each, as its functions answer them: to be held beside 01 in its order.
use mathlib.Core.Path.{◌≡◌, refl}
use mathlib.Core.Bool.{Bool, true, false}
use mathlib.Core.List.{List, [], ◌∷◌, map}
use Prim.Native.Nat.{ℕ}
use Rattle.std.specs.Prelude.{Result, Ok, Err}
use Rattle.laws.specs.Refusals.{refused_at}
use Rattle.usi_registers.specs.Registers as table
use Rattle.usi_registers.specs.Rules.{divider, clock_source, bit_count}
use Rattle.usi.specs.declared.Usi.{Usi}
use Rattle.usi.specs.declared.Refused.{Refused}
use Rattle.usi.specs.Module.{power_up, pulls_scl, pulls_sda}
use Rattle.usi.specs.Step.{refused, refusal, module_of, read_byte, write_byte, read_word, write_word, sample, tick}
use Rattle.worked_numbers.proofs.Computed as computed

-- ---- the table
abbrev addresses : List ℕ
addresses = table.USICTL0 ∷ table.USICTL1 ∷ table.USICKCTL ∷ table.USICNT ∷ table.USISRL ∷ table.USISRH ∷ []

pub the-addresses : addresses ≡ 0x078 ∷ 0x079 ∷ 0x07a ∷ 0x07b ∷ 0x07c ∷ 0x07d ∷ []
the-addresses = refl

-- bits 7 to 0 of USICTL0: PE7 PE6 PE5 LSB MST GE OE SWRST
pub bits-of-USICTL0 :
    (table.USIPE7 ≡ 0x80) × (table.USIPE6 ≡ 0x40) × (table.USIPE5 ≡ 0x20) × (table.USILSB ≡ 0x10)
    × (table.USIMST ≡ 0x08) × (table.USIGE ≡ 0x04) × (table.USIOE ≡ 0x02) × (table.USISWRST ≡ 0x01)
bits-of-USICTL0 = (refl, refl, refl, refl, refl, refl, refl, refl)

-- of USICTL1: CKPH I2C STTIE IIE AL STP STTIFG IFG
pub bits-of-USICTL1 :
    (table.USICKPH ≡ 0x80) × (table.USII2C ≡ 0x40) × (table.USISTTIE ≡ 0x20) × (table.USIIE ≡ 0x10)
    × (table.USIAL ≡ 0x08) × (table.USISTP ≡ 0x04) × (table.USISTTIFG ≡ 0x02) × (table.USIIFG ≡ 0x01)
bits-of-USICTL1 = (refl, refl, refl, refl, refl, refl, refl, refl)

-- of USICKCTL: DIV(3) SSEL(3) CKPL SWCLK; of B6h DIV is 5 and SSEL is 5
pub bits-of-USICKCTL :
    (divider 0xb6 ≡ 5) × (clock_source 0xb6 ≡ 5) × (table.USICKPL ≡ 0x02) × (table.USISWCLK ≡ 0x01)
bits-of-USICKCTL = (refl, refl, refl, refl)

-- of USICNT: SCLREL 16B IFGCC CNT(5); of E9h CNT is 9
pub bits-of-USICNT :
    (bit_count 0xe9 ≡ 9) × (table.USISCLREL ≡ 0x80) × (table.USI16B ≡ 0x40) × (table.USIIFGCC ≡ 0x20)
bits-of-USICNT = (refl, refl, refl, refl)

-- ---- modules as they stand in what follows: USICKCTL 22h, USISRH 00h, levels remembered
abbrev module-at : (usictl0 usictl1 usicnt usisrl : ℕ) (latch enable phase scl sda stretch : Bool) → Usi
module-at usictl0 usictl1 usicnt usisrl latch enable phase scl sda stretch =
    record {
      usictl0 = usictl0;
      usictl1 = usictl1;
      usickctl = 0x22;
      usicnt = usicnt;
      usisrl = usisrl;
      usisrh = 0x00;
      latch = latch;
      enable = enable;
      phase = phase;
      seen = true;
      scl = scl;
      sda = sda;
      stretch = stretch;
    }

-- power-up: 01h 01h 00h 00h, both shift bytes kept, the hidden state at rest
pub powers-up : (low high : ℕ) → power_up low high
    ≡ record {
      usictl0 = 0x01;
      usictl1 = 0x01;
      usickctl = 0x00;
      usicnt = 0x00;
      usisrl = low;
      usisrh = high;
      latch = true;
      enable = false;
      phase = true;
      seen = false;
      scl = false;
      sda = false;
      stretch = false;
    }
powers-up low high = refl

-- ---- access
-- each register reads back what is written; 1 outside 078h to 07Dh, and the module stays
pub reads-back : (low high : ℕ) → map (read_byte (power_up low high)) addresses
    ≡ Ok 0x01 ∷ Ok 0x01 ∷ Ok 0x00 ∷ Ok 0x00 ∷ Ok low ∷ Ok high ∷ []
unfolding computed.read
reads-back low high = refl

pub writes-shift : (x : ℕ) → read_byte (module_of (write_byte (power_up 0 0) 0x07d x)) 0x07d ≡ Ok x
unfolding computed.read computed.write
writes-shift x = refl

pub refuses-1 : (u : Usi) (x : ℕ)
    → (read_byte u 0x077 ≡ Err (refused_at 1 0)) × (read_byte u 0x07e ≡ Err (refused_at 1 0))
    × (write_byte u 0x077 x ≡ Err (refused 1 u)) × (write_byte u 0x07e x ≡ Err (refused 1 u))
unfolding computed.read computed.write
refuses-1 u x = (refl, refl, refl, refl)

-- a word: 2 at an odd address, then 1; low byte at the address, high byte after it, written in this order
pub reads-words : read_word (power_up 0x34 0x12) 0x07c ≡ Ok 0x1234
unfolding computed.read_word
reads-words = refl

pub refuses-words : (u : Usi) (x : ℕ)
    → (read_word u 0x077 ≡ Err (refused_at 2 0)) × (read_word u 0x079 ≡ Err (refused_at 2 0))
    × (read_word u 0x076 ≡ Err (refused_at 1 0)) × (read_word u 0x07e ≡ Err (refused_at 1 0))
    × (write_word u 0x077 x ≡ Err (refused 2 u)) × (write_word u 0x07e x ≡ Err (refused 1 u))
unfolding computed.read_word computed.write_word
refuses-words u x = (refl, refl, refl, refl, refl, refl)

-- USICNT's write comes last here, and clears the flags that the word's low byte just set up
pub writes-words : module_of (write_word (power_up 0 0) 0x07a 0x0822)
    ≡ record {
      usictl0 = 0x01;
      usictl1 = 0x00;
      usickctl = 0x22;
      usicnt = 0x08;
      usisrl = 0x00;
      usisrh = 0x00;
      latch = true;
      enable = false;
      phase = true;
      seen = false;
      scl = false;
      sda = false;
      stretch = false;
    }
unfolding computed.write_word
writes-words = refl

-- ---- the set-up
abbrev fitting-by : ℕ → ℕ → ℕ → ℕ → ℕ
fitting-by usictl0 usictl1 usickctl usicnt =
    refusal (tick (record {
      usictl0 = usictl0;
      usictl1 = usictl1;
      usickctl = usickctl;
      usicnt = usicnt;
      usisrl = 0x00;
      usisrh = 0x00;
      latch = true;
      enable = false;
      phase = true;
      seen = false;
      scl = false;
      sda = false;
      stretch = false;
    }))

-- it fits with I2C=1, CKPL=1, CKPH=0, LSB=0, 16B=0, PE6=PE7=1, SWRST=0, whatever the other bits are
pub fits-so : (fitting-by 0xc0 0x40 0x02 0x00 ≡ 0) × (fitting-by 0xee 0x7f 0xff 0xbf ≡ 0)
unfolding computed.tick
fits-so = (refl, refl)

-- and not with any one of the eight the other way: I2C, CKPL, CKPH, LSB, 16B, PE6, PE7, SWRST
pub fits-no-other : (fitting-by 0xc0 0x00 0x02 0x00 ≡ 3) × (fitting-by 0xc0 0x40 0x00 0x00 ≡ 3)
    × (fitting-by 0xc0 0xc0 0x02 0x00 ≡ 3) × (fitting-by 0xd0 0x40 0x02 0x00 ≡ 3)
    × (fitting-by 0xc0 0x40 0x02 0x40 ≡ 3) × (fitting-by 0x80 0x40 0x02 0x00 ≡ 3)
    × (fitting-by 0x40 0x40 0x02 0x00 ≡ 3) × (fitting-by 0xc1 0x40 0x02 0x00 ≡ 3)
unfolding computed.tick
fits-no-other = (refl, refl, refl, refl, refl, refl, refl, refl)

-- a write that leaves a set-up that does not fit rests the hidden state
pub rests : (latch enable phase scl sda stretch : Bool)
    → module_of (write_byte (module-at 0xca 0x40 0x08 0x00 latch enable phase scl sda stretch) 0x078 0xcb)
    ≡ record {
      usictl0 = 0xcb;
      usictl1 = 0x40;
      usickctl = 0x22;
      usicnt = 0x08;
      usisrl = 0x00;
      usisrh = 0x00;
      latch = true;
      enable = false;
      phase = true;
      seen = false;
      scl = false;
      sda = false;
      stretch = false;
    }
unfolding computed.write
rests latch enable phase scl sda stretch = refl

-- both lines are released then, whatever the hidden state is
pub releases : (enable latch phase stretch : Bool)
    → (pulls_sda (module-at 0xcb 0x40 0x08 0x00 latch enable phase true true stretch) ≡ false)
    × (pulls_scl (module-at 0xcb 0x40 0x08 0x00 latch enable phase true true stretch) ≡ false)
releases enable latch phase stretch = (refl, refl)

-- ---- a write to USICNT: the flags of USICTL1 after it
abbrev flags-after : ℕ → ℕ → ℕ
flags-after usictl1 value =
    (module_of (write_byte (module-at 0xc0 usictl1 0x00 0x00 true false true true true false) 0x07b value)).usictl1

-- CNT above 0 with IFGCC=0 clears IFG and STP; with IFGCC=1 flags stay; CNT=0 sets IFG whatever IFGCC is
pub count-clears : (flags-after 0x4f 0x01 ≡ 0x4a) × (flags-after 0x4f 0x1f ≡ 0x4a) × (flags-after 0x4f 0x10 ≡ 0x4a)
unfolding computed.write
count-clears = (refl, refl, refl)

pub count-keeps : (flags-after 0x4f 0x28 ≡ 0x4f) × (flags-after 0x40 0x28 ≡ 0x40)
unfolding computed.write
count-keeps = (refl, refl)

pub count-sets : (flags-after 0x40 0x00 ≡ 0x41) × (flags-after 0x4e 0x80 ≡ 0x4f) × (flags-after 0x40 0x20 ≡ 0x41)
unfolding computed.write
count-sets = (refl, refl, refl)

-- ---- a sample: refusals 4, then 3; the module stays
pub refuses-levels : (u : Usi)
    → (sample u 4 ≡ Err (refused 4 u)) × (sample (power_up 0 0) 4 ≡ Err (refused 4 (power_up 0 0)))
    × (sample (power_up 0 0) 3 ≡ Err (refused 3 (power_up 0 0))) × (tick (power_up 0 0) ≡ Err (refused 3 (power_up 0 0)))
unfolding computed.sample computed.tick
refuses-levels u = (refl, refl, refl, refl)

-- with no levels remembered it only records
pub records : module_of (sample
    (module_of (write_byte (module_of (write_byte (module_of (write_byte (power_up 0 0) 0x07a 0x22)) 0x079 0x41)) 0x078 0xc8))
    1)
    ≡ record {
      usictl0 = 0xc8;
      usictl1 = 0x41;
      usickctl = 0x22;
      usicnt = 0x00;
      usisrl = 0x00;
      usisrh = 0x00;
      latch = true;
      enable = false;
      phase = true;
      seen = true;
      scl = true;
      sda = false;
      stretch = false;
    }
unfolding computed.write computed.sample
records = refl

-- the flags and USICNT after a sample, with USICTL1=40h, USICNT=88h and other levels before
abbrev conditions : Bool → Bool → ℕ → ℕ × ℕ
conditions scl sda level =
    let after = module_of (sample (module-at 0xc0 0x40 0x80 0x00 true false true scl sda false) level) in
    (after.usictl1, after.usicnt)

-- START: STTIFG=1 and SCLREL=0. STOP: STP=1. Neither where SCL changes too or stays low
pub start-and-stop : (conditions true true 1 ≡ (0x42, 0x00)) × (conditions true false 3 ≡ (0x44, 0x80))
unfolding computed.sample
start-and-stop = (refl, refl)

pub neither : (conditions true true 0 ≡ (0x40, 0x80)) × (conditions false true 1 ≡ (0x40, 0x80))
    × (conditions true false 2 ≡ (0x40, 0x80)) × (conditions false false 3 ≡ (0x40, 0x80))
    × (conditions false true 0 ≡ (0x40, 0x80)) × (conditions false false 2 ≡ (0x40, 0x80))
    × (conditions true true 3 ≡ (0x40, 0x80)) × (conditions true false 1 ≡ (0x40, 0x80))
unfolding computed.sample
neither = (refl, refl, refl, refl, refl, refl, refl, refl)

-- ---- SCL rises with CNT=8: USICTL0, USICTL1 and the latched enable after it
abbrev loss : ℕ → Bool → Bool → ℕ → ℕ × ℕ × Bool
loss usictl0 latch enable level =
    let after = module_of (sample (module-at usictl0 0x40 0x08 0x00 latch enable true false true false) level) in
    (after.usictl0, after.usictl1, after.enable)

-- MST=1, the latched enable 1, the latch other than SDA: AL=1, OE=0, the enable 0; both ways round
pub loses : (loss 0xca true true 1 ≡ (0xc8, 0x48, false)) × (loss 0xca false true 3 ≡ (0xc8, 0x48, false))
unfolding computed.sample
loses = (refl, refl)

-- not where the latch is SDA; nor with MST=0; nor with the latched enable 0, though OE=1; but with OE=0, the enable 1
pub keeps : (loss 0xca true true 3 ≡ (0xca, 0x40, true)) × (loss 0xca false true 1 ≡ (0xca, 0x40, true))
    × (loss 0xc2 true true 1 ≡ (0xc2, 0x40, true)) × (loss 0xca true false 1 ≡ (0xca, 0x40, false))
    × (loss 0xc8 true true 1 ≡ (0xc8, 0x48, false))
unfolding computed.sample
keeps = (refl, refl, refl, refl, refl)

-- USISRL, USICNT and USICTL1 after it: SDA enters at bit 0, CNT falls by 1, at 0 IFG=1; with CNT=0 nothing happens
abbrev taking : ℕ → ℕ → ℕ → ℕ → ℕ × ℕ × ℕ
taking usisrl usicnt usictl1 level =
    let after = module_of (sample (module-at 0xc0 usictl1 usicnt usisrl true false true false true false) level) in
    (after.usisrl, after.usicnt, after.usictl1)

pub takes-bits : (taking 0x81 0x08 0x40 3 ≡ (0x03, 0x07, 0x40)) × (taking 0x81 0x88 0x40 1 ≡ (0x02, 0x87, 0x40))
    × (taking 0x00 0x02 0x40 3 ≡ (0x01, 0x01, 0x40)) × (taking 0x00 0x01 0x40 3 ≡ (0x01, 0x00, 0x41))
    × (taking 0x81 0x08 0x41 3 ≡ (0x03, 0x07, 0x41)) × (taking 0x81 0x00 0x40 3 ≡ (0x81, 0x00, 0x40))
unfolding computed.sample
takes-bits = (refl, refl, refl, refl, refl, refl)

-- ---- SCL falls: latch, enable and stretch after it, from latch 0, enable 0
abbrev falling : ℕ → ℕ → ℕ → Bool → Bool × Bool × Bool
falling usictl0 usicnt usisrl phase =
    let after = module_of (sample (module-at usictl0 0x40 usicnt usisrl false false phase true true false) 2) in
    (after.latch, after.enable, after.stretch)

-- CNT>0 and GE=0: the latch takes bit 7 of USISRL and the enable OE; CNT=0: both stay. Phase high: stretch
pub falls : (falling 0xca 0x08 0x80 true ≡ (true, true, true)) × (falling 0xca 0x08 0x7f true ≡ (false, true, true))
    × (falling 0xc8 0x08 0x80 true ≡ (true, false, true)) × (falling 0xca 0x00 0x80 true ≡ (false, false, true))
    × (falling 0xca 0x08 0x80 false ≡ (true, true, false))
unfolding computed.sample
falls = (refl, refl, refl, refl, refl)

-- a sample with SCL high ends it; one with SCL low keeps it
abbrev stretching : ℕ → Bool
stretching level = (module_of (sample (module-at 0xc0 0x40 0x80 0x00 true false true false true true) level)).stretch

pub stretches : (stretching 1 ≡ false) × (stretching 3 ≡ false) × (stretching 0 ≡ true) × (stretching 2 ≡ true)
unfolding computed.sample
stretches = (refl, refl, refl, refl)

-- ---- GE=1: after each step the latch is bit 7 of USISRL and the enable is OE
abbrev follows : Result Usi Refused → Bool × Bool
follows step = ((module_of step).latch, (module_of step).enable)

pub transparent :
    (follows (tick (module-at 0xce 0x41 0x00 0x7f true false true true true false)) ≡ (false, true))
    × (follows (sample (module-at 0xce 0x41 0x00 0x7f true false true true true false) 3) ≡ (false, true))
    × (follows (write_byte (module-at 0xce 0x41 0x00 0x7f true false true true true false) 0x07d 0) ≡ (false, true))
    × (follows (tick (module-at 0xca 0x41 0x00 0x7f true false true true true false)) ≡ (true, false))
unfolding computed.write computed.sample computed.tick
transparent = (refl, refl, refl, refl)

-- ---- a tick: the phase after it, from USICTL0, USICTL1, USICNT, the phase and SCL last seen
abbrev ticking : ℕ → ℕ → ℕ → Bool → Bool → Bool
ticking usictl0 usictl1 usicnt phase scl =
    (module_of (tick (module-at usictl0 usictl1 usicnt 0x00 true false phase scl true false))).phase

-- MST=1, IFG=0, CNT>0: low becomes high; high becomes low only if SCL was last seen high
pub ticks : (ticking 0xc8 0x40 0x01 false true ≡ true) × (ticking 0xc8 0x40 0x01 false false ≡ true)
    × (ticking 0xc8 0x40 0x01 true true ≡ false) × (ticking 0xc8 0x40 0x01 true false ≡ true)
unfolding computed.tick
ticks = (refl, refl, refl, refl)

-- in every other case it becomes high: MST=0, IFG=1, CNT=0, or no levels remembered
pub ticks-otherwise : (ticking 0xc0 0x40 0x01 true true ≡ true) × (ticking 0xc0 0x40 0x01 false true ≡ true)
    × (ticking 0xc8 0x41 0x01 true true ≡ true) × (ticking 0xc8 0x41 0x01 false true ≡ true)
    × (ticking 0xc8 0x40 0x00 true true ≡ true) × (ticking 0xc8 0x40 0x00 false true ≡ true)
    × ((module_of (tick (module_of (write_byte (module_of (write_byte (module_of (write_byte (module_of
    (write_byte (power_up 0 0) 0x07a 0x22)) 0x079 0x41)) 0x078 0xc8)) 0x07b 0x08)))).phase ≡ true)
unfolding computed.write computed.tick
ticks-otherwise = (refl, refl, refl, refl, refl, refl, refl)

-- ---- the lines
-- SDA is pulled low when the enable is 1 and the latch is 0
abbrev pulling-sda : Bool → Bool → Bool
pulling-sda enable latch = pulls_sda (module-at 0xc8 0x40 0x08 0xff latch enable true true true false)

pub pulls-sda : (pulling-sda true false ≡ true) × (pulling-sda true true ≡ false) × (pulling-sda false false ≡ false)
    × (pulling-sda false true ≡ false)
pulls-sda = (refl, refl, refl, refl)

-- SCL when MST=1, IFG=0 and the phase is low
abbrev clocking : ℕ → ℕ → Bool → Bool
clocking usictl0 usictl1 phase = pulls_scl (module-at usictl0 usictl1 0x08 0x00 true false phase true true false)

pub clocks : (clocking 0xc8 0x40 false ≡ true) × (clocking 0xc8 0x40 true ≡ false)
    × (clocking 0xc0 0x40 false ≡ false) × (clocking 0xc8 0x41 false ≡ false)
clocks = (refl, refl, refl, refl)

-- or when stretched, SCLREL=0 and (IFG=1 or STTIFG=1 or CNT=0)
abbrev holding : ℕ → ℕ → Bool → Bool
holding usictl1 usicnt stretch = pulls_scl (module-at 0xc0 usictl1 usicnt 0x00 true false true false true stretch)

pub holds : (holding 0x41 0x08 true ≡ true) × (holding 0x42 0x08 true ≡ true) × (holding 0x40 0x00 true ≡ true)
    × (holding 0x40 0x08 true ≡ false) × (holding 0x43 0x00 false ≡ false) × (holding 0x43 0x80 true ≡ false)
holds = (refl, refl, refl, refl, refl, refl)
