-- One module through one bit turn. A module that clocks goes through it by the rules alone, whatever its count, its
-- register and the byte's other masters: it pulls SCL while low, drives the first bit of USISRL, and at the rise
-- takes the bus's bit.
use Prim.Native.Nat.{ℕ}
use mathlib.Core.Path.{◌≡◌, refl, ap, ap₂, ◌∙◌}
use mathlib.Core.Bool.{Bool, cond, true, false, not, ◌&&◌, ◌||◌}
use Rattle.usi_registers.specs.Rules as set_up
use Rattle.usi_i2c.specs.Rules as rules
use Rattle.usi_i2c.specs.Rules.{condition_flags, condition_count, phase_after}
use Rattle.usi.specs.declared.Usi.{Usi}
use Rattle.usi.specs.Module.{fits, pulls_scl, pulls_sda}
use Rattle.usi.specs.Step.{module_of, latched, followed, bit_taken, risen, fallen, stretched, recorded, edged}
use Rattle.usi.specs.Step.{sampled, sample, ticked, overruns, tick}
use Rattle.levels.specs.Levels.{level_of}

-- a module that has seen the lines and stretches nothing
abbrev state : (control flags count register : ℕ) (latch enable phase scl sda : Bool) → Usi
state control flags count register latch enable phase scl sda =
    record {
      usictl0 = control;
      usictl1 = flags;
      usickctl = 0x22;
      usicnt = count;
      usisrl = register;
      usisrh = 0;
      latch = latch;
      enable = enable;
      phase = phase;
      seen = true;
      scl = scl;
      sda = sda;
      stretch = false;
    }

-- between two turns SCL is high and so is the clock phase
abbrev pub between : (control flags count register : ℕ) (latch enable sda : Bool) → Usi
between control flags count register latch enable sda =
    state control flags count register latch enable true true sda

-- the instants of a turn: the tick and the first low sample, at which SDA is still what it was; the second low
-- sample, with the bit, and the tick; the high sample
abbrev pub ticks : Usi → Usi
ticks usi = module_of (tick usi)

abbrev pub samples : Bool → Bool → Usi → Usi
samples scl sda usi = module_of (sample usi (level_of scl sda))

abbrev pub lowered : Bool → Usi → Usi
lowered before usi = samples false before (ticks usi)

abbrev pub raised : Bool → Bool → Usi → Usi
raised bit before usi = ticks (samples false bit (lowered before usi))

abbrev pub turned : Bool → Bool → Usi → Usi
turned bit before usi = samples true bit (raised bit before usi)

-- through a turn at the bus's bit: whether it pulls SCL low, whether SDA, and what becomes of it, whatever SDA was
-- before
pub record Turns (usi : Usi) (clocks drives bit : Bool) (after : Usi) : Type 0 where
  pub falls : pulls_scl (ticks usi) ≡ clocks
  pub low : (before : Bool) → pulls_scl (lowered before usi) ≡ clocks
  pub drives-low : (before : Bool) → pulls_sda (lowered before usi) ≡ drives
  pub high : (before : Bool) → pulls_scl (raised bit before usi) ≡ false
  pub drives-high : (before : Bool) → pulls_sda (raised bit before usi) ≡ drives
  pub ends : (before : Bool) → turned bit before usi ≡ after

-- a step on a fitting set-up is the rule's
tick-fits : (usi : Usi) → fits usi ≡ true → overruns usi ≡ false → ticks usi ≡ ticked usi
unfolding tick
tick-fits usi fitting waits = rw (fitting, waits)

sample-fits : (scl sda : Bool) (usi : Usi) → fits usi ≡ true → samples scl sda usi ≡ sampled scl sda usi
unfolding sample
sample-fits true true usi fitting = rw fitting
sample-fits true false usi fitting = rw fitting
sample-fits false true usi fitting = rw fitting
sample-fits false false usi fitting = rw fitting

-- with GE=0 the latch holds
held : (usi : Usi) → set_up.transparent usi.usictl0 ≡ false → followed usi ≡ usi
unfolding followed
held usi opaque = ap (λ follows. cond follows (latched usi) usi) opaque

-- a master pulls SCL while its phase is low
abbrev pub Drives : ℕ → ℕ → Type 0
Drives control flags = (phase : Bool) → rules.drives control flags phase ≡ not phase

-- a module that clocks: MST=1, GE=0, IFG=0, CNT>0 in a fitting set-up
pub record Clocking (control flags count : ℕ) : Type 0 where
  pub fitting : set_up.fits control flags 0x22 count ≡ true
  pub clocks : rules.clocks control flags count ≡ true
  pub drives : Drives control flags
  pub counting : set_up.counting count ≡ true
  pub moves : rules.moves_latch control count ≡ true
  pub opaque : set_up.transparent control ≡ false
  pub opaque-after : (lost : Bool) → set_up.transparent (rules.loss_control control lost) ≡ false

-- a module after the rise at which it lost or not
abbrev pub after : (control flags count register : ℕ) (latch enable bit lost : Bool) → Usi
after control flags count register latch enable bit lost =
    between
    (rules.loss_control control lost)
    (rules.end_flags (rules.loss_flags flags lost) count)
    (rules.count_down count)
    (rules.shifted register bit)
    latch
    (enable && not lost)
    bit

module _ (control flags count register : ℕ) (clocking : Clocking control flags count) where
  tick-down : (latch enable sda : Bool)
      → ticks (between control flags count register latch enable sda)
      ≡ state control flags count register latch enable false true sda
  unfolding phase_after
  tick-down latch enable sda =
      tick-fits (between control flags count register latch enable sda) clocking.fitting refl ∙ held _ clocking.opaque
      ∙ ap (λ runs. state control flags count register latch enable (phase_after runs true true true) true sda)
      clocking.clocks

  -- SCL falls: the latch takes the first bit of USISRL, the enable takes OE
  fall : (latch enable sda before : Bool)
      → samples false before (state control flags count register latch enable false true sda)
      ≡ state control flags count register (rules.first_bit register) (set_up.output_enable control) false false before
  unfolding condition_flags condition_count risen fallen edged
  fall latch enable sda before =
      sample-fits false before _ clocking.fitting
      ∙ ap (λ moves. followed (recorded false before (stretched false (cond moves (latched low) low))))
      clocking.moves
      ∙ held _ clocking.opaque
    where
      low : Usi
      low = state control flags count register latch enable false true sda

  -- SCL stays low
  stay : (latch enable sda bit : Bool)
      → samples false bit (state control flags count register latch enable false false sda)
      ≡ state control flags count register latch enable false false bit
  unfolding condition_flags condition_count risen fallen edged
  stay latch enable sda bit = sample-fits false bit _ clocking.fitting ∙ held _ clocking.opaque

  tick-up : (latch enable sda : Bool)
      → ticks (state control flags count register latch enable false false sda)
      ≡ state control flags count register latch enable true false sda
  unfolding phase_after
  tick-up latch enable sda =
      tick-fits (state control flags count register latch enable false false sda) clocking.fitting refl ∙ held _ clocking.opaque
      ∙ ap (λ runs. state control flags count register latch enable (phase_after runs false true false) false sda)
      clocking.clocks

  -- SCL rises: arbitration, then the bit is taken
  rise : (latch enable sda bit : Bool)
      → samples true bit (state control flags count register latch enable true false sda)
      ≡ after control flags count register latch enable bit (rules.loses control enable latch bit)
  unfolding condition_flags condition_count risen fallen edged
  rise latch enable sda bit =
      sample-fits true bit _ clocking.fitting
      ∙ ap (λ takes. followed
      (recorded true bit (stretched true (fallen true (cond takes (bit_taken bit high) high))))) clocking.counting
      ∙ held _ (clocking.opaque-after (rules.loses control enable latch bit))
    where
      high : Usi
      high = state control flags count register latch enable true false sda

  -- the phase low, SCL is pulled; SDA is pulled by the enable and a latch of 0
  pulls-low : (latch enable scl sda : Bool)
      → pulls_scl (state control flags count register latch enable false scl sda) ≡ true
  pulls-low latch enable scl sda =
      ap₂ (λ fit drive. fit && (drive || false)) clocking.fitting (clocking.drives false)

  pulls-high : (latch enable scl sda : Bool)
      → pulls_scl (state control flags count register latch enable true scl sda) ≡ false
  pulls-high latch enable scl sda =
      ap₂ (λ fit drive. fit && (drive || false)) clocking.fitting (clocking.drives true)

  pulls-data : (latch enable phase scl sda : Bool)
      → pulls_sda (state control flags count register latch enable phase scl sda) ≡ enable && not latch
  pulls-data latch enable phase scl sda = ap (λ fit. fit && enable && not latch) clocking.fitting

  -- what the latch and the enable are from the fall on
  module _ (latch enable sda bit sent driving : Bool) (first : rules.first_bit register ≡ sent)
      (output : set_up.output_enable control ≡ driving) where
    abbrev start : Usi
    start = between control flags count register latch enable sda

    lowered_is : (before : Bool) → lowered before start
        ≡ state control flags count register sent driving false false before
    lowered_is before =
        ap (samples false before) (tick-down latch enable sda) ∙ fall latch enable sda before
        ∙ ap₂ (λ l e. state control flags count register l e false false before) first output

    raised_is : (before : Bool) → raised bit before start
        ≡ state control flags count register sent driving true false bit
    raised_is before =
        ap (λ usi. ticks (samples false bit usi)) (lowered_is before)
        ∙ ap ticks (stay sent driving before bit)
        ∙ tick-up sent driving bit

    -- a module that clocks, through one turn
    pub clocking-turn : Turns start true (driving && not sent) bit
        (after control flags count register sent driving bit (rules.loses control driving sent bit))
    clocking-turn =
        record {
          falls = ap pulls_scl (tick-down latch enable sda) ∙ pulls-low latch enable true sda;
          low = λ before. ap pulls_scl (lowered_is before) ∙ pulls-low sent driving false before;
          drives-low = λ before. ap pulls_sda (lowered_is before) ∙ pulls-data sent driving false false before;
          high = λ before. ap pulls_scl (raised_is before) ∙ pulls-high sent driving false bit;
          drives-high = λ before. ap pulls_sda (raised_is before) ∙ pulls-data sent driving true false bit;
          ends = λ before. ap (samples true bit) (raised_is before) ∙ rise sent driving bit bit;
        }
