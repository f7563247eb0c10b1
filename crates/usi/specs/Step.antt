-- The three kinds of step, register access and their answers: 01's rules composed over the module.
use Rattle.std.specs.Prelude.{ℕ, ◌+◌, ◌*◌, ◌/◌, ◌%◌, Bool, cond, not, ◌&&◌, eqb, ltb, Result, Ok, Err}
use Rattle.laws.specs.declared.Refusal.{Refusal}
use Rattle.laws.specs.Refusals.{refused_at}
use Rattle.usi_registers.specs.Registers.{USICTL0, USICTL1, USICKCTL, USICNT, USISRL, USISRH}
use Rattle.usi_registers.specs.Rules as set_up
use Rattle.levels.specs.Levels as levels
use Rattle.usi_i2c.specs.Rules as rules
use Rattle.usi.specs.declared.Usi.{Usi}
use Rattle.usi.specs.declared.Refused.{Refused}
use Rattle.usi.specs.declared.Written.{Written}
use Rattle.usi.specs.Module.{with_usictl0, with_usictl1, with_usickctl, with_usicnt, with_usisrl, with_usisrh}
use Rattle.usi.specs.Module.{with_latch, with_phase, with_levels, with_stretch, at_rest, fits, fits_spi}
use Rattle.usi.specs.Spi as spi

-- A step is refused by 01's number, with the module as it was.
abbrev pub refused : ℕ → Usi → Refused
refused number u = record { number = number; usi = u }

-- 01's number for each answer of a step (0: not refused), and the module that it hands back.
abbrev pub refusal : Result Usi Refused → ℕ
refusal (Ok u) = 0
refusal (Err r) = r.number

abbrev pub module_of : Result Usi Refused → Usi
module_of (Ok u) = u
module_of (Err r) = r.usi

-- 01's number and value for each answer of a read.
abbrev pub read_refusal : Result ℕ Refusal → ℕ
read_refusal (Ok v) = 0
read_refusal (Err r) = r.number

abbrev pub value_of : Result ℕ Refusal → ℕ
value_of (Ok v) = v
value_of (Err r) = 0

-- The step that follows, unless this one was refused.
abbrev pub and_then : Result Usi Refused → (Usi → Result Usi Refused) → Result Usi Refused
and_then (Ok u) next = next u
and_then (Err r) next = Err r

-- The latch takes bit 7 of USISRL, and the enable takes OE.
abbrev pub latched : Usi → Usi
latched u = with_latch (rules.first_bit u.usisrl) (set_up.output_enable u.usictl0) u

-- GE=1: after each step on a set-up that fits I2C the latch and the enable follow.
unfoldable pub followed : Usi → Usi
followed u = cond (set_up.transparent u.usictl0) (latched u) u

-- A write that changes which of none, I2C and SPI the set-up is rests the hidden state (02: Ask 1), and so does one
-- that leaves none.
abbrev pub kept : Bool → Usi → Usi
kept same u = cond same u (at_rest u)

unfoldable pub settled : Usi → Usi → Usi
settled before u =
    cond (fits u) (followed (kept (fits before) u))
    (cond (fits_spi u) (spi.followed (kept (fits_spi before) u)) (at_rest u))

-- Register read; refusal 1 outside 078h to 07Dh.
unfoldable pub read_byte : Usi → ℕ → Result ℕ Refusal
read_byte u address =
    cond (eqb address USICTL0) (Ok u.usictl0)
    (cond (eqb address USICTL1) (Ok u.usictl1)
    (cond (eqb address USICKCTL) (Ok u.usickctl)
    (cond (eqb address USICNT) (Ok u.usicnt)
    (cond (eqb address USISRL) (Ok u.usisrl)
    (cond (eqb address USISRH) (Ok u.usisrh)
    (Err (refused_at 1 0)))))))

-- Register write; a write to USICNT acts on the flags of USICTL1 too.
unfoldable pub write_byte : Usi → ℕ → ℕ → Result Usi Refused
write_byte u address value =
    cond (eqb address USICTL0) (Ok (settled u (with_usictl0 value u)))
    (cond (eqb address USICTL1) (Ok (settled u (with_usictl1 value u)))
    (cond (eqb address USICKCTL) (Ok (settled u (with_usickctl value u)))
    (cond (eqb address USICNT)
    (Ok (settled u (with_usicnt value (with_usictl1 (set_up.count_flags u.usictl1 value) u))))
    (cond (eqb address USISRL) (Ok (settled u (with_usisrl value u)))
    (cond (eqb address USISRH) (Ok (settled u (with_usisrh value u)))
    (Err (refused 1 u)))))))

-- A word takes an even address (else 2), low byte there, high byte after it; a write is the low byte's, then the high
-- byte's.
abbrev pub odd : ℕ → Bool
odd address = eqb (address % 2) 1

-- the word of two byte reads
abbrev pub joined : Result ℕ Refusal → Result ℕ Refusal → Result ℕ Refusal
joined (Ok low) (Ok high) = Ok (low + 256 * high)
joined (Ok low) (Err r) = Err r
joined (Err r) high = Err r

unfoldable pub read_word : Usi → ℕ → Result ℕ Refusal
read_word u address =
    cond (odd address) (Err (refused_at 2 0)) (joined (read_byte u address) (read_byte u (address + 1)))

unfoldable pub write_word : Usi → ℕ → ℕ → Result Usi Refused
write_word u address value =
    cond (odd address) (Err (refused 2 u))
    (and_then (write_byte u address (value % 256)) (λ v. write_byte v (address + 1) (value / 256)))

-- A write's answer: the step's, with the flags of USICTL1 that it cleared (02: Ask 12), of both widths alike. A
-- refused one clears none.
abbrev pub answered : ℕ → Result Usi Refused → Result Written Refused
answered before (Ok u) = Ok (record { usi = u; cleared = set_up.cleared before u.usictl1 })
answered before (Err r) = Err r

abbrev pub cleared_by : Result Written Refused → ℕ
cleared_by (Ok w) = w.cleared
cleared_by (Err r) = 0

abbrev pub written : Usi → ℕ → ℕ → Result Written Refused
written u address value = answered u.usictl1 (write_byte u address value)

abbrev pub written_word : Usi → ℕ → ℕ → Result Written Refused
written_word u address value = answered u.usictl1 (write_word u address value)

-- START and STOP of a sample, on the flags and SCLREL.
abbrev pub conditioned : Bool → Bool → Usi → Usi
conditioned scl sda u =
    with_usictl1
    (rules.condition_flags u.usictl1 (levels.start u.scl u.sda scl sda)
    (levels.stop u.scl u.sda scl sda))
    (with_usicnt (rules.condition_count u.usicnt (levels.start u.scl u.sda scl sda)) u)

-- SCL rises, CNT>0: arbitration first.
abbrev pub arbitrated : Bool → Usi → Usi
arbitrated lost u =
    with_usictl1 (rules.loss_flags u.usictl1 lost)
    (with_usictl0 (rules.loss_control u.usictl0 lost) (with_latch u.latch (u.enable && not lost) u))

-- Then the bit is taken.
abbrev pub clocked : Bool → Usi → Usi
clocked sda u =
    with_usictl1 (rules.end_flags u.usictl1 u.usicnt)
    (with_usicnt (rules.count_down u.usicnt) (with_usisrl (rules.shifted u.usisrl sda) u))

abbrev pub bit_taken : Bool → Usi → Usi
bit_taken sda u = clocked sda (arbitrated (rules.loses u.usictl0 u.enable u.latch sda) u)

unfoldable pub risen : Bool → Bool → Usi → Usi
risen scl sda u = cond (rules.takes_bit u.scl scl u.usicnt) (bit_taken sda u) u

-- SCL falls: the latch may take the next bit.
unfoldable pub fallen : Bool → Usi → Usi
fallen scl u =
    cond (levels.falls u.scl scl) (cond (rules.moves_latch u.usictl0 u.usicnt) (latched u) u) u

-- SCL falls while the half is high: caught. A sample with SCL high ends it.
abbrev pub stretched : Bool → Usi → Usi
stretched scl u = with_stretch (rules.stretch_after u.stretch (levels.falls u.scl scl) u.phase scl) u

-- The levels are remembered.
abbrev pub recorded : Bool → Bool → Usi → Usi
recorded scl sda u = with_levels scl sda u

-- With no levels remembered, a sample only records.
unfoldable pub edged : Bool → Bool → Usi → Usi
edged scl sda u = cond u.seen (stretched scl (fallen scl (risen scl sda (conditioned scl sda u)))) u

abbrev pub sampled : Bool → Bool → Usi → Usi
sampled scl sda u = followed (recorded scl sda (edged scl sda u))

-- Sample: the level byte is SCL + 2·SDA, in SPI SCLK + 2·SDI. Refusals 4, 3; 3 where neither set-up fits (02: Ask 1).
unfoldable pub sample : Usi → ℕ → Result Usi Refused
sample u level =
    cond (ltb levels.max_level level) (Err (refused 4 u))
    (cond (fits u) (Ok (sampled (levels.scl level) (levels.sda level) u))
    (cond (fits_spi u) (Ok (spi.sampled (levels.scl level) (levels.sda level) u))
    (Err (refused 3 u))))

-- Tick. Refusals 3, and in I2C 17 (02: Ask 5).
abbrev pub ticked : Usi → Usi
ticked u =
    followed (with_phase (rules.phase_after (rules.clocks u.usictl0 u.usictl1 u.usicnt) u.phase u.seen
    u.scl) u)

abbrev pub overruns : Usi → Bool
overruns u =
    rules.overruns u.usickctl (rules.clocks u.usictl0 u.usictl1 u.usicnt) u.phase u.seen u.scl

abbrev pub tick_i2c : Usi → Result Usi Refused
tick_i2c u = cond (overruns u) (Err (refused 17 u)) (Ok (ticked u))

unfoldable pub tick : Usi → Result Usi Refused
tick u =
    cond (fits u) (tick_i2c u)
    (cond (fits_spi u) (Ok (spi.ticked u)) (Err (refused 3 u)))

-- A sample and then, where asked, a tick, each with the module that it hands back.
abbrev pub sample_then : ℕ → Bool → Usi → Usi
sample_then level ticks u =
    cond ticks (module_of (tick (module_of (sample u level)))) (module_of (sample u level))
