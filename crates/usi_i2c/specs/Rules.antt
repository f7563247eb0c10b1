-- The rules of I2C mode in 01's order, each on the register bytes and hidden bits that it speaks of.
-- A level is true when the line is high. The clock phase (01: clock half) is true when high.
use Rattle.std.specs.Prelude.{ℕ, ◌-◌, Bool, cond, true, not, ◌&&◌, ◌||◌, eqb}
use Rattle.std.specs.Bool.{beq}
use Rattle.bits.specs.Positions.{on, off, raise, clear, shift_in}
use Rattle.levels.specs.Levels.{rises}
use Rattle.usi_registers.specs.Registers.{USIMST, USIGE, USIOE, USIAL, USISTP, USISTTIFG, USIIFG, USISCLREL, USICNTx}
use Rattle.usi_registers.specs.Registers.{USISRL-first}
use Rattle.usi_registers.specs.Rules.{bit_count, counting, divider}

-- START: STTIFG=1 and SCLREL=0. STOP: STP=1.
unfoldable pub condition_flags : ℕ → Bool → Bool → ℕ
condition_flags usictl1 started stopped =
    cond started (raise usictl1 USISTTIFG) (cond stopped (raise usictl1 USISTP) usictl1)

unfoldable pub condition_count : ℕ → Bool → ℕ
condition_count usicnt started = cond started (clear usicnt USISCLREL) usicnt

-- SCL rises, CNT>0: the rule applies.
abbrev pub takes_bit : Bool → Bool → ℕ → Bool
takes_bit scl_before scl usicnt = rises scl_before scl && counting usicnt

-- If MST=1, the latched enable is 1 and the latch differs from SDA, arbitration is lost: AL=1, OE=0, latched enable 0.
abbrev pub loses : ℕ → Bool → Bool → Bool → Bool
loses usictl0 enable latch sda = on usictl0 USIMST && enable && not (beq latch sda)

unfoldable pub loss_control : ℕ → Bool → ℕ
loss_control usictl0 lost = cond lost (clear usictl0 USIOE) usictl0

unfoldable pub loss_flags : ℕ → Bool → ℕ
loss_flags usictl1 lost = cond lost (raise usictl1 USIAL) usictl1

-- Then USISRL shifts left by one and SDA enters at bit 0; CNT falls by 1; at 0, IFG=1.
abbrev pub shifted : ℕ → Bool → ℕ
shifted usisrl sda = shift_in usisrl sda

abbrev pub count_down : ℕ → ℕ
count_down usicnt = raise (clear usicnt USICNTx) (bit_count usicnt - 1)

unfoldable pub end_flags : ℕ → ℕ → ℕ
end_flags usictl1 usicnt = cond (eqb (bit_count usicnt) 1) (raise usictl1 USIIFG) usictl1

-- SCL falls. If CNT>0 and GE=0, the latch takes bit 7 of USISRL and the enable takes OE.
abbrev pub moves_latch : ℕ → ℕ → Bool
moves_latch usictl0 usicnt = counting usicnt && off usictl0 USIGE

abbrev pub first_bit : ℕ → Bool
first_bit usisrl = on usisrl USISRL-first

-- If the half is high, "caught" becomes true. A sample with SCL high ends "caught".
abbrev pub stretch_after : Bool → Bool → Bool → Bool → Bool
stretch_after stretch fallen phase scl = (stretch || (fallen && phase)) && not scl

-- Tick. With MST=1, IFG=0, CNT>0 the module clocks.
abbrev pub clocks : ℕ → ℕ → ℕ → Bool
clocks usictl0 usictl1 usicnt = on usictl0 USIMST && off usictl1 USIIFG && counting usicnt

-- Low half becomes high; high half becomes low only if SCL was last seen high. In every other case the half becomes
-- high.
unfoldable pub phase_after : Bool → Bool → Bool → Bool → Bool
phase_after clocking phase seen scl = cond clocking (cond phase (not (seen && scl)) true) true

-- A divider of 1 (DIV=0) does not wait for SCL (02: Ask 5): a tick in the high half with SCL last seen low.
abbrev pub overruns : ℕ → Bool → Bool → Bool → Bool → Bool
overruns usickctl clocking phase seen scl = eqb (divider usickctl) 0 && (clocking && phase && seen && not scl)

-- SDA is pulled low when enable is 1 and latch is 0; both lines are released while the set-up doesn't fit.
abbrev pub pulls_sda : Bool → Bool → Bool → Bool
pulls_sda fitting enable latch = fitting && enable && not latch

-- SCL is pulled low when MST=1, IFG=0 and the half is low, or when caught, SCLREL=0 and (IFG=1 or STTIFG=1 or CNT=0).
abbrev pub drives : ℕ → ℕ → Bool → Bool
drives usictl0 usictl1 phase = on usictl0 USIMST && off usictl1 USIIFG && not phase

abbrev pub holds : ℕ → ℕ → Bool → Bool
holds usictl1 usicnt stretch =
    stretch && off usicnt USISCLREL && (on usictl1 USIIFG || on usictl1 USISTTIFG || off usicnt USICNTx)
