-- SPI on the module (02: Ask 1): the output latch, a sample's edge, a tick.
use Rattle.std.specs.Prelude.{ℕ, Bool, cond}
use Rattle.usi_registers.specs.Rules as set_up
use Rattle.usi_i2c.specs.Rules as rules
use Rattle.usi_spi.specs.Rules as spi
use Rattle.usi.specs.declared.Usi.{Usi}
use Rattle.usi.specs.Module.{with_usictl1, with_usicnt, with_usisrl, with_usisrh, with_latch, with_phase, with_levels}

-- The register: USISRL, with 16B=1 USISRH and USISRL; and the bit that leaves next.
abbrev pub register : Usi → ℕ
register u = spi.register u.usicnt u.usisrl u.usisrh

abbrev pub outgoing : Usi → Bool
outgoing u = spi.outgoing u.usictl0 u.usicnt (register u)

-- The latch takes the outgoing bit, and the enable takes OE.
abbrev pub latched : Usi → Usi
latched u = with_latch (outgoing u) (set_up.output_enable u.usictl0) u

-- After each step: with GE=1, or with CKPH=1, CNT>0 and SCLK last seen idle, the latch and the enable follow.
unfoldable pub followed : Usi → Usi
followed u =
    cond (spi.follows u.usictl0 u.usictl1 u.usickctl u.usicnt u.seen u.scl) (latched u) u

-- Capture: one shift, SDI enters; CNT falls by 1; at 0, IFG=1.
abbrev pub entered : Bool → Usi → ℕ
entered sdi u = spi.shifted u.usictl0 u.usicnt sdi (register u)

abbrev pub captured : Bool → Usi → Usi
captured sdi u =
    with_usictl1 (rules.end_flags u.usictl1 u.usicnt)
    (with_usicnt (rules.count_down u.usicnt)
    (with_usisrl (spi.low (entered sdi u)) (with_usisrh (spi.high u.usicnt u.usisrh (entered sdi u)) u)))

-- Change edge with CNT>0 and GE=0: the latch moves.
unfoldable pub changed : Usi → Usi
changed u = cond (rules.moves_latch u.usictl0 u.usicnt) (latched u) u

-- The edge of SCLK, if any; a capture needs CNT>0.
unfoldable pub at_edge : Bool → Bool → Usi → Usi
at_edge sclk sdi u =
    cond (spi.captures u.usictl1 u.usickctl u.scl sclk)
    (cond (set_up.counting u.usicnt) (captured sdi u) u)
    (cond (spi.changes u.usictl1 u.usickctl u.scl sclk) (changed u) u)

-- With no levels remembered a sample only records.
unfoldable pub edged : Bool → Bool → Usi → Usi
edged sclk sdi u = cond u.seen (at_edge sclk sdi u) u

abbrev pub sampled : Bool → Bool → Usi → Usi
sampled sclk sdi u = followed (with_levels sclk sdi (edged sclk sdi u))

-- Tick: MST=1, IFG=0, CNT>0: the phase toggles; otherwise it becomes idle.
abbrev pub ticked : Usi → Usi
ticked u =
    followed (with_phase (spi.phase_after (rules.clocks u.usictl0 u.usictl1 u.usicnt) u.phase) u)
