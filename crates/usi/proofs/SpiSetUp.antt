-- A step in SPI changes IFG, CNT, the register and the hidden state: no bit that the set-up, the edges or the register's
-- width and direction are told by.
use mathlib.Core.Path.{◌≡◌, refl, ◌∙◌, ap₂}
use mathlib.Core.Bool.{Bool, true, false, cond, ◌&&◌}
use Prim.Native.Nat.{ℕ, ◌-◌, ◌<◌, ◌^◌}
use native.Mathlib.Omega.{arith}
use lib.Dec.{eqb}
use lib.Bits.{and_le_r}
use Rattle.bits.specs.Positions.{on, off, raise, clear}
use Rattle.bits.proofs.Masks.{on-raised, off-raised, on-cleared, small-unset}
use Rattle.usi_registers.specs.Registers.{USIPE7, USIPE6, USIPE5, USISWRST, USICKPH, USII2C, USICNTx, USIIFG}
use Rattle.usi_registers.specs.Rules as set_up
use Rattle.usi_i2c.specs.Rules as rules
use Rattle.usi_spi.specs.Rules as spi
use Rattle.usi.specs.declared.Usi.{Usi}
use Rattle.usi.specs.Module.{fits_spi, with_levels, with_phase}
use Rattle.usi.specs.Spi.{latched, followed, captured, changed, at_edge, edged, sampled, ticked}

-- v is set up as u is
pub record Alike (u v : Usi) : Type 0 where
  pub usictl0 : v.usictl0 ≡ u.usictl0
  pub usickctl : v.usickctl ≡ u.usickctl
  pub i2c : off v.usictl1 USII2C ≡ off u.usictl1 USII2C
  pub ckph : on v.usictl1 USICKPH ≡ on u.usictl1 USICKPH
  pub wide : spi.wide v.usicnt ≡ spi.wide u.usicnt

-- a hidden state replaced
pub same : {u : Usi} → Alike u u
same = record { usictl0 = refl; usickctl = refl; i2c = refl; ckph = refl; wide = refl }

pub then : {u v w : Usi} → Alike u v → Alike v w → Alike u w
then first second =
    record {
      usictl0 = second.usictl0 ∙ first.usictl0;
      usickctl = second.usickctl ∙ first.usickctl;
      i2c = second.i2c ∙ first.i2c;
      ckph = second.ckph ∙ first.ckph;
      wide = second.wide ∙ first.wide;
    }

chosen : (test : Bool) (u v w : Usi) → Alike u v → Alike u w → Alike u (cond test v w)
chosen true u v w first second = first
chosen false u v w first second = second

pub alike-fits : {u v : Usi} → Alike u v → fits_spi v ≡ fits_spi u
alike-fits alike =
    ap₂
    (λ (i2c : Bool) (usictl0 : ℕ). i2c && off usictl0 USISWRST && on usictl0 USIPE5 && on usictl0 USIPE6
    && on usictl0 USIPE7)
    alike.i2c alike.usictl0

-- 16B is no bit of CNT
count-wide : (usicnt : ℕ) → spi.wide (rules.count_down usicnt) ≡ spi.wide usicnt
count-wide usicnt =
    let few : set_up.bit_count usicnt - 1 < 2 ^ 6 = omega (arith, and_le_r usicnt USICNTx) in
    on-raised (clear usicnt USICNTx) (set_up.bit_count usicnt - 1) 6 (small-unset (set_up.bit_count usicnt - 1) 6 few)
    ∙ on-cleared usicnt USICNTx 6 refl

end-i2c : (usictl1 usicnt : ℕ) → off (rules.end_flags usictl1 usicnt) USII2C ≡ off usictl1 USII2C
unfolding rules.end_flags
end-i2c usictl1 usicnt = ended (eqb (set_up.bit_count usicnt) 1)
  where
    ended : (last : Bool) → off (cond last (raise usictl1 USIIFG) usictl1) USII2C ≡ off usictl1 USII2C
    ended true = off-raised usictl1 USIIFG 6 refl
    ended false = refl

end-ckph : (usictl1 usicnt : ℕ) → on (rules.end_flags usictl1 usicnt) USICKPH ≡ on usictl1 USICKPH
unfolding rules.end_flags
end-ckph usictl1 usicnt = ended (eqb (set_up.bit_count usicnt) 1)
  where
    ended : (last : Bool) → on (cond last (raise usictl1 USIIFG) usictl1) USICKPH ≡ on usictl1 USICKPH
    ended true = on-raised usictl1 USIIFG 7 refl
    ended false = refl

pub captured-alike : (sdi : Bool) (u : Usi) → Alike u (captured sdi u)
captured-alike sdi u =
    record {
      usictl0 = refl;
      usickctl = refl;
      i2c = end-i2c u.usictl1 u.usicnt;
      ckph = end-ckph u.usictl1 u.usicnt;
      wide = count-wide u.usicnt;
    }

latched-alike : (u : Usi) → Alike u (latched u)
latched-alike u = record { usictl0 = refl; usickctl = refl; i2c = refl; ckph = refl; wide = refl }

pub followed-alike : (u : Usi) → Alike u (followed u)
unfolding followed
followed-alike u =
    chosen (spi.follows u.usictl0 u.usictl1 u.usickctl u.usicnt u.seen u.scl) u (latched u) u
    (latched-alike u) same

changed-alike : (u : Usi) → Alike u (changed u)
unfolding changed
changed-alike u = chosen (rules.moves_latch u.usictl0 u.usicnt) u (latched u) u (latched-alike u) same

edge-alike : (sclk sdi : Bool) (u : Usi) → Alike u (at_edge sclk sdi u)
unfolding at_edge
edge-alike sclk sdi u =
    chosen (spi.captures u.usictl1 u.usickctl u.scl sclk) u _ _
    (chosen (set_up.counting u.usicnt) u (captured sdi u) u (captured-alike sdi u) same)
    (chosen (spi.changes u.usictl1 u.usickctl u.scl sclk) u (changed u) u (changed-alike u) same)

pub edged-alike : (sclk sdi : Bool) (u : Usi) → Alike u (edged sclk sdi u)
unfolding edged
edged-alike sclk sdi u = chosen u.seen u (at_edge sclk sdi u) u (edge-alike sclk sdi u) same

pub recorded-alike : (sclk sdi : Bool) (u : Usi) → Alike u (with_levels sclk sdi u)
recorded-alike sclk sdi u = record { usictl0 = refl; usickctl = refl; i2c = refl; ckph = refl; wide = refl }

pub sampled-alike : (sclk sdi : Bool) (u : Usi) → Alike u (sampled sclk sdi u)
sampled-alike sclk sdi u =
    let edge = edged sclk sdi u in
    then (edged-alike sclk sdi u)
    (then (recorded-alike sclk sdi edge) (followed-alike (with_levels sclk sdi edge)))

pub phased-alike : (phase : Bool) (u : Usi) → Alike u (with_phase phase u)
phased-alike phase u = record { usictl0 = refl; usickctl = refl; i2c = refl; ckph = refl; wide = refl }

pub ticked-alike : (u : Usi) → Alike u (ticked u)
ticked-alike u =
    let phase = spi.phase_after (rules.clocks u.usictl0 u.usictl1 u.usicnt) u.phase in
    then (phased-alike phase u) (followed-alike (with_phase phase u))
