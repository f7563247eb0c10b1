-- A sample changes flags, OE, SCLREL and CNT, and no bit that the set-up is tested by: a set-up that fits goes on fitting.
use mathlib.Core.Path.{◌≡◌, refl, ◌∙◌, ap, ap₂}
use mathlib.Core.Bool.{Bool, true, false, cond, ◌&&◌}
use Prim.Native.Nat.{ℕ, ◌+◌, ◌-◌, ◌<◌, ◌^◌}
use native.Mathlib.Omega.{arith}
use lib.Dec.{eqb}
use lib.Bits.{and_le_r}
use Rattle.bits.specs.Positions.{bit, is_set, on, off, raise, clear}
use Rattle.bits.proofs.Masks.{on-raised, off-raised, on-cleared, off-cleared, small-unset}
use Rattle.usi_registers.specs.Registers.{USIPE7, USIPE6, USILSB, USISWRST, USIOE, USICKPH, USII2C, USICKPL}
use Rattle.usi_registers.specs.Registers.{USISCLREL, USI16B, USICNTx, USIIFGCC, USIIFG, USISTP}
use Rattle.usi_registers.specs.Rules as set_up
use Rattle.levels.specs.Levels as levels
use Rattle.usi_i2c.specs.Rules as rules
use Rattle.usi.specs.declared.Usi.{Usi}
use Rattle.usi.specs.Module.{fits, with_phase}
use Rattle.usi.specs.Step.{conditioned, bit_taken, risen, fallen, edged, stretched}
use Rattle.usi.specs.Step.{recorded, followed, latched, sampled, ticked}

-- bits of USICTL1 below I2C may be set
flags-raised :
    (usictl1 mask : ℕ) → is_set 6 mask ≡ false → is_set 7 mask ≡ false → (usictl0 usickctl usicnt : ℕ)
    → set_up.fits usictl0 (raise usictl1 mask) usickctl usicnt ≡ set_up.fits usictl0 usictl1 usickctl usicnt
flags-raised usictl1 mask below6 below7 usictl0 usickctl usicnt =
    ap₂
    (λ (i2c ckph : Bool). i2c && on usickctl USICKPL && ckph && off usictl0 USILSB && off usicnt USI16B
    && on usictl0 USIPE6 && on usictl0 USIPE7 && off usictl0 USISWRST)
    (on-raised usictl1 mask 6 below6) (off-raised usictl1 mask 7 below7)

-- 16B is all that the set-up is tested by in USICNT
count-changed :
    (usicnt changed : ℕ) → off changed USI16B ≡ off usicnt USI16B → (usictl0 usictl1 usickctl : ℕ)
    → set_up.fits usictl0 usictl1 usickctl changed ≡ set_up.fits usictl0 usictl1 usickctl usicnt
count-changed usicnt changed same usictl0 usictl1 usickctl =
    ap
    (λ (narrow : Bool). on usictl1 USII2C && on usickctl USICKPL && off usictl1 USICKPH && off usictl0 USILSB &&
    narrow
    && on usictl0 USIPE6 && on usictl0 USIPE7 && off usictl0 USISWRST)
    same

-- and so may those that a write of USICNT clears
flags-cleared :
    (usictl1 mask : ℕ) → is_set 6 (255 - mask) ≡ true → is_set 7 (255 - mask) ≡ true → (usictl0 usickctl usicnt : ℕ)
    → set_up.fits usictl0 (clear usictl1 mask) usickctl usicnt ≡ set_up.fits usictl0 usictl1 usickctl usicnt
flags-cleared usictl1 mask outside6 outside7 usictl0 usickctl usicnt =
    ap₂
    (λ (i2c ckph : Bool). i2c && on usickctl USICKPL && ckph && off usictl0 USILSB && off usicnt USI16B
    && on usictl0 USIPE6 && on usictl0 USIPE7 && off usictl0 USISWRST)
    (on-cleared usictl1 mask 6 outside6) (off-cleared usictl1 mask 7 outside7)

pub count-flags :
    (value usictl0 usictl1 usickctl usicnt : ℕ)
    → set_up.fits usictl0 (set_up.count_flags usictl1 value) usickctl usicnt ≡ set_up.fits usictl0 usictl1 usickctl usicnt
unfolding set_up.count_flags
count-flags value c0 c1 ck cn = go (set_up.counting value) (off value USIIFGCC)
  where
    go : (counting clearing : Bool)
        → set_up.fits c0 (cond counting (cond clearing (clear c1 (USIIFG + USISTP)) c1) (raise c1 USIIFG)) ck cn
        ≡ set_up.fits c0 c1 ck cn
    go true true = flags-cleared c1 (USIIFG + USISTP) refl refl c0 ck cn
    go true false = refl
    go false clearing = flags-raised c1 USIIFG refl refl c0 ck cn

condition-flags :
    (started stopped : Bool) (usictl0 usictl1 usickctl usicnt : ℕ)
    → set_up.fits usictl0 (rules.condition_flags usictl1 started stopped) usickctl usicnt ≡ set_up.fits usictl0 usictl1
    usickctl usicnt
unfolding rules.condition_flags
condition-flags true stopped c0 c1 ck cn = flags-raised c1 (bit 1) refl refl c0 ck cn
condition-flags false true c0 c1 ck cn = flags-raised c1 (bit 2) refl refl c0 ck cn
condition-flags false false c0 c1 ck cn = refl

condition-count :
    (started : Bool) (usictl0 usictl1 usickctl usicnt : ℕ)
    → set_up.fits usictl0 usictl1 usickctl (rules.condition_count usicnt started) ≡ set_up.fits usictl0 usictl1 usickctl
    usicnt
unfolding rules.condition_count
condition-count true c0 c1 ck cn = count-changed cn (clear cn USISCLREL) (off-cleared cn USISCLREL 6 refl) c0 c1 ck
condition-count false c0 c1 ck cn = refl

loss-flags :
    (lost : Bool) (usictl0 usictl1 usickctl usicnt : ℕ)
    → set_up.fits usictl0 (rules.loss_flags usictl1 lost) usickctl usicnt ≡ set_up.fits usictl0 usictl1 usickctl usicnt
unfolding rules.loss_flags
loss-flags true c0 c1 ck cn = flags-raised c1 (bit 3) refl refl c0 ck cn
loss-flags false c0 c1 ck cn = refl

loss-control :
    (lost : Bool) (usictl0 usictl1 usickctl usicnt : ℕ)
    → set_up.fits (rules.loss_control usictl0 lost) usictl1 usickctl usicnt ≡ set_up.fits usictl0 usictl1 usickctl usicnt
unfolding rules.loss_control
loss-control true c0 c1 ck cn =
    ap₂ (λ (lsb pe6 : Bool). on c1 USII2C && on ck USICKPL && off c1 USICKPH && lsb && off cn USI16B && pe6
    && on (clear c0 USIOE) USIPE7 && off (clear c0 USIOE) USISWRST) (off-cleared c0 USIOE 4 refl)
    (on-cleared c0 USIOE 6 refl)
    ∙ ap₂ (λ (pe7 reset : Bool). on c1 USII2C && on ck USICKPL && off c1 USICKPH && off c0 USILSB && off cn USI16B &&
    on c0 USIPE6
    && pe7 && reset) (on-cleared c0 USIOE 7 refl) (off-cleared c0 USIOE 0 refl)
loss-control false c0 c1 ck cn = refl

end-flags :
    (count usictl0 usictl1 usickctl usicnt : ℕ)
    → set_up.fits usictl0 (rules.end_flags usictl1 count) usickctl usicnt ≡ set_up.fits usictl0 usictl1 usickctl usicnt
unfolding rules.end_flags
end-flags count c0 c1 ck cn = ended (eqb (set_up.bit_count count) 1)
  where
    ended : (last : Bool) → set_up.fits c0 (cond last (raise c1 (bit 0)) c1) ck cn ≡ set_up.fits c0 c1 ck cn
    ended true = flags-raised c1 (bit 0) refl refl c0 ck cn
    ended false = refl

count-down :
    (usictl0 usictl1 usickctl usicnt : ℕ)
    → set_up.fits usictl0 usictl1 usickctl (rules.count_down usicnt) ≡ set_up.fits usictl0 usictl1 usickctl usicnt
count-down c0 c1 ck cn =
    let few : set_up.bit_count cn - 1 < 2 ^ 6 = omega (arith, and_le_r cn USICNTx) in
    count-changed cn (rules.count_down cn)
    (off-raised (clear cn USICNTx) (set_up.bit_count cn - 1) 6 (small-unset (set_up.bit_count cn - 1) 6 few)
    ∙ off-cleared cn USICNTx 6 refl)
    c0 c1 ck

conditioned-fits : (scl sda : Bool) (u : Usi) → fits (conditioned scl sda u) ≡ fits u
conditioned-fits scl sda u =
    let started = levels.start u.scl u.sda scl sda in
    let stopped = levels.stop u.scl u.sda scl sda in
    condition-flags started stopped u.usictl0 u.usictl1 u.usickctl (rules.condition_count u.usicnt started)
    ∙ condition-count started u.usictl0 u.usictl1 u.usickctl u.usicnt

bit_taken-fits : (sda : Bool) (u : Usi) → fits (bit_taken sda u) ≡ fits u
bit_taken-fits sda u =
    let lost = rules.loses u.usictl0 u.enable u.latch sda in
    let control = rules.loss_control u.usictl0 lost in
    let flags = rules.loss_flags u.usictl1 lost in
    end-flags u.usicnt control flags u.usickctl (rules.count_down u.usicnt)
    ∙ count-down control flags u.usickctl u.usicnt
    ∙ loss-flags lost control u.usictl1 u.usickctl u.usicnt
    ∙ loss-control lost u.usictl0 u.usictl1 u.usickctl u.usicnt

-- one of two modules is chosen: if both fit as u does, so does the choice
chosen : (choice : Bool) (u v w : Usi) → fits v ≡ fits u → fits w ≡ fits u → fits (cond choice v w) ≡ fits u
chosen true u v w p q = p
chosen false u v w p q = q

risen-fits : (scl sda : Bool) (u : Usi) → fits (risen scl sda u) ≡ fits u
unfolding risen
risen-fits scl sda u = chosen (rules.takes_bit u.scl scl u.usicnt) u (bit_taken sda u) u (bit_taken-fits sda u)
    refl

fallen-fits : (scl : Bool) (u : Usi) → fits (fallen scl u) ≡ fits u
unfolding fallen
fallen-fits scl u =
    chosen (levels.falls u.scl scl) u (cond (rules.moves_latch u.usictl0 u.usicnt) (latched u) u) u
    (chosen (rules.moves_latch u.usictl0 u.usicnt) u (latched u) u refl refl) refl

pub edged-fits : (scl sda : Bool) (u : Usi) → fits (edged scl sda u) ≡ fits u
unfolding edged
edged-fits scl sda u =
    let first = conditioned scl sda u in
    let second = risen scl sda first in
    chosen u.seen u (stretched scl (fallen scl second)) u
    (fallen-fits scl second ∙ risen-fits scl sda first ∙ conditioned-fits scl sda u) refl

pub followed-fits : (u : Usi) → fits (followed u) ≡ fits u
unfolding followed
followed-fits u = chosen (set_up.transparent u.usictl0) u (latched u) u refl refl

pub sampled-fits : (scl sda : Bool) (u : Usi) → fits (sampled scl sda u) ≡ fits u
sampled-fits scl sda u = followed-fits (recorded scl sda (edged scl sda u)) ∙ edged-fits scl sda u

pub ticked-fits : (u : Usi) → fits (ticked u) ≡ fits u
ticked-fits u =
    followed-fits
    (with_phase (rules.phase_after (rules.clocks u.usictl0 u.usictl1 u.usicnt) u.phase u.seen u.scl)
    u)

-- the clock's set-up stays at every sample and tick
chosen-clock : (choice : Bool) (u v w : Usi) → v.usickctl ≡ u.usickctl → w.usickctl ≡ u.usickctl
    → (cond choice v w).usickctl ≡ u.usickctl
chosen-clock true u v w p q = p
chosen-clock false u v w p q = q

pub followed-clock : (u : Usi) → (followed u).usickctl ≡ u.usickctl
unfolding followed
followed-clock u = chosen-clock (set_up.transparent u.usictl0) u (latched u) u refl refl

risen-clock : (scl sda : Bool) (u : Usi) → (risen scl sda u).usickctl ≡ u.usickctl
unfolding risen
risen-clock scl sda u = chosen-clock (rules.takes_bit u.scl scl u.usicnt) u (bit_taken sda u) u refl refl

fallen-clock : (scl : Bool) (u : Usi) → (fallen scl u).usickctl ≡ u.usickctl
unfolding fallen
fallen-clock scl u =
    chosen-clock (levels.falls u.scl scl) u (cond (rules.moves_latch u.usictl0 u.usicnt) (latched u) u) u
    (chosen-clock (rules.moves_latch u.usictl0 u.usicnt) u (latched u) u refl refl) refl

edged-clock : (scl sda : Bool) (u : Usi) → (edged scl sda u).usickctl ≡ u.usickctl
unfolding edged
edged-clock scl sda u =
    let first = conditioned scl sda u in
    let second = risen scl sda first in
    chosen-clock u.seen u (stretched scl (fallen scl second)) u
    (fallen-clock scl second ∙ risen-clock scl sda first) refl

pub sampled-clock : (scl sda : Bool) (u : Usi) → (sampled scl sda u).usickctl ≡ u.usickctl
sampled-clock scl sda u = followed-clock (recorded scl sda (edged scl sda u)) ∙ edged-clock scl sda u

pub ticked-clock : (u : Usi) → (ticked u).usickctl ≡ u.usickctl
ticked-clock u =
    followed-clock
    (with_phase (rules.phase_after (rules.clocks u.usictl0 u.usictl1 u.usicnt) u.phase u.seen u.scl)
    u)
