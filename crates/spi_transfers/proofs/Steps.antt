-- One sample or tick of a transfer under way: what it does to the register, to CNT and to what is driven.
use Prim.Native.Nat.{ℕ, zero, suc, ◌+◌, ◌-◌, ◌*◌, ◌/◌, ◌%◌, ◌<◌}
use mathlib.Core.Path.{◌≡◌, refl, sym, ◌∙◌, ap, ap₂, subst}
use mathlib.Core.Bool.{Bool, true, false, cond, not, ◌&&◌, beq, true≢false}
use native.Mathlib.Omega.{arith}
use lib.Dec.{eqb, ltb}
use borrow.Author.Tests.{eqb-false, not-true}
use mir.Val.{bool_byte}
use Rattle.laws.proofs.Bools.{bool-byte}
use Rattle.bits.specs.Positions.{on}
use Rattle.bits.proofs.Masks.{on_bit, off-bit, and-true}
use Rattle.shift.specs.Shift as shift
use Rattle.levels.specs.Levels as levels
use Rattle.usi_registers.specs.Registers.{USIIFG}
use Rattle.usi_registers.specs.Rules.{bit_count, counting, output_enable, transparent}
use Rattle.usi_i2c.specs.Rules as rules
use Rattle.usi_spi.specs.Rules as spi
use Rattle.usi.specs.declared.Usi.{Usi}
use Rattle.usi.specs.Module.{fits_spi, with_latch, with_levels, with_phase}
use Rattle.usi.specs.Spi.{register, outgoing, latched, followed, captured, changed, at_edge, edged, sampled, ticked}
use Rattle.usi.specs.Step.{sample, tick}
use Rattle.usi.proofs.SpiSetUp.{Alike, same, then, alike-fits, captured-alike, followed-alike, recorded-alike}
use Rattle.usi.proofs.SpiSetUp.{phased-alike}
use Rattle.spi_transfers.specs.Transfer.{Act, Sample, Tick, acted, sclk_then, sdi_of}
use Rattle.spi_transfers.proofs.Edges.{armed, captures-is, changes-is}
use Rattle.spi_transfers.proofs.Counting.{one_less, still-byte, flag-at-end}
use Rattle.spi_transfers.proofs.Ready.{exclusive}

-- under way: the bit that leaves next is driven wherever the next edge captures, and IFG is 1 where nothing is left
pub record Going (u : Usi) : Type 0 where
  pub fitting : fits_spi u ≡ true
  pub enabled : output_enable u.usictl0 ≡ true
  pub opaque : transparent u.usictl0 ≡ false
  pub byte : u.usicnt < 256
  pub seen : u.seen ≡ true
  pub out :
      beq u.scl (armed u.usictl1 u.usickctl) ≡ true → counting u.usicnt ≡ true
      → (u.latch ≡ outgoing u) × (u.enable ≡ true)
  pub ended : bit_count u.usicnt ≡ 0 → on u.usictl1 USIIFG ≡ true

-- the register after a capture is the shifted one, whatever its width
eight : (lsb : Bool) (sdi : Bool) (value : ℕ) → shift.shifted 7 lsb sdi value % 256 ≡ shift.shifted 7 lsb sdi value
eight true sdi value = omega (arith, bool-byte sdi)
eight false sdi value = omega (arith, bool-byte sdi)

abbrev shifted_bytes : Bool → Bool → Bool → ℕ → ℕ → ℕ
shifted_bytes wide lsb sdi low high =
    shift.shifted (shift.top_of wide) lsb sdi (cond wide (low + 256 * high) low)

joined : (wide lsb sdi : Bool) (low high : ℕ)
    → let entered = shifted_bytes wide lsb sdi low high in
    cond wide (spi.low entered + 256 * cond wide (entered / 256) high) (spi.low entered) ≡ entered
joined true lsb sdi low high = omega arith
joined false lsb sdi low high = eight lsb sdi low

pub captured-register : (sdi : Bool) (u : Usi)
    → register (captured sdi u) ≡ spi.shifted u.usictl0 u.usicnt sdi (register u)
unfolding spi.register spi.high
captured-register sdi u =
    rw (captured-alike sdi u).wide
    (joined (spi.wide u.usicnt) (spi.lowest_first u.usictl0) sdi u.usisrl u.usisrh)

-- a hidden state replaced: what follows after a step
followed-register : (u : Usi) → register (followed u) ≡ register u
unfolding followed
followed-register u = go (spi.follows u.usictl0 u.usictl1 u.usickctl u.usicnt u.seen u.scl)
  where
    go : (follows : Bool) → register (cond follows (latched u) u) ≡ register u
    go true = refl
    go false = refl

followed-count : (u : Usi) → (followed u).usicnt ≡ u.usicnt
unfolding followed
followed-count u = go (spi.follows u.usictl0 u.usictl1 u.usickctl u.usicnt u.seen u.scl)
  where
    go : (follows : Bool) → (cond follows (latched u) u).usicnt ≡ u.usicnt
    go true = refl
    go false = refl

followed-sclk : (u : Usi) → (followed u).scl ≡ u.scl
unfolding followed
followed-sclk u = go (spi.follows u.usictl0 u.usictl1 u.usickctl u.usicnt u.seen u.scl)
  where
    go : (follows : Bool) → (cond follows (latched u) u).scl ≡ u.scl
    go true = refl
    go false = refl

-- a latch replaced by one that is the outgoing bit wherever the next edge captures
with_latch-going : (latch enable : Bool) (u : Usi) → Going u
    → (beq u.scl (armed u.usictl1 u.usickctl) ≡ true → counting u.usicnt ≡ true
    → (latch ≡ outgoing u) × (enable ≡ true))
    → Going (with_latch latch enable u)
with_latch-going latch enable u going out =
    record {
      fitting = going.fitting;
      enabled = going.enabled;
      opaque = going.opaque;
      byte = going.byte;
      seen = going.seen;
      out = out;
      ended = going.ended;
    }

followed-going : (u : Usi) → Going u → Going (followed u)
unfolding followed
followed-going u going = go (spi.follows u.usictl0 u.usictl1 u.usickctl u.usicnt u.seen u.scl)
  where
    go : (follows : Bool) → Going (cond follows (latched u) u)
    go true = with_latch-going (outgoing u) (output_enable u.usictl0) u going (λ _ _. (refl, going.enabled))
    go false = going

-- what an act does, told whether it shows a capture edge
pub record Effect (u v : Usi) (captures sdi sclk : Bool) : Type 0 where
  pub alike : Alike u v
  pub going : Going v
  pub sclk-seen : v.scl ≡ sclk
  pub shifts : register v ≡ cond captures (spi.shifted u.usictl0 u.usicnt sdi (register u)) (register u)
  pub counts : bit_count v.usicnt ≡ bit_count u.usicnt - bool_byte captures

-- a module and the same one once more followed
then-follows : {u v : Usi} {captures sdi sclk : Bool} → Effect u v captures sdi sclk
    → Effect u (followed v) captures sdi sclk
then-follows {u} {v} effect =
    record {
      alike = then effect.alike (followed-alike v);
      going = followed-going v effect.going;
      sclk-seen = followed-sclk v ∙ effect.sclk-seen;
      shifts = followed-register v ∙ effect.shifts;
      counts = ap bit_count (followed-count v) ∙ effect.counts;
    }

-- the level before a capture edge is told by CKPH and CKPL alone
same-armed : {u v : Usi} → Alike u v → armed v.usictl1 v.usickctl ≡ armed u.usictl1 u.usickctl
same-armed alike =
    ap₂ (λ (ckph : Bool) (usickctl : ℕ). cond ckph (spi.idle usickctl) (not (spi.idle usickctl))) alike.ckph
    alike.usickctl

-- CNT above 0, with the number below it
above : (usicnt : ℕ) → counting usicnt ≡ true → bit_count usicnt ≡ suc (bit_count usicnt - 1)
above usicnt count =
    let some : bit_count usicnt ≡ 0 → ⊥ = eqb-false (bit_count usicnt) 0 (not-true (eqb (bit_count usicnt) 0) count) in
    positive (bit_count usicnt) some
  where
    positive : (n : ℕ) → (n ≡ 0 → ⊥) → n ≡ suc (n - 1)
    positive zero some = absurd (some refl)
    positive (suc n) some = omega arith

opaque-moves : (usictl0 usicnt : ℕ) → transparent usictl0 ≡ false → rules.moves_latch usictl0 usicnt ≡ counting usicnt
opaque-moves usictl0 usicnt opaque =
    rw (off-bit usictl0 2 ∙ ap not (sym (on_bit usictl0 2) ∙ opaque)) (and-true (counting usicnt))

module _ (sclk sdi : Bool) (u : Usi) (going : Going u) where
  -- no bit enters: the levels, and what the latch takes
  latch-effect : (latch enable : Bool)
      → (beq sclk (armed u.usictl1 u.usickctl) ≡ true → counting u.usicnt ≡ true
      → (latch ≡ outgoing u) × (enable ≡ true))
      → Effect u (with_levels sclk sdi (with_latch latch enable u)) false sdi sclk
  latch-effect latch enable out =
      record {
        alike = record { usictl0 = refl; usickctl = refl; i2c = refl; ckph = refl; wide = refl };
        going = record {
          fitting = going.fitting;
          enabled = going.enabled;
          opaque = going.opaque;
          byte = going.byte;
          seen = refl;
          out = out;
          ended = going.ended;
        };
        sclk-seen = refl;
        shifts = refl;
        counts = omega arith;
      }

  -- no edge: the latch stays
  recorded-effect : beq u.scl (armed u.usictl1 u.usickctl)
      ≡ beq sclk (armed u.usictl1 u.usickctl)
      → Effect u (with_levels sclk sdi u) false sdi sclk
  recorded-effect level = latch-effect u.latch u.enable (λ at count. going.out (level ∙ at) count)

  -- a change edge: it takes the next bit where some are left
  changed-effect : Effect u (with_levels sclk sdi (changed u)) false sdi sclk
  unfolding changed
  changed-effect = rw (opaque-moves u.usictl0 u.usicnt going.opaque) (go (counting u.usicnt) refl)
    where
      go : (count : Bool) → counting u.usicnt ≡ count
          → Effect u (with_levels sclk sdi (cond count (latched u) u)) false sdi sclk
      go true e = latch-effect (outgoing u) (output_enable u.usictl0) (λ _ _. (refl, going.enabled))
      go false e = latch-effect u.latch u.enable (λ _ count. absurd (true≢false (sym count ∙ e)))

  -- a bit enters
  captured-effect : counting u.usicnt ≡ true → beq sclk (armed u.usictl1 u.usickctl) ≡ false
      → Effect u (with_levels sclk sdi (captured sdi u)) true sdi sclk
  captured-effect count left =
      let alike = captured-alike sdi u in
      record {
        alike = then alike (recorded-alike sclk sdi (captured sdi u));
        going = record {
          fitting = alike-fits alike ∙ going.fitting;
          enabled = going.enabled;
          opaque = going.opaque;
          byte = still-byte u.usicnt going.byte;
          seen = refl;
          out = λ at _.
              absurd (true≢false (sym at ∙ ap (beq sclk) (same-armed alike) ∙ left));
          ended = flag-at-end u.usictl1 u.usicnt going.byte (bit_count u.usicnt - 1)
              (above u.usicnt count);
        };
        sclk-seen = refl;
        shifts = captured-register sdi u;
        counts = one_less u.usicnt going.byte;
      }

  abbrev before : Bool
  before = beq u.scl (armed u.usictl1 u.usickctl)

  abbrev now : Bool
  now = beq sclk (armed u.usictl1 u.usickctl)

  -- what the edge does, by SCLK before it and now
  at-edge : edged sclk sdi u
      ≡ cond (before && not now) (cond (counting u.usicnt) (captured sdi u) u)
      (cond (not before && now) (changed u) u)
  unfolding edged at_edge
  at-edge =
      ap (λ (seen : Bool). cond seen (at_edge sclk sdi u) u) going.seen
      ∙ ap₂
      (λ (captures changes : Bool). cond captures (cond (counting u.usicnt) (captured sdi u) u)
      (cond changes (changed u) u))
      (captures-is u.usictl1 u.usickctl u.scl sclk) (changes-is u.usictl1 u.usickctl u.scl sclk)

  edge-effect : (was is : Bool) → before ≡ was → now ≡ is → (was && not is ≡ true → counting u.usicnt ≡ true)
      → Effect u
      (with_levels sclk sdi
      (cond (was && not is) (cond (counting u.usicnt) (captured sdi u) u) (cond (not was && is) (changed u) u)))
      (was && not is) sdi sclk
  edge-effect true false b n some =
      subst (λ (count : Bool). Effect u (with_levels sclk sdi (cond count (captured sdi u) u)) true sdi sclk)
      (sym (some refl)) (captured-effect (some refl) n)
  edge-effect true true b n some = recorded-effect (b ∙ sym n)
  edge-effect false true b n some = changed-effect
  edge-effect false false b n some = recorded-effect (b ∙ sym n)

  sampled-effect : (spi.captures u.usictl1 u.usickctl u.scl sclk ≡ true → counting u.usicnt ≡ true)
      → Effect u (sampled sclk sdi u) (spi.captures u.usictl1 u.usickctl u.scl sclk) sdi sclk
  sampled-effect some =
      let captures = captures-is u.usictl1 u.usickctl u.scl sclk in
      subst (λ (x : Usi). Effect u (followed (with_levels sclk sdi x))
      (spi.captures u.usictl1 u.usickctl u.scl sclk) sdi sclk)
      (sym at-edge)
      (subst (λ (c : Bool). Effect u (followed (with_levels sclk sdi (cond (before && not now)
      (cond (counting u.usicnt) (captured sdi u) u) (cond (not before && now) (changed u) u)))) c sdi sclk)
      (sym captures)
      (then-follows (edge-effect before now refl refl (λ e. some (captures ∙ e)))))

-- no edge where SCLK stays
no_edge : (usictl1 usickctl : ℕ) (sclk : Bool) → spi.captures usictl1 usickctl sclk sclk ≡ false
no_edge usictl1 usickctl sclk =
    captures-is usictl1 usickctl sclk sclk ∙ neither (beq sclk (armed usictl1 usickctl))
  where
    neither : (b : Bool) → b && not b ≡ false
    neither true = refl
    neither false = refl

-- nothing happens
idle-effect : (u : Usi) (sdi : Bool) → Going u → Effect u u false sdi u.scl
idle-effect u sdi going =
    record { alike = same; going = going; sclk-seen = refl; shifts = refl; counts = omega arith }

ticked-effect : (u : Usi) → Going u → Effect u (ticked u) false false u.scl
ticked-effect u going =
    let phase = spi.phase_after (rules.clocks u.usictl0 u.usictl1 u.usicnt) u.phase in
    then-follows (phased phase)
  where
    phased : (phase : Bool) → Effect u (with_phase phase u) false false u.scl
    phased phase =
        record {
          alike = phased-alike phase u;
          going = record {
            fitting = going.fitting;
            enabled = going.enabled;
            opaque = going.opaque;
            byte = going.byte;
            seen = going.seen;
            out = going.out;
            ended = going.ended;
          };
          sclk-seen = refl;
          shifts = refl;
          counts = omega arith;
        }

-- any act, of a module under way
pub act-effect : (act : Act) (u : Usi) → Going u
    → (spi.captures u.usictl1 u.usickctl u.scl (sclk_then u.scl act) ≡ true → counting u.usicnt ≡ true)
    → Effect u (acted act u) (spi.captures u.usictl1 u.usickctl u.scl (sclk_then u.scl act)) (sdi_of act)
    (sclk_then u.scl act)
unfolding sample tick
act-effect Tick u going some =
    rw (no_edge u.usictl1 u.usickctl u.scl, exclusive u going.fitting, going.fitting)
    (ticked-effect u going)
act-effect (Sample level) u going some = go (ltb levels.max_level level) refl
  where
    go : (high : Bool) → ltb levels.max_level level ≡ high
        → Effect u (acted (Sample level) u)
        (spi.captures u.usictl1 u.usickctl u.scl (sclk_then u.scl (Sample level)))
        (levels.sda level) (sclk_then u.scl (Sample level))
    go true e = rw (e, no_edge u.usictl1 u.usickctl u.scl) (idle-effect u (levels.sda level) going)
    go false e =
        rw (e, exclusive u going.fitting, going.fitting)
        (sampled-effect (levels.scl level) (levels.sda level) u going (λ edge. some (rw e edge)))
