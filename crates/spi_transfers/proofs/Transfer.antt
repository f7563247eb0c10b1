-- The transfer: over width, direction, CKPH, CKPL and MST, after n whole periods of SCLK the newest n bits of the
-- register are those received, the bits sent were the first n that it held, CNT=0 and IFG=1.
use Prim.Native.Nat.{ℕ, suc, ◌+◌, ◌-◌, ◌<◌, ◌≤◌}
use mathlib.Core.Path.{◌≡◌, refl, sym, ◌∙◌, ap, ap₂, subst}
use mathlib.Core.Bool.{Bool, true, false, cond, not, beq, true≢false}
use mathlib.Core.List.{List, [], ◌∷◌, map}
use native.Mathlib.Omega.{arith}
use lib.ListN.{length}
use Rattle.laws.proofs.Bools.{both}
use Rattle.bits.specs.Positions.{on}
use Rattle.shift.specs.Shift as shift
use Rattle.shift.proofs.Shifting.{newest-entered, first-sent}
use Rattle.usi_registers.specs.Registers.{USICKPH, USIIFG}
use Rattle.usi_registers.specs.Rules.{bit_count, counting, output_enable, transparent}
use Rattle.usi_spi.specs.declared.Driven.{Driven}
use Rattle.usi_spi.specs.Rules as spi
use Rattle.usi.specs.declared.Usi.{Usi}
use Rattle.usi.specs.Module.{fits_spi, released, driven, spi_lines}
use Rattle.usi.specs.Spi.{register, outgoing}
use Rattle.usi.proofs.SpiSetUp.{Alike, same, then}
use Rattle.spi_transfers.specs.Transfer.{Act, acted, after, sclk_then, sclk_after, sdi_of, periods, received, sent}
use Rattle.spi_transfers.proofs.Edges.{armed, whole, captures-is}
use Rattle.spi_transfers.proofs.Counting.{counts}
use Rattle.spi_transfers.proofs.Ready.{Ready}
use Rattle.spi_transfers.proofs.Steps.{Going, Effect, act-effect}

-- the width less one, and the direction, that a module is set up for
abbrev pub top : Usi → ℕ
top u = shift.top_of (spi.wide u.usicnt)

abbrev pub lsb : Usi → Bool
lsb u = spi.lowest_first u.usictl0

-- SDO shows the bit that leaves next
driven-out : (u : Usi) → Going u → beq u.scl (armed u.usictl1 u.usickctl) ≡ true
    → counting u.usicnt ≡ true → (spi_lines u).sdo ≡ spi.driven (outgoing u)
unfolding spi_lines spi.data_line
driven-out u going at count =
    let out = going.out at count in
    ap (λ (fitting : Bool). (cond fitting (driven u) released).sdo) going.fitting
    ∙ ap₂ (λ (enable latch : Bool). spi.data_line enable latch) out.1 out.0

-- a bit is captured only from the level before capture
from-armed : (usictl1 usickctl : ℕ) (before sclk : Bool) → spi.captures usictl1 usickctl before sclk ≡ true
    → beq before (armed usictl1 usickctl) ≡ true
from-armed usictl1 usickctl before sclk edge =
    (both (beq before (armed usictl1 usickctl)) _ (sym (captures-is usictl1 usickctl before sclk) ∙ edge)).0

module _ (begun : Usi) where
  -- edges by the set-up at the beginning
  abbrev captures : Bool → Bool → Bool
  captures before sclk = spi.captures begun.usictl1 begun.usickctl before sclk

  same_edges : (u : Usi) → Alike begun u → (before sclk : Bool)
      → spi.captures u.usictl1 u.usickctl before sclk ≡ captures before sclk
  unfolding spi.captures
  same_edges u set before sclk =
      ap₂ (λ (ckph : Bool) (usickctl : ℕ). cond ckph (spi.leads usickctl before sclk) (spi.trails usickctl before sclk))
      set.ckph set.usickctl

  abbrev bits : Bool → List Act → List Bool
  bits sclk acts = received begun.usictl1 begun.usickctl sclk acts

  abbrev shown : Bool → List Act → Usi → List Driven
  shown sclk acts u = sent begun.usictl1 begun.usickctl sclk acts u

  -- from u to v with these bits received and those shown
  abbrev Moved : Usi → Usi → List Bool → List Driven → Type 0
  Moved u v taken out =
      (register v ≡ shift.shifted_by (top begun) (lsb begun) taken (register u))
      × (bit_count v.usicnt + length taken ≡ bit_count u.usicnt)
      × (out ≡ map spi.driven (shift.sent_by (top begun) (lsb begun) taken (register u)))
      × Going v

  same-shift : (u : Usi) → Alike begun u → (sdi : Bool) (value : ℕ)
      → spi.shifted u.usictl0 u.usicnt sdi value ≡ shift.shifted (top begun) (lsb begun) sdi value
  same-shift u set sdi value =
      ap₂ (λ (wide : Bool) (usictl0 : ℕ). shift.shifted (shift.top_of wide) (spi.lowest_first usictl0) sdi value)
      set.wide set.usictl0

  same_outgoing : (u : Usi) → Alike begun u → outgoing u ≡ shift.outgoing (top begun) (lsb begun) (register u)
  same_outgoing u set =
      ap₂ (λ (wide : Bool) (usictl0 : ℕ). shift.outgoing (shift.top_of wide) (spi.lowest_first usictl0) (register u))
      set.wide set.usictl0

  -- an act's edge, by the set-up of the module and by that at the beginning
  edge_of : (act : Act) (sclk : Bool) (u : Usi) → Alike begun u → u.scl ≡ sclk
      → spi.captures u.usictl1 u.usickctl u.scl (sclk_then u.scl act) ≡ captures sclk (sclk_then sclk act)
  edge_of act sclk u set at =
      same_edges u set u.scl (sclk_then u.scl act) ∙ ap (λ (b : Bool). captures b (sclk_then b act)) at

  effect_of : (act : Act) (sclk : Bool) (u : Usi) → Alike begun u → Going u → u.scl ≡ sclk → (edge : Bool)
      → captures sclk (sclk_then sclk act) ≡ edge → (edge ≡ true → counting u.usicnt ≡ true)
      → Effect u (acted act u) edge (sdi_of act) (sclk_then sclk act)
  effect_of act sclk u set going at edge e some =
      let is = edge_of act sclk u set at ∙ e in
      subst (λ (b : Bool). Effect u (acted act u) edge (sdi_of act) (sclk_then b act)) at
      (subst (λ (b : Bool). Effect u (acted act u) b (sdi_of act) (sclk_then u.scl act)) is
      (act-effect act u going (λ seen. some (sym is ∙ seen))))

  out_of : (act : Act) (sclk : Bool) (u : Usi) → Alike begun u → u.scl ≡ sclk
      → captures sclk (sclk_then sclk act) ≡ true
      → beq u.scl (armed u.usictl1 u.usickctl) ≡ true
  out_of act sclk u set at e =
      from-armed u.usictl1 u.usickctl u.scl (sclk_then u.scl act) (edge_of act sclk u set at ∙ e)

  -- by the acts, one after another
  moves : (acts : List Act) (sclk : Bool) (u : Usi) → Alike begun u → Going u → u.scl ≡ sclk
      → length (bits sclk acts) ≤ bit_count u.usicnt → Moved u (after acts u) (bits sclk acts) (shown sclk acts u)
  unfolding after received sent shift.shifted_by shift.sent_by
  moves [] sclk u set going at few = (refl, omega arith, refl, going)
  moves (act ∷ acts) sclk u set going at few =
      step (captures sclk (sclk_then sclk act)) refl few
      (λ set going at few. moves acts (sclk_then sclk act) (acted act u) set going at few)
    where
      next : Usi
      next = acted act u

      rest : List Bool
      rest = bits (sclk_then sclk act) acts

      step : (edge : Bool) → captures sclk (sclk_then sclk act) ≡ edge
          → length (cond edge (sdi_of act ∷ rest) rest) ≤ bit_count u.usicnt
          → (Alike begun next → Going next → next.scl ≡ sclk_then sclk act → length rest ≤ bit_count next.usicnt
          → Moved next (after acts next) rest (shown (sclk_then sclk act) acts next))
          → Moved u (after acts next) (cond edge (sdi_of act ∷ rest) rest)
          (cond edge ((spi_lines u).sdo ∷ shown (sclk_then sclk act) acts next) (shown (sclk_then sclk act) acts next))
      step true e room others =
          let count = counts u.usicnt (bit_count u.usicnt - 1) (omega (arith, room)) in
          let effect = effect_of act sclk u set going at true e (λ _. count) in
          let ih = others (then set effect.alike) effect.going effect.sclk-seen
          (omega (arith, room, effect.counts)) in
          let entered = effect.shifts ∙ same-shift u set (sdi_of act) (register u) in (
            ih.0 ∙ ap (shift.shifted_by (top begun) (lsb begun) rest) entered,
            omega (arith, room, effect.counts, ih.1),
            ap₂ (λ (one : Driven) (others : List Driven). one ∷ others)
                (driven-out u going (out_of act sclk u set at e) count ∙ ap spi.driven (same_outgoing u set))
                (ih.2 ∙ ap (λ (value : ℕ). map spi.driven (shift.sent_by (top begun) (lsb begun) rest value)) entered),
            ih.3,
          )
      step false e room others =
          let effect = effect_of act sclk u set going at false e (λ none. absurd (true≢false (sym none))) in
          let ih = others (then set effect.alike) effect.going effect.sclk-seen
          (omega (arith, room, effect.counts)) in (
            ih.0 ∙ ap (shift.shifted_by (top begun) (lsb begun) rest) effect.shifts,
            omega (arith, effect.counts, ih.1),
            ih.2
                ∙ ap (λ (value : ℕ). map spi.driven (shift.sent_by (top begun) (lsb begun) rest value)) effect.shifts,
            ih.3,
          )

-- what the request asks of the beginning: SPI fits, OE=1, GE=0, SCLK idle and last seen so, a count from 1 to the
-- width, of a module that a step left (IFG=0, which the request names too, is not needed)
pub record Begun (u : Usi) : Type 0 where
  pub fitting : fits_spi u ≡ true
  pub enabled : output_enable u.usictl0 ≡ true
  pub opaque : transparent u.usictl0 ≡ false
  pub byte : u.usicnt < 256
  pub seen : u.seen ≡ true
  pub rests : u.scl ≡ spi.idle u.usickctl
  pub some : 1 ≤ bit_count u.usicnt
  pub within : bit_count u.usicnt ≤ suc (top u)
  pub left : Ready u

-- such a module is under way
begins : (u : Usi) → Begun u → Going u
begins u begun =
    record {
      fitting = begun.fitting;
      enabled = begun.enabled;
      opaque = begun.opaque;
      byte = begun.byte;
      seen = begun.seen;
      out = out (on u.usictl1 USICKPH) refl;
      ended = λ none. absurd (omega (arith, none, begun.some));
    }
  where
    other : (rest : Bool) → beq rest (not rest) ≡ false
    other true = refl
    other false = refl

    out : (ckph : Bool) → on u.usictl1 USICKPH ≡ ckph
        → beq u.scl (cond ckph (spi.idle u.usickctl) (not (spi.idle u.usickctl))) ≡ true
        → counting u.usicnt ≡ true → (u.latch ≡ outgoing u) × (u.enable ≡ true)
    out true e at count =
        let ready = begun.left.out begun.fitting e count begun.seen begun.rests in
        (ready.0, ready.1 ∙ begun.enabled)
    out false e at count =
        absurd (true≢false (sym at ∙ ap (λ (b : Bool). beq b (not (spi.idle u.usickctl))) begun.rests
        ∙ other (spi.idle u.usickctl)))

-- The theorem, over width, direction, CKPH, CKPL and MST.
module _ (u : Usi) (acts : List Act) (begun : Begun u)
    (ended : sclk_after u.scl acts ≡ spi.idle u.usickctl)
    (count : periods u.usickctl u.scl acts ≡ bit_count u.usicnt) where
  abbrev bits_in : List Bool
  bits_in = received u.usictl1 u.usickctl u.scl acts

  many : length bits_in ≡ bit_count u.usicnt
  many = whole u.usictl1 u.usickctl u.scl acts begun.rests ended ∙ count

  moved : Moved u u (after acts u) bits_in (sent u.usictl1 u.usickctl u.scl acts u)
  moved = moves u acts u.scl u same (begins u begun) refl (omega (arith, many))

  -- the newest bits of the register are those received, in order
  pub received-newest : shift.newest (bit_count u.usicnt) (top u) (lsb u) (register (after acts u)) ≡ bits_in
  received-newest =
      ap₂ (λ (n value : ℕ). shift.newest n (top u) (lsb u) value) (sym many) moved.0
      ∙ newest-entered (top u) (lsb u) bits_in (register u) (omega (arith, many, begun.within))

  -- the bits sent were the first of those that the register held, driven on SDO
  pub sent-first : sent u.usictl1 u.usickctl u.scl acts u
      ≡ map spi.driven (shift.first_sent (bit_count u.usicnt) (top u) (lsb u) (register u))
  sent-first =
      moved.2
      ∙ ap (map spi.driven)
      (first-sent (top u) (lsb u) bits_in (register u) (omega (arith, many, begun.within))
      ∙ ap (λ (n : ℕ). shift.first_sent n (top u) (lsb u) (register u)) many)

  -- nothing is left, and IFG says so
  pub count-ends : bit_count (after acts u).usicnt ≡ 0
  count-ends = omega (arith, moved.1, many)

  pub flag-says : on (after acts u).usictl1 USIIFG ≡ true
  flag-says = moved.3.ended count-ends
