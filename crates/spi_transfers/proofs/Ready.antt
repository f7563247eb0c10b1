-- What every step leaves in SPI with CKPH=1: while bits are left and SCLK was last seen idle, the latch is the outgoing
-- bit and the enable is OE, so that the first bit is out before the first edge.
use Prim.Native.Nat.{ℕ, ◌+◌, ◌/◌, ◌%◌}
use mathlib.Core.Path.{◌≡◌, refl, sym, ◌∙◌}
use mathlib.Core.Bool.{Bool, true, false, cond, ◌&&◌, beq, true≢false}
use native.Mathlib.Omega.{arith}
use lib.Dec.{eqb, ltb}
use borrow.Author.Tests.{not-true}
use Rattle.laws.proofs.Bools.{neither, both}
use Rattle.bits.specs.Positions.{is_set, on, off}
use Rattle.bits.proofs.Masks.{on_bit, off-bit}
use Rattle.levels.specs.Levels as levels
use Rattle.usi_registers.specs.Registers.{USICTL0, USICTL1, USICKCTL, USICNT, USISRL, USISRH, USICKPH, USII2C}
use Rattle.usi_registers.specs.Registers.{USIPE7, USIPE6, USIPE5, USISWRST}
use Rattle.usi_registers.specs.Rules.{counting, output_enable, transparent}
use Rattle.usi_spi.specs.Rules as spi
use Rattle.usi.specs.declared.Usi.{Usi}
use Rattle.usi.specs.declared.Refused.{Refused}
use Rattle.std.specs.Prelude.{Result, Ok, Err}
use Rattle.usi.specs.Module.{at_rest, fits, fits_spi}
use Rattle.usi.specs.Spi as steps
use Rattle.usi.specs.Step.{refused, refusal, module_of, and_then, followed, kept, settled, write_byte, odd, write_word}
use Rattle.usi.specs.Step.{sampled, sample, ticked, overruns, tick_i2c, tick}
use Rattle.usi.proofs.SetUp.{followed-fits, sampled-fits, ticked-fits}
use Rattle.usi.proofs.Resting.{kept-fits}

pub record Ready (u : Usi) : Type 0 where
  pub out :
      fits_spi u ≡ true → on u.usictl1 USICKPH ≡ true → counting u.usicnt ≡ true → u.seen ≡ true
      → u.scl ≡ spi.idle u.usickctl
      → (u.latch ≡ steps.outgoing u) × (u.enable ≡ output_enable u.usictl0)

-- the two set-ups exclude each other
i2c-off : (u : Usi) → fits_spi u ≡ true → off u.usictl1 USII2C ≡ true
i2c-off u fitting =
    let t3 = both _ (on u.usictl0 USIPE7) fitting in
    let t2 = both _ (on u.usictl0 USIPE6) t3.0 in
    let t1 = both _ (on u.usictl0 USIPE5) t2.0 in
    (both (off u.usictl1 USII2C) (off u.usictl0 USISWRST) t1.0).0

not_on : (x : ℕ) → off x USII2C ≡ true → on x USII2C ≡ false
not_on x off6 = on_bit x 6 ∙ not-true (is_set 6 x) (sym (off-bit x 6) ∙ off6)

pub exclusive : (u : Usi) → fits_spi u ≡ true → fits u ≡ false
exclusive u fitting = rw (not_on u.usictl1 (i2c-off u fitting))

i2c-ready : (u : Usi) → fits u ≡ true → Ready u
i2c-ready u fit = record { out = λ fitting _ _ _ _. absurd (true≢false (sym fit ∙ exclusive u fitting)) }

-- the rule itself
same-level : (b : Bool) → beq b b ≡ true
same-level true = refl
same-level false = refl

followed-ready : (u : Usi) → Ready (steps.followed u)
unfolding steps.followed
followed-ready u =
    go (spi.follows u.usictl0 u.usictl1 u.usickctl u.usicnt u.seen u.scl) refl
  where
    go : (follows : Bool)
        → spi.follows u.usictl0 u.usictl1 u.usickctl u.usicnt u.seen u.scl ≡ follows
        → Ready (cond follows (steps.latched u) u)
    go true e = record { out = λ _ _ _ _ _. (refl, refl) }
    go false e =
        record {
          out = λ _ ckph count seen rest.
              let all : on u.usictl1 USICKPH && counting u.usicnt && u.seen && beq u.scl
              (spi.idle u.usickctl) ≡ true =
              rw (ckph, count, seen, rest) (same-level (spi.idle u.usickctl)) in
              absurd (true≢false (sym all ∙ (neither (transparent u.usictl0) _ e).1));
        }

-- a write
settled-ready : (before u : Usi) → Ready (settled before u)
unfolding settled
settled-ready before u = either (fits u) (fits_spi u) refl refl
  where
    either : (i2c spi : Bool) → fits u ≡ i2c → fits_spi u ≡ spi
        → Ready (cond i2c (followed (kept (fits before) u))
        (cond spi (steps.followed (kept (fits_spi before) u)) (at_rest u)))
    either true spi e f =
        i2c-ready (followed (kept (fits before) u))
        (followed-fits (kept (fits before) u) ∙ kept-fits (fits before) u ∙ e)
    either false true e f = followed-ready (kept (fits_spi before) u)
    either false false e f = record { out = λ fitting _ _ _ _. absurd (true≢false (sym fitting ∙ f)) }

-- a step that is not refused leaves a module that is ready
abbrev pub Leaves : Result Usi Refused → Type 0
Leaves step = refusal step ≡ 0 → Ready (module_of step)

leaves-next : (u : Usi) → Ready u → Leaves (Ok u)
leaves-next u ready = λ _. ready

leaves-cond : (test : Bool) (s t : Result Usi Refused) → Leaves s → Leaves t → Leaves (cond test s t)
leaves-cond true s t p q = p
leaves-cond false s t p q = q

pub write-leaves : (u : Usi) (address value : ℕ) → Leaves (write_byte u address value)
unfolding write_byte
write-leaves u address value =
    leaves-cond (eqb address USICTL0) _ _ (leaves-next _ (settled-ready _ _))
    (leaves-cond (eqb address USICTL1) _ _ (leaves-next _ (settled-ready _ _))
    (leaves-cond (eqb address USICKCTL) _ _ (leaves-next _ (settled-ready _ _))
    (leaves-cond (eqb address USICNT) _ _ (leaves-next _ (settled-ready _ _))
    (leaves-cond (eqb address USISRL) _ _ (leaves-next _ (settled-ready _ _))
    (leaves-cond (eqb address USISRH) _ _ (leaves-next _ (settled-ready _ _)) (λ z. absurd (omega (arith, z))))))))

second-leaves : (first : Result Usi Refused) (next : Usi → Result Usi Refused) → ((u : Usi) → Leaves (next u))
    → Leaves first → Leaves (and_then first next)
second-leaves (Ok u) next leaves first = leaves u
second-leaves (Err r) next leaves first = first

pub write-word-leaves : (u : Usi) (address value : ℕ) → Leaves (write_word u address value)
unfolding write_word
write-word-leaves u address value =
    leaves-cond (odd address) _ _ (λ z. absurd (omega (arith, z)))
    (second-leaves (write_byte u address (value % 256)) (λ v. write_byte v (address + 1) (value / 256))
    (λ v. write-leaves v (address + 1) (value / 256)) (write-leaves u address (value % 256)))

-- a sample, and a tick
chosen-leaves : (u v : Usi) (s : Result Usi Refused) → (fits u ≡ true → Leaves s) → Ready v
    → Leaves (cond (fits u) s (cond (fits_spi u) (Ok v) (Err (refused 3 u))))
chosen-leaves u v s i2c ready = either (fits u) (fits_spi u) refl
  where
    either : (one two : Bool) → fits u ≡ one → Leaves (cond one s (cond two (Ok v) (Err (refused 3 u))))
    either true two e = i2c e
    either false true e = λ _. ready
    either false false e = λ z. absurd (omega (arith, z))

pub sample-leaves : (u : Usi) (level : ℕ) → Leaves (sample u level)
unfolding sample
sample-leaves u level =
    let scl = levels.scl level in
    let sda = levels.sda level in
    leaves-cond (ltb levels.max_level level) _ _ (λ z. absurd (omega (arith, z)))
    (chosen-leaves u (steps.sampled scl sda u) (Ok (sampled scl sda u))
    (λ e _. i2c-ready (sampled scl sda u) (sampled-fits scl sda u ∙ e)) (followed-ready _))

pub tick-leaves : (u : Usi) → Leaves (tick u)
unfolding tick
tick-leaves u =
    chosen-leaves u (steps.ticked u) (tick_i2c u)
    (λ e. leaves-cond (overruns u) (Err (refused 17 u)) (Ok (ticked u)) (λ z. absurd (omega (arith, z)))
    (λ _. i2c-ready (ticked u) (ticked-fits u ∙ e)))
    (followed-ready _)
