-- While neither set-up fits the hidden state rests, after power-up and after every step; a refused step changes nothing.
-- (That reading changes nothing follows from the types: a read's answer holds no module.)
use mathlib.Core.Path.{◌≡◌, refl, ◌∙◌, sym, subst}
use mathlib.Core.Bool.{Bool, true, false, cond, true≢false}
use Prim.Native.Nat.{ℕ, ◌+◌, ◌/◌, ◌%◌}
use lib.Dec.{eqb, ltb}
use borrow.Author.Tests.{eqb-true, eqb-false}
use Rattle.levels.specs.Levels as levels
use Rattle.usi_registers.specs.Registers.{USICTL0, USICTL1, USICKCTL, USICNT, USISRL, USISRH}
use Rattle.usi.specs.declared.Usi.{Usi}
use Rattle.usi.specs.declared.Refused.{Refused}
use Rattle.std.specs.Prelude.{Result, Ok, Err}
use Rattle.usi.specs.Module.{power_up, at_rest, fits, fits_spi}
use Rattle.usi.specs.Spi as spi_steps
use Rattle.usi.specs.Step.{refused, refusal, module_of, and_then, followed, kept, settled, write_byte, odd, write_word}
use Rattle.usi.specs.Step.{sampled, sample, ticked, overruns, tick_i2c, tick}
use Rattle.usi.proofs.Registers.{writes_nothing}
use Rattle.usi.proofs.SetUp.{followed-fits, sampled-fits, ticked-fits}
use Rattle.usi.proofs.SpiSetUp.{alike-fits, followed-alike, sampled-alike, ticked-alike}

-- where neither set-up fits, the hidden state is at rest
abbrev pub Resting : Usi → Type 0
Resting u = fits u ≡ false → fits_spi u ≡ false → at_rest u ≡ u

-- a step from u that, refused, hands back u, and leaves the hidden state at rest where neither set-up fits
pub record Sound (u : Usi) (s : Result Usi Refused) : Type 0 where
  pub kept : (refusal s ≡ 0 → ⊥) → module_of s ≡ u
  pub rests : Resting u → Resting (module_of s)

sound-next : (u v : Usi) → Resting v → Sound u (Ok v)
sound-next u v resting = record { kept = λ some. absurd (some refl); rests = λ _. resting }

sound-refused : (u : Usi) (number : ℕ) → Sound u (Err (refused number u))
sound-refused u number = record { kept = λ _. refl; rests = λ resting. resting }

sound-cond : (u : Usi) (test : Bool) (s t : Result Usi Refused) → Sound u s → Sound u t → Sound u (cond test s t)
sound-cond u true s t p q = p
sound-cond u false s t p q = q

pub power_up-rests : (low high : ℕ) → Resting (power_up low high)
power_up-rests low high = λ _ _. refl

-- a module that fits rests vacuously
fitting-rests : (u : Usi) → fits u ≡ true → Resting u
fitting-rests u fitting = λ unfit _. absurd (true≢false (sym fitting ∙ unfit))

fitting-spi-rests : (u : Usi) → fits_spi u ≡ true → Resting u
fitting-spi-rests u fitting = λ _ unfit. absurd (true≢false (sym fitting ∙ unfit))

pub kept-fits : (same : Bool) (u : Usi) → fits (kept same u) ≡ fits u
kept-fits true u = refl
kept-fits false u = refl

kept-fits-spi : (same : Bool) (u : Usi) → fits_spi (kept same u) ≡ fits_spi u
kept-fits-spi true u = refl
kept-fits-spi false u = refl

settled-rests : (before u : Usi) → Resting (settled before u)
unfolding settled
settled-rests before u = either (fits u) (fits_spi u) refl refl
  where
    either : (i2c spi : Bool) → fits u ≡ i2c → fits_spi u ≡ spi
        → Resting (cond i2c (followed (kept (fits before) u))
        (cond spi (spi_steps.followed (kept (fits_spi before) u)) (at_rest u)))
    either true spi e f =
        fitting-rests (followed (kept (fits before) u))
        (followed-fits (kept (fits before) u) ∙ kept-fits (fits before) u ∙ e)
    either false true e f =
        fitting-spi-rests (spi_steps.followed (kept (fits_spi before) u))
        (alike-fits (followed-alike (kept (fits_spi before) u)) ∙ kept-fits-spi (fits_spi before) u ∙ f)
    either false false e f = λ _ _. refl

pub write-sound : (u : Usi) (address value : ℕ) → Sound u (write_byte u address value)
unfolding write_byte
write-sound u address value =
    sound-cond u (eqb address USICTL0) _ _ (sound-next u _ (settled-rests _ _))
    (sound-cond u (eqb address USICTL1) _ _ (sound-next u _ (settled-rests _ _))
    (sound-cond u (eqb address USICKCTL) _ _ (sound-next u _ (settled-rests _ _))
    (sound-cond u (eqb address USICNT) _ _ (sound-next u _ (settled-rests _ _))
    (sound-cond u (eqb address USISRL) _ _ (sound-next u _ (settled-rests _ _))
    (sound-cond u (eqb address USISRH) _ _ (sound-next u _ (settled-rests _ _)) (sound-refused u 1))))))

-- the two writes of a word
abbrev both : Usi → ℕ → ℕ → Result Usi Refused
both u address value =
    and_then (write_byte u address (value % 256)) (λ v. write_byte v (address + 1) (value / 256))

-- at an even register the byte after it is a register too
both-sound : (u : Usi) (address value : ℕ) → odd address ≡ false → Sound u (both u address value)
unfolding write_byte
both-sound u address value even =
    first (eqb address USICTL0) refl
  where
    at : (key : ℕ) → Sound u (both u key value) → address ≡ key → Sound u (both u address value)
    at key sound e = subst (λ (a : ℕ). Sound u (both u a value)) (sym e) sound

    third : (address ≡ USICTL0 → ⊥) → (address ≡ USICKCTL → ⊥) → (test : Bool) → eqb address USISRL ≡ test → Sound u
        (both u address value)
    third p q true e = at USISRL (sound-next u _ (settled-rests _ _)) (eqb-true address USISRL e)
    third p q false e =
        subst (λ (s : Result Usi Refused). Sound u (and_then s (λ v. write_byte v (address + 1) (value / 256))))
        (sym (writes_nothing address (eqb-false (address % 2) 1 even) p q (eqb-false address USISRL e) u
        (value % 256)))
        (sound-refused u 1)

    second : (address ≡ USICTL0 → ⊥) → (test : Bool) → eqb address USICKCTL ≡ test → Sound u (both u address value)
    second p true e = at USICKCTL (sound-next u _ (settled-rests _ _)) (eqb-true address USICKCTL e)
    second p false e = third p (eqb-false address USICKCTL e) (eqb address USISRL) refl

    first : (test : Bool) → eqb address USICTL0 ≡ test → Sound u (both u address value)
    first true e = at USICTL0 (sound-next u _ (settled-rests _ _)) (eqb-true address USICTL0 e)
    first false e = second (eqb-false address USICTL0 e) (eqb address USICKCTL) refl

pub write-word-sound : (u : Usi) (address value : ℕ) → Sound u (write_word u address value)
unfolding write_word
write-word-sound u address value = either (odd address) refl
  where
    either : (test : Bool) → odd address ≡ test → Sound u (cond test (Err (refused 2 u)) (both u address value))
    either true e = sound-refused u 2
    either false e = both-sound u address value e

-- a step on a module in I2C, one on a module in SPI, and a refusal of any other
fitting-sound : (u v : Usi) (s : Result Usi Refused) → (fits u ≡ true → Sound u s)
    → (fits_spi u ≡ true → fits_spi v ≡ true)
    → Sound u (cond (fits u) s (cond (fits_spi u) (Ok v) (Err (refused 3 u))))
fitting-sound u v s i2c keeps = either (fits u) (fits_spi u) refl refl
  where
    either : (one two : Bool) → fits u ≡ one → fits_spi u ≡ two
        → Sound u (cond one s (cond two (Ok v) (Err (refused 3 u))))
    either true two e f = i2c e
    either false true e f = sound-next u v (fitting-spi-rests v (keeps f))
    either false false e f = sound-refused u 3

pub sample-sound : (u : Usi) (level : ℕ) → Sound u (sample u level)
unfolding sample
sample-sound u level =
    let scl = levels.scl level in
    let sda = levels.sda level in
    sound-cond u (ltb levels.max_level level) _ _ (sound-refused u 4)
    (fitting-sound u (spi_steps.sampled scl sda u) (Ok (sampled scl sda u))
    (λ e. sound-next u (sampled scl sda u) (fitting-rests (sampled scl sda u) (sampled-fits scl sda u ∙ e)))
    (λ f. alike-fits (sampled-alike scl sda u) ∙ f))

pub tick-sound : (u : Usi) → Sound u (tick u)
unfolding tick
tick-sound u =
    fitting-sound u (spi_steps.ticked u) (tick_i2c u)
    (λ e. sound-cond u (overruns u) (Err (refused 17 u)) (Ok (ticked u)) (sound-refused u 17)
    (sound-next u (ticked u) (fitting-rests (ticked u) (ticked-fits u ∙ e))))
    (λ f. alike-fits (ticked-alike u) ∙ f)
