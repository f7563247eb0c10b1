-- What writes clear (02: Ask 12): a refused write nothing; a word what its two bytes clear, joined.
use Prim.Native.Nat.{ℕ, ◌+◌, ◌-◌, ◌/◌, ◌%◌, ◌<◌}
use mathlib.Core.Path.{◌≡◌, refl, sym, ap, ◌∙◌}
use mathlib.Core.Bool.{Bool, cond, true, false}
use native.Mathlib.Omega.{arith}
use lib.Bits.{bit_and, bit_or, or_zero_l, and_le_l, and_le_r}
use lib.Dec.{eqb}
use borrow.Author.Tests.{eqb-true}
use Rattle.laws.proofs.Search.{all-below}
use Rattle.usi_registers.specs.Registers.{USICTL0, USICTL1, USICKCTL, USICNT, USISRL, USISRH, USIFLAGS}
use Rattle.usi_registers.specs.Rules as set_up
use Rattle.usi_registers.specs.Rules.{cleared}
use Rattle.usi_spi.specs.Rules.{follows}
use Rattle.usi.specs.declared.Usi.{Usi}
use Rattle.usi.specs.declared.Refused.{Refused}
use Rattle.std.specs.Prelude.{Result, Ok, Err, MatchResult}
use Rattle.usi.specs.Module.{fits, fits_spi, at_rest, with_usictl0, with_usickctl, with_usisrl}
use Rattle.usi.specs.Spi as spi
use Rattle.usi.specs.declared.Written.{Written}
use Rattle.usi.specs.Step.{refused, refusal, module_of, and_then, latched, followed, kept, settled, write_byte, odd}
use Rattle.usi.specs.Step.{write_word, answered, cleared_by, written, written_word, overruns, ticked, tick}

-- what stays is not cleared
pub same-clears-none : (flags : ℕ) → flags < 256 → cleared flags flags ≡ 0
same-clears-none flags small =
    eqb-true (cleared flags flags) 0 (all-below (λ (x : ℕ). eqb (cleared x x) 0) 256 refl flags small)

-- a refused write clears nothing
pub refused-clears-none : (u : Usi) (number : ℕ) → cleared_by (answered u.usictl1 (Err (refused number u))) ≡ 0
refused-clears-none u number = refl

-- the hidden state settles, USICTL1 stays
chosen-keeps : (test : Bool) (u v w : Usi) → v.usictl1 ≡ u.usictl1 → w.usictl1 ≡ u.usictl1
    → (cond test v w).usictl1 ≡ u.usictl1
chosen-keeps true u v w first second = first
chosen-keeps false u v w first second = second

kept-keeps : (same : Bool) (u : Usi) → (kept same u).usictl1 ≡ u.usictl1
kept-keeps same u = chosen-keeps same u u (at_rest u) refl refl

followed-keeps : (u : Usi) → (followed u).usictl1 ≡ u.usictl1
unfolding followed
followed-keeps u = chosen-keeps (set_up.transparent u.usictl0) u (latched u) u refl refl

followed-spi-keeps : (u : Usi) → (spi.followed u).usictl1 ≡ u.usictl1
unfolding spi.followed
followed-spi-keeps u =
    chosen-keeps (follows u.usictl0 u.usictl1 u.usickctl u.usicnt u.seen u.scl) u (spi.latched u) u
    refl refl

settled-keeps : (before u : Usi) → (settled before u).usictl1 ≡ u.usictl1
unfolding settled
settled-keeps before u =
    chosen-keeps (fits u) u _ _
    (followed-keeps (kept (fits before) u) ∙ kept-keeps (fits before) u)
    (chosen-keeps (fits_spi u) u _ _
    (followed-spi-keeps (kept (fits_spi before) u) ∙ kept-keeps (fits_spi before) u) refl)

-- a tick sets and clears no flag
abbrev Keeps : Usi → Result Usi Refused → Type 0
Keeps u step = (module_of step).usictl1 ≡ u.usictl1

either-keeps : (test : Bool) (u : Usi) (one two : Result Usi Refused) → Keeps u one → Keeps u two
    → Keeps u (cond test one two)
either-keeps true u one two first second = first
either-keeps false u one two first second = second

pub tick-flags : (u : Usi) → Keeps u (tick u)
unfolding tick
tick-flags u =
    either-keeps (fits u) u _ _
    (either-keeps (overruns u) u (Err (refused 17 u)) (Ok (ticked u)) refl (followed-keeps _))
    (either-keeps (fits_spi u) u (Ok (spi.ticked u)) (Err (refused 3 u)) (followed-spi-keeps _) refl)

-- a low byte that leaves USICTL1 as it was adds nothing
joined : (first middle last : ℕ) → first < 256 → middle ≡ first
    → cleared first last ≡ bit_or (cleared first middle) (cleared middle last)
joined first middle last small same =
    rw same (sym (ap (λ (none : ℕ). bit_or none (cleared first last)) (same-clears-none first small)
    ∙ or_zero_l (cleared first last)))

-- the flags that a byte of a word clears, and those that the word does
abbrev low_cleared : Usi → ℕ → ℕ → ℕ
low_cleared u address value = cleared_by (written u address (value % 256))

abbrev high_cleared : Usi → ℕ → ℕ → ℕ
high_cleared u address value =
    cleared_by (written (module_of (write_byte u address (value % 256))) (address + 1) (value / 256))

abbrev Joins : Usi → ℕ → ℕ → Type 0
Joins u address value =
    cleared_by (written_word u address value) ≡ bit_or (low_cleared u address value) (high_cleared u address value)

-- each of the three words clears what its two bytes clear, joined
pub word-joins : (u : Usi) (value : ℕ) → u.usictl1 < 256
    → Joins u USICTL0 value × Joins u USICKCTL value × Joins u USISRL value
unfolding write_word write_byte
word-joins u value small = (
  joined u.usictl1 _ _ small (settled-keeps u (with_usictl0 (value % 256) u)),
  joined u.usictl1 _ _ small (settled-keeps u (with_usickctl (value % 256) u)),
  joined u.usictl1 _ _ small (settled-keeps u (with_usisrl (value % 256) u)),
)

-- the answer's numbers are small: a refusal of a write is 1 or 2, and four flags can be cleared
cleared-small : (before after : ℕ) → cleared before after < 16
cleared-small before after =
    omega (arith, and_le_l (bit_and before USIFLAGS) (255 - after), and_le_r before USIFLAGS)

abbrev pub Small : Result Written Refused → Type 0
Small answer = MatchResult answer (λ w. w.cleared < 16) (λ r. r.number < 32)

abbrev Low : Result Usi Refused → Type 0
Low step = refusal step < 32

either-low : (test : Bool) (one two : Result Usi Refused) → Low one → Low two → Low (cond test one two)
either-low true one two first second = first
either-low false one two first second = second

byte_low : (u : Usi) (address value : ℕ) → Low (write_byte u address value)
unfolding write_byte
byte_low u address value =
    either-low (eqb address USICTL0) _ _ (omega arith)
    (either-low (eqb address USICTL1) _ _ (omega arith)
    (either-low (eqb address USICKCTL) _ _ (omega arith)
    (either-low (eqb address USICNT) _ _ (omega arith)
    (either-low (eqb address USISRL) _ _ (omega arith)
    (either-low (eqb address USISRH) _ _ (omega arith) (omega arith))))))

then-low : (step : Result Usi Refused) (next : Usi → Result Usi Refused) → Low step → ((u : Usi) → Low (next u))
    → Low (and_then step next)
then-low (Ok u) next first rest = rest u
then-low (Err r) next first rest = first

-- of what a step answers, a write's answer
answered-small : (before : ℕ) (step : Result Usi Refused) → Low step → Small (answered before step)
answered-small before (Ok u) low = cleared-small before u.usictl1
answered-small before (Err r) low = low

pub written_small : (u : Usi) (address value : ℕ) → Small (written u address value)
written_small u address value = answered-small u.usictl1 (write_byte u address value) (byte_low u address value)

word_low : (u : Usi) (address value : ℕ) → Low (write_word u address value)
unfolding write_word
word_low u address value =
    either-low (odd address) (Err (refused 2 u))
    (and_then (write_byte u address (value % 256)) (λ v. write_byte v (address + 1) (value / 256))) (omega arith)
    (then-low (write_byte u address (value % 256)) (λ v. write_byte v (address + 1) (value / 256))
    (byte_low u address (value % 256)) (λ v. byte_low v (address + 1) (value / 256)))

pub word_small : (u : Usi) (address value : ℕ) → Small (written_word u address value)
word_small u address value = answered-small u.usictl1 (write_word u address value) (word_low u address value)
