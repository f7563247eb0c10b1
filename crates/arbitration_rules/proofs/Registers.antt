-- The registers of a module in a run: driving a byte, beaten in this byte, released, awaiting the acknowledge; and
-- what one turn makes of each, with n bits to go.
use Prim.Native.Nat.{ℕ, suc, ◌<◌}
use mathlib.Core.Path.{◌≡◌, refl, ap, ap₂, ◌∙◌}
use mathlib.Core.Bool.{Bool, cond, true, false, not, ◌&&◌, beq}
use lib.Dec.{lit<}
use Rattle.bits.specs.Positions.{off}
use Rattle.usi_registers.specs.Registers.{USI16B}
use Rattle.usi_registers.specs.Rules as set_up
use Rattle.usi_i2c.specs.Rules as rules
use Rattle.usi_i2c.specs.Rules.{loss_control, loss_flags, condition_flags, condition_count, phase_after}
use Rattle.usi.specs.declared.Usi.{Usi}
use Rattle.usi.specs.Step.{followed, edged, fallen, risen, sample, tick}
use Rattle.arbitration_rules.proofs.Counting.{narrow, counts, count-down, ended, end-flags}
use Rattle.arbitration_rules.proofs.Turn.{between, after, Drives, Clocking, Turns, clocking-turn}

-- registers with which a module clocks, whatever the count
record Ready (control flags : ℕ) : Type 0 where
  fitting : (count : ℕ) → set_up.fits control flags 0x22 count ≡ off count USI16B && true && true && true
  clocks : (count : ℕ) → rules.clocks control flags count ≡ set_up.counting count
  drives : Drives control flags
  moves : (count : ℕ) → rules.moves_latch control count ≡ set_up.counting count && true
  opaque : set_up.transparent control ≡ false
  opaque-lost : set_up.transparent (loss_control control true) ≡ false

-- those of a driving master, of one beaten in this byte, and of one that awaits the acknowledge
ready-to-drive : Ready 0xca 0x40
unfolding loss_control
ready-to-drive =
    record {
      fitting = λ count. refl;
      clocks = λ count. refl;
      drives = λ phase. refl;
      moves = λ count. refl;
      opaque =
          refl;
      opaque-lost = refl;
    }

ready-though-beaten : Ready 0xc8 0x48
unfolding loss_control
ready-though-beaten =
    record {
      fitting = λ count. refl;
      clocks = λ count. refl;
      drives = λ phase. refl;
      moves = λ count. refl;
      opaque =
          refl;
      opaque-lost = refl;
    }

ready-to-listen : Ready 0xc8 0x40
unfolding loss_control
ready-to-listen =
    record {
      fitting = λ count. refl;
      clocks = λ count. refl;
      drives = λ phase. refl;
      moves = λ count. refl;
      opaque =
          refl;
      opaque-lost = refl;
    }

-- what holds of both levels holds of every level
at_both : (P : Bool → Type 0) → P true → P false → (b : Bool) → P b
at_both P high low true = high
at_both P high low false = low

clocking : {control flags : ℕ} → Ready control flags → (n : ℕ) → suc n < 32 → Clocking control flags (suc n)
unfolding loss_control
clocking {control = control} ready n small =
    record {
      fitting = ready.fitting (suc n) ∙ ap (λ b. b && true && true && true) (narrow (suc n) small);
      clocks = ready.clocks (suc n) ∙ counts n small;
      drives = ready.drives;
      counting = counts n small;
      moves = ready.moves (suc n) ∙ ap (λ b. b && true) (counts n small);
      opaque = ready.opaque;
      opaque-after =
          at_both (λ lost. set_up.transparent (loss_control control lost) ≡ false) ready.opaque-lost ready.opaque;
    }

-- the registers after a turn with one bit less to go
settles : (control flags n register : ℕ) (sent driving bit lost : Bool) → suc n < 32
    → after control flags (suc n) register sent driving bit lost
    ≡ between (loss_control control lost) (ended n (loss_flags flags lost)) n (rules.shifted register bit) sent
    (driving && not lost) bit
settles control flags n register sent driving bit lost small =
    ap₂
    (λ f c. between (loss_control control lost) f c (rules.shifted register bit) sent (driving && not lost) bit)
    (end-flags (loss_flags flags lost) n small)
    (count-down n small)

-- with n bits to go: driving, beaten in this byte, released
abbrev pub driving : (n register : ℕ) (latch enable sda : Bool) → Usi
driving n register latch enable sda = between 0xca (ended n 0x40) n register latch enable sda

abbrev pub beaten : (n register : ℕ) (latch sda : Bool) → Usi
beaten n register latch sda = between 0xc8 (ended n 0x48) n register latch false sda

abbrev pub released : (register : ℕ) (latch sda : Bool) → Usi
released register latch sda = between 0xc0 0x49 0x80 register latch false sda

-- awaiting the acknowledge (n = 1), and after it (n = 0)
abbrev pub listening : (n register : ℕ) (latch enable sda : Bool) → Usi
listening n register latch enable sda = between 0xc8 (ended n 0x40) n register latch enable sda

pub turns-to : {usi v w : Usi} {clocks drives bit : Bool} → Turns usi clocks drives bit v → v ≡ w
    → Turns usi clocks drives bit w
turns-to turns same =
    record {
      falls = turns.falls;
      low = turns.low;
      drives-low = turns.drives-low;
      high = turns.high;
      drives-high = turns.drives-high;
      ends = λ before. turns.ends before ∙ same;
    }

-- a driving master goes on while the bus shows its bit; else it is beaten
pub driving-turn : (n register : ℕ) (latch enable sda sent bit : Bool) → suc n < 32 → rules.first_bit register ≡ sent
    → Turns (driving (suc n) register latch enable sda) true (not sent) bit
    (cond (beq sent bit) (driving n (rules.shifted register bit) sent true bit)
    (beaten n (rules.shifted register bit) sent bit))
unfolding loss_control loss_flags
driving-turn n register latch enable sda sent bit small first =
    turns-to
    (clocking-turn 0xca 0x40 (suc n) register (clocking ready-to-drive n small) latch enable sda bit sent true first
    refl)
    (settles 0xca 0x40 n register sent true bit (not (beq sent bit)) small ∙ shape sent bit)
  where
    shape : (sent bit : Bool)
        → between (loss_control 0xca (not (beq sent bit))) (ended n (loss_flags 0x40 (not (beq sent bit)))) n
        (rules.shifted register bit) sent (true && not (not (beq sent bit))) bit
        ≡ cond (beq sent bit) (driving n (rules.shifted register bit) sent true bit)
        (beaten n (rules.shifted register bit) sent bit)
    shape true true = refl
    shape true false = refl
    shape false true = refl
    shape false false = refl

pub beaten-turn : (n register : ℕ) (latch sda sent bit : Bool) → suc n < 32 → rules.first_bit register ≡ sent
    → Turns (beaten (suc n) register latch sda) true false bit (beaten n (rules.shifted register bit) sent bit)
unfolding loss_control loss_flags
beaten-turn n register latch sda sent bit small first =
    turns-to
    (clocking-turn 0xc8 0x48 (suc n) register (clocking ready-though-beaten n small) latch false sda bit sent false
    first refl)
    (settles 0xc8 0x48 n register sent false bit false small)

pub listening-turn : (register : ℕ) (latch enable sda bit : Bool)
    → Turns (listening 1 register latch enable sda) true false bit
    (listening 0 (rules.shifted register bit) (rules.first_bit register) false bit)
unfolding loss_control loss_flags
listening-turn register latch enable sda bit =
    turns-to
    (clocking-turn 0xc8 0x40 1 register (clocking ready-to-listen 0 (lit< tt)) latch enable sda bit
    (rules.first_bit register)
    false refl refl)
    (settles 0xc8 0x40 0 register (rules.first_bit register) false bit false (lit< tt))

pub released-turn : (register : ℕ) (latch sda bit : Bool)
    → Turns (released register latch sda) false false bit (released register latch bit)
unfolding condition_flags condition_count phase_after followed edged fallen risen sample tick
released-turn register latch sda true =
    record {
      falls = refl;
      low = at_both _ refl refl;
      drives-low = at_both _ refl refl;
      high = at_both _ refl refl;
      drives-high = at_both _ refl refl;
      ends = at_both _ refl refl;
    }
released-turn register latch sda false =
    record {
      falls = refl;
      low = at_both _ refl refl;
      drives-low = at_both _ refl refl;
      high = at_both _ refl refl;
      drives-high = at_both _ refl refl;
      ends = at_both _ refl refl;
    }
