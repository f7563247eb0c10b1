-- The edges of SCLK: a bit is captured where SCLK leaves the level before capture, and the output changes where SCLK
-- comes to it; whole periods have as many captures as periods.
use Prim.Native.Nat.{ℕ, ◌+◌}
use mathlib.Core.Path.{◌≡◌, refl}
use mathlib.Core.Bool.{Bool, true, false, cond, not, ◌&&◌, beq}
use mathlib.Core.List.{List, [], ◌∷◌}
use native.Mathlib.Omega.{arith}
use lib.ListN.{length}
use mir.Val.{bool_byte}
use Rattle.bits.specs.Positions.{on}
use Rattle.usi_registers.specs.Registers.{USICKPH}
use Rattle.usi_spi.specs.Rules.{idle, leads, trails, captures, changes}
use Rattle.spi_transfers.specs.Transfer.{Act, sclk_then, sclk_after, sdi_of, periods, received}

-- the level of SCLK before a capture edge
abbrev pub armed : ℕ → ℕ → Bool
armed usictl1 usickctl = cond (on usictl1 USICKPH) (idle usickctl) (not (idle usickctl))

pub captures-is : (usictl1 usickctl : ℕ) (before sclk : Bool)
    → captures usictl1 usickctl before sclk
    ≡ beq before (armed usictl1 usickctl) && not (beq sclk (armed usictl1 usickctl))
unfolding captures
captures-is usictl1 usickctl before sclk = go (on usictl1 USICKPH) (idle usickctl) before sclk
  where
    go : (ckph rest before sclk : Bool)
        → cond ckph (beq before rest && not (beq sclk rest))
        (not (beq before rest) && beq sclk rest)
        ≡ beq before (cond ckph rest (not rest)) && not (beq sclk (cond ckph rest (not rest)))
    go true rest before sclk = refl
    go false true true true = refl
    go false true true false = refl
    go false true false true = refl
    go false true false false = refl
    go false false true true = refl
    go false false true false = refl
    go false false false true = refl
    go false false false false = refl

pub changes-is : (usictl1 usickctl : ℕ) (before sclk : Bool)
    → changes usictl1 usickctl before sclk
    ≡ not (beq before (armed usictl1 usickctl)) && beq sclk (armed usictl1 usickctl)
unfolding changes
changes-is usictl1 usickctl before sclk = go (on usictl1 USICKPH) (idle usickctl) before sclk
  where
    go : (ckph rest before sclk : Bool)
        → cond ckph (not (beq before rest) && beq sclk rest)
        (beq before rest && not (beq sclk rest))
        ≡ not (beq before (cond ckph rest (not rest))) && beq sclk (cond ckph rest (not rest))
    go true rest before sclk = refl
    go false true true true = refl
    go false true true false = refl
    go false true false true = refl
    go false true false false = refl
    go false false true true = refl
    go false false true false = refl
    go false false false true = refl
    go false false false false = refl

-- away from the idle level
abbrev active : ℕ → Bool → ℕ
active usickctl sclk = bool_byte (not (beq sclk (idle usickctl)))

-- one step: what it leads and what it trails
balance : (rest before sclk : Bool)
    → bool_byte (beq before rest && not (beq sclk rest)) + bool_byte (not (beq before rest))
    ≡ bool_byte (not (beq before rest) && beq sclk rest) + bool_byte (not (beq sclk rest))
balance true true true = refl
balance true true false = refl
balance true false true = refl
balance true false false = refl
balance false true true = refl
balance false true false = refl
balance false false true = refl
balance false false false = refl

-- with CKPH=1 a capture is a period begun; with CKPH=0 it is one ended
counted : (captured : Bool) (bit : Bool) (bits : List Bool)
    → length (cond captured (bit ∷ bits) bits) ≡ bool_byte captured + length bits
counted true bit bits = omega arith
counted false bit bits = omega arith

module _ (usictl1 usickctl : ℕ) where
  late : on usictl1 USICKPH ≡ false → (before : Bool) (acts : List Act)
      → length (received usictl1 usickctl before acts) + active usickctl (sclk_after before acts)
      ≡ periods usickctl before acts + active usickctl before
  unfolding received sclk_after periods captures
  late ckph before [] = refl
  late ckph before (act ∷ acts) =
      let sclk = sclk_then before act in
      let rest = received usictl1 usickctl sclk acts in
      let one : length (received usictl1 usickctl before (act ∷ acts))
      ≡ bool_byte (trails usickctl before sclk) + length rest
      = rw ckph (counted (trails usickctl before sclk) (sdi_of act) rest) in
      omega (arith, one, late ckph sclk acts, balance (idle usickctl) before sclk)

  early : on usictl1 USICKPH ≡ true → (before : Bool) (acts : List Act)
      → length (received usictl1 usickctl before acts) ≡ periods usickctl before acts
  unfolding received periods captures
  early ckph before [] = refl
  early ckph before (act ∷ acts) =
      let sclk = sclk_then before act in
      let rest = received usictl1 usickctl sclk acts in
      let one : length (received usictl1 usickctl before (act ∷ acts))
      ≡ bool_byte (leads usickctl before sclk) + length rest
      = rw ckph (counted (leads usickctl before sclk) (sdi_of act) rest) in
      omega (arith, one, early ckph sclk acts)

  idle-is-none : (sclk : Bool) → sclk ≡ idle usickctl → active usickctl sclk ≡ 0
  idle-is-none sclk at = rw at (go (idle usickctl))
    where
      go : (rest : Bool) → bool_byte (not (beq rest rest)) ≡ 0
      go true = refl
      go false = refl

  -- whole periods: as many bits as periods
  pub whole : (before : Bool) (acts : List Act) → before ≡ idle usickctl → sclk_after before acts ≡ idle usickctl
      → length (received usictl1 usickctl before acts) ≡ periods usickctl before acts
  whole before acts begun ended = go (on usictl1 USICKPH) refl
    where
      go : (ckph : Bool) → on usictl1 USICKPH ≡ ckph
          → length (received usictl1 usickctl before acts) ≡ periods usickctl before acts
      go true e = early e before acts
      go false e =
          omega (arith, late e before acts, idle-is-none before begun, idle-is-none (sclk_after before acts) ended)
