-- How many bytes the parts of the text have.
use mathlib.Core.Path.{◌≡◌, refl}
use mathlib.Core.Bool.{Bool, true, false, cond, ◌&&◌, beq}
use mathlib.Core.List.{[], ◌∷◌, ◌++◌}
use Prim.Native.Nat.{ℕ, zero, suc, ◌+◌, ◌-◌, ◌/◌, ◌%◌, ◌^◌, ◌≤◌, ◌<◌}
use native.Mathlib.Nat.{div-lt_iff_lt-mul, pow-suc}
use native.Mathlib.Omega.{arith}
use lib.Dec.{ltb}
use lib.ListN.{length, length-append}
use borrow.Author.Tests.{ltb-false}
use Rattle.levels.specs.Levels.{scl, sda}
use Rattle.text.specs.Output.{digit_byte, decimal_up_to, decimal_text}
use Rattle.dump.specs.Text.{header, scl_wire, sda_wire, stamp_line, value_line, change_line, sample_text}

pub header-length : length header ≡ 127
unfolding header
header-length = refl

-- of more bytes than there are, those left out but these
pub left-whole : (more whole skip : ℕ) → skip ≡ more - whole → whole ≤ more → more - skip ≡ whole
left-whole more whole skip left fits = omega arith

-- a number below 10 ^ d has at most d digits
digits : (most n d : ℕ) → n < 10 ^ suc d → length (decimal_up_to most n) ≤ suc d
unfolding decimal_up_to
digits zero n d small = omega arith
digits (suc most) n d small =
    rw (length-append (cond (ltb n 10) [] (decimal_up_to most (n / 10))) (digit_byte (n % 10) ∷ []))
    (go (ltb n 10) refl d small (digits most (n / 10)))
  where
    go : (one : Bool) → ltb n 10 ≡ one → (d : ℕ) → n < 10 ^ suc d
        → ((fewer : ℕ) → n / 10 < 10 ^ suc fewer → length (decimal_up_to most (n / 10)) ≤ suc fewer)
        → length (cond one [] (decimal_up_to most (n / 10))) + 1 ≤ suc d
    go true is d small rest = omega arith
    go false is zero small rest = absurd (omega (arith, ltb-false n 10 is))
    go false is (suc d) small rest =
        let ten : 0 < 10 = omega arith in
        let tenth : n / 10 < 10 ^ suc d = (div-lt_iff_lt-mul {k = 10} ten).1 (rw (pow-suc 10 (suc d)) at small) in
        omega (arith, rest d tenth)

pub stamp-length : (stamp : ℕ) → stamp < 2 ^ 32 → length (stamp_line stamp) ≤ 12
unfolding stamp_line
stamp-length stamp small =
    let less : stamp < 10 ^ 10 = omega arith in
    rw (length-append (decimal_text stamp) (0x0a ∷ [])) (omega (arith, digits (suc stamp) stamp 9 less))

change-length : (before high : Bool) (wire : ℕ) → length (change_line before high wire) ≤ 3
unfolding change_line value_line
change-length before high wire = go (beq high before)
  where
    go : (same : Bool) → length (cond same [] (value_line high wire)) ≤ 3
    go true = omega arith
    go false = omega arith

pub sample-length : (last stamp level : ℕ) → stamp < 2 ^ 32 → length (sample_text last stamp level) ≤ 18
unfolding sample_text
sample-length last stamp level small =
    go (beq (scl level) (scl last) && beq (sda level) (sda last))
  where
    go : (same : Bool) → length (cond same [] (stamp_line stamp ++ change_line (scl last) (scl level) scl_wire
        ++ change_line (sda last) (sda level) sda_wire)) ≤ 18
    go true = omega arith
    go false =
        omega (
          arith,
          length-append (stamp_line stamp ++ change_line (scl last) (scl level) scl_wire)
              (change_line (sda last) (sda level) sda_wire),
          length-append (stamp_line stamp) (change_line (scl last) (scl level) scl_wire),
          stamp-length stamp small,
          change-length (scl last) (scl level) scl_wire,
          change-length (sda last) (sda level) sda_wire,
        )
