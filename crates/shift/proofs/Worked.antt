-- Worked numbers of the register: A5h and 1234h, both ways.
use mathlib.Core.Path.{◌≡◌, refl}
use mathlib.Core.Bool.{true, false}
use mathlib.Core.List.{[], ◌∷◌}
use Rattle.shift.specs.Shift.{top_of, outgoing, shifted, downwards, upwards, in_order}

-- A5h is 1010 0101
pub highest-first : in_order (top_of false) false 165 ≡ true ∷ false ∷ true ∷ false ∷ false ∷ true ∷ false ∷ true ∷ []
unfolding downwards
highest-first = refl

pub lowest-first : in_order (top_of false) true 19 ≡ true ∷ true ∷ false ∷ false ∷ true ∷ false ∷ false ∷ false ∷ []
unfolding upwards
lowest-first = refl

-- one shift of A5h with a 1 entering is 4Bh, and D2h with LSB=1; with a 0 4Ah and 52h
pub shifts-of-eight :
    (shifted (top_of false) false true 165 ≡ 75) × (shifted (top_of false) true true 165 ≡ 210)
    × (shifted (top_of false) false false 165 ≡ 74) × (shifted (top_of false) true false 165 ≡ 82)
shifts-of-eight = (refl, refl, refl, refl)

-- 1234h becomes 2469h, and 891Ah with LSB=1
pub shifts-of-sixteen : (shifted (top_of true) false true 4660 ≡ 9321) × (shifted (top_of true) true true 4660 ≡ 35098)
shifts-of-sixteen = (refl, refl)

-- bit 15, bit 7 and bit 0 leave first
pub leaves :
    (outgoing (top_of true) false 32768 ≡ true) × (outgoing (top_of true) false 32767 ≡ false)
    × (outgoing (top_of false) false 128 ≡ true) × (outgoing (top_of false) false 65407 ≡ false)
    × (outgoing (top_of true) true 1 ≡ true) × (outgoing (top_of false) true 65534 ≡ false)
leaves = (refl, refl, refl, refl, refl, refl)
