-- Records at the limits, as decode_in answers them.
use mathlib.Core.Path.{◌≡◌, refl}
use mathlib.Core.Bool.{false}
use mathlib.Core.List.{List, [], ◌∷◌}
use Prim.Native.Nat.{ℕ}
use Rattle.std.specs.Prelude.{Result, Ok, Err}
use Rattle.laws.specs.declared.Refusal.{Refusal}
use Rattle.laws.specs.Refusals.{refused_at}
use Rattle.levels.specs.Levels.{starts, stops}
use Rattle.decode.specs.declared.Decoded.{Decoded}
use Rattle.decode.specs.Decode as decode
use Rattle.decode.specs.DecodeReply.{read_as}
use Rattle.phases.specs.declared.Mode.{Mode}
use Rattle.phases.specs.declared.Mode.TheVariants.{Standard, Fast}
use Rattle.phases.specs.Phases.{next, ends_short}
use Rattle.phases.specs.DecodedIn.{decoded_in}

-- START, a bit, STOP: SCL falls at sample 2, rises at 3, falls at 4, rises at 5
abbrev bit-and-stop : Mode → List ℕ → Result Decoded Refusal
bit-and-stop mode stamps = decoded_in mode stamps (3 ∷ 1 ∷ 0 ∷ 1 ∷ 0 ∷ 1 ∷ 3 ∷ []) 3

-- low for 47, high for 40, low for 47; the first phase and the last, cut off by the trace's ends, are shorter
pub standard-takes : bit-and-stop Standard (0 ∷ 1 ∷ 2 ∷ 49 ∷ 89 ∷ 136 ∷ 137 ∷ []) ≡ Ok (read_as 3 false 0 0)
unfolding starts stops decode.takes decode.with_bit decode.next decode.cut decode.lists next ends_short decoded_in
standard-takes = refl

-- low for 46: 18 at the sample that ends it; high for 39: likewise
pub standard-refuses : (bit-and-stop Standard (0 ∷ 1 ∷ 2 ∷ 48 ∷ 89 ∷ 136 ∷ 137 ∷ []) ≡ Err (refused_at 18 3))
    × (bit-and-stop Standard (0 ∷ 1 ∷ 2 ∷ 49 ∷ 88 ∷ 136 ∷ 137 ∷ []) ≡ Err (refused_at 18 4))
unfolding next ends_short decoded_in
standard-refuses = (refl, refl)

-- the same in Fast-mode: 13 and 6, then 12 and 5
pub fast-takes : bit-and-stop Fast (0 ∷ 1 ∷ 2 ∷ 15 ∷ 21 ∷ 34 ∷ 35 ∷ []) ≡ Ok (read_as 3 false 0 0)
unfolding starts stops decode.takes decode.with_bit decode.next decode.cut decode.lists next ends_short decoded_in
fast-takes = refl

pub fast-refuses : (bit-and-stop Fast (0 ∷ 1 ∷ 2 ∷ 14 ∷ 21 ∷ 34 ∷ 35 ∷ []) ≡ Err (refused_at 18 3))
    × (bit-and-stop Fast (0 ∷ 1 ∷ 2 ∷ 15 ∷ 20 ∷ 34 ∷ 35 ∷ []) ≡ Err (refused_at 18 4))
unfolding next ends_short decoded_in
fast-refuses = (refl, refl)

-- a phase is measured from edge to edge: samples within it at which only SDA changes do not cut it
pub edge-to-edge : (decoded_in Standard (0 ∷ 9 ∷ 39 ∷ 56 ∷ []) (1 ∷ 0 ∷ 2 ∷ 3 ∷ []) 9 ≡ Ok (read_as 0 false 0 0))
    × (decoded_in Standard (0 ∷ 9 ∷ 39 ∷ 55 ∷ []) (1 ∷ 0 ∷ 2 ∷ 3 ∷ []) 9 ≡ Err (refused_at 18 3))
unfolding starts stops decode.takes decode.with_bit decode.next decode.cut decode.lists next ends_short decoded_in
edge-to-edge = (refl, refl)

-- 18 comes after 7, wherever that is, and before 8
pub order-of-18 : (decoded_in Fast (0 ∷ 1 ∷ 2 ∷ 2 ∷ []) (3 ∷ 2 ∷ 3 ∷ 3 ∷ []) 0 ≡ Err (refused_at 7 3))
    × (decoded_in Fast (0 ∷ 1 ∷ 2 ∷ 3 ∷ []) (3 ∷ 2 ∷ 3 ∷ 1 ∷ []) 0 ≡ Err (refused_at 18 2))
    × (decoded_in Fast (0 ∷ 1 ∷ 14 ∷ 15 ∷ []) (3 ∷ 2 ∷ 3 ∷ 1 ∷ []) 0 ≡ Err (refused_at 8 0))
unfolding starts stops decode.takes decode.with_bit decode.next decode.cut decode.lists next ends_short decoded_in
order-of-18 = (refl, refl, refl)
