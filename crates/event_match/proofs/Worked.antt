-- Worked lists, each of the reply.
use mathlib.Core.Path.{◌≡◌, refl}
use mathlib.Core.List.{List, [], ◌∷◌}
use Prim.Native.Nat.{ℕ}
use Rattle.std.specs.Prelude.{Some, None}
use Rattle.laws.specs.Same.{same}
use Rattle.event_match.specs.declared.Part.TheVariants.{Other, Bit, Acknowledge}
use Rattle.event_match.specs.Match.{part_of, part_at, difference_at, compared}

-- a message of two bytes, 90h and 12h, both acknowledged
abbrev message : List ℕ
message = 512 ∷ 0x90 ∷ 0x12 ∷ 514 ∷ []

pub seen-as-rehearsed : (compared message message ≡ None) × (compared [] [] ≡ None)
unfolding compared part_at part_of same
seen-as-rehearsed = (refl, refl)

-- 0Fh for 12h: byte 1 differs first at bit 4; the same byte not acknowledged; a STOP in its place
pub byte-differs : (compared message (512 ∷ 0x90 ∷ 0x0f ∷ 514 ∷ []) ≡ Some (difference_at 2 1 (Bit 4)))
    × (compared message (512 ∷ 0x90 ∷ 0x112 ∷ 514 ∷ []) ≡ Some (difference_at 2 1 Acknowledge))
    × (compared message (512 ∷ 0x90 ∷ 514 ∷ []) ≡ Some (difference_at 2 1 Other))
unfolding compared part_at part_of same
byte-differs = (refl, refl, refl)

-- a bit comes before the acknowledge: FFh acknowledged and 7Fh not
pub bit-before-acknowledge : compared (512 ∷ 0xff ∷ []) (512 ∷ 0x17f ∷ []) ≡ Some (difference_at 1 0 (Bit 7))
unfolding compared part_at part_of same
bit-before-acknowledge = refl

-- where a list ends, whichever it is
pub one-ends : (compared message (512 ∷ 0x90 ∷ []) ≡ Some (difference_at 2 1 Other))
    × (compared [] message ≡ Some (difference_at 0 0 Other))
unfolding compared part_at part_of same
one-ends = (refl, refl)

-- bytes are counted over a repeated START, and from 0 after any other
pub counted-over-restarts : (compared (512 ∷ 2 ∷ 513 ∷ 4 ∷ 514 ∷ []) (512 ∷ 2 ∷ 513 ∷ 5 ∷ 514 ∷ [])
    ≡ Some (difference_at 3 1 (Bit 0)))
    × (compared (512 ∷ 2 ∷ 514 ∷ 512 ∷ 4 ∷ []) (512 ∷ 2 ∷ 514 ∷ 512 ∷ 5 ∷ []) ≡ Some (difference_at 4 0 (Bit 0)))
unfolding compared part_at part_of same
counted-over-restarts = (refl, refl)
