-- Worked catalogues: the number and the part of each reply.
use Prim.Native.Nat.{ℕ}
use mathlib.Core.Path.{◌≡◌, refl}
use mathlib.Core.Bool.{true, false}
use mathlib.Core.List.{List, [], ◌∷◌}
use Rattle.catalogue.specs.declared.places.Located.{Located}
use Rattle.catalogue.specs.Catalogue.{Catalogue, lent, number_of, message_of, located}

-- the replies of `number`, `part` and `locate`
pub record Reply : Type 0 where
  pub number : ℕ
  pub part : List ℕ
  pub place : Located

abbrev pub reply_of : ℕ → Catalogue → Catalogue → Reply
reply_of board corrections standing =
    record {
      number = number_of board corrections standing;
      part = message_of board corrections standing;
      place = located board corrections standing;
    }

abbrev pub found : List ℕ → Located → Reply
found part place = record { number = 0; part = part; place = place }

abbrev pub refused : ℕ → Reply
refused number =
    record { number = number; part = []; place = record { number = number; corrected = false; offset = 0; length = 0 } }

-- boards 4 and 9 are corrected, 4 to nothing; 2, 4 and 7 stand
abbrev corrections : Catalogue
corrections = lent (0x90 ∷ 0x12 ∷ 0x0f ∷ []) (4 ∷ 9 ∷ []) (0 ∷ 3 ∷ [])

abbrev standing : Catalogue
standing = lent (0xa0 ∷ 0xa1 ∷ 0xb0 ∷ 0xc0 ∷ 0xc1 ∷ []) (2 ∷ 4 ∷ 7 ∷ []) (2 ∷ 1 ∷ 2 ∷ [])

abbrev none : Catalogue
none = lent [] [] []

-- a board that only the corrections list
pub corrected : reply_of 9 corrections standing
    ≡ found (0x90 ∷ 0x12 ∷ 0x0f ∷ []) (record { number = 0; corrected = true; offset = 0; length = 3 })
unfolding number_of message_of located
corrected = refl

-- one that stands alone
pub stood : reply_of 7 corrections standing
    ≡ found (0xc0 ∷ 0xc1 ∷ []) (record { number = 0; corrected = false; offset = 3; length = 2 })
unfolding number_of message_of located
stood = refl

-- a correction of length 0 is found, and its part is empty: the standing message does not show
pub corrected-to-nothing : reply_of 4 corrections standing
    ≡ found [] (record { number = 0; corrected = true; offset = 0; length = 0 })
unfolding number_of message_of located
corrected-to-nothing = refl

-- no corrections tonight
pub uncorrected : reply_of 4 none standing
    ≡ found (0xb0 ∷ []) (record { number = 0; corrected = false; offset = 2; length = 1 })
unfolding number_of message_of located
uncorrected = refl

-- 42: in neither; and in two empty catalogues
pub in-neither : reply_of 8 corrections standing ≡ refused 42
unfolding number_of message_of located
in-neither = refl

pub both-empty : reply_of 0 none none ≡ refused 42
unfolding number_of message_of located
both-empty = refl

-- 40: equal neighbours, and a list that falls
pub equal-boards : reply_of 9 (lent (1 ∷ 2 ∷ []) (9 ∷ 9 ∷ []) (1 ∷ 1 ∷ [])) standing ≡ refused 40
unfolding number_of message_of located
equal-boards = refl

pub falling-boards : reply_of 9 corrections (lent (1 ∷ 2 ∷ []) (4 ∷ 2 ∷ []) (1 ∷ 1 ∷ [])) ≡ refused 40
unfolding number_of message_of located
falling-boards = refl

-- 41: a length too few, one too many, a sum too short, and one that is the block's in 32 bits but not beyond
pub lengths_short : reply_of 9 (lent (1 ∷ 2 ∷ []) (4 ∷ 9 ∷ []) (2 ∷ [])) standing ≡ refused 41
unfolding number_of message_of located
lengths_short = refl

pub lengths-long : reply_of 2 corrections (lent (1 ∷ []) (2 ∷ []) (1 ∷ 0 ∷ [])) ≡ refused 41
unfolding number_of message_of located
lengths-long = refl

pub sum-short : reply_of 9 corrections (lent (1 ∷ 2 ∷ []) (2 ∷ []) (1 ∷ [])) ≡ refused 41
unfolding number_of message_of located
sum-short = refl

pub sum-beyond : reply_of 9 corrections (lent (1 ∷ []) (2 ∷ 3 ∷ []) (4294967295 ∷ 2 ∷ [])) ≡ refused 41
unfolding number_of message_of located
sum-beyond = refl

-- the order: corrections 40, 41, standing 40, 41, then 42
abbrev unsorted : List ℕ → Catalogue
unsorted lengths = lent (1 ∷ []) (5 ∷ 5 ∷ []) lengths

pub boards-before-lengths : reply_of 1 (unsorted (7 ∷ [])) (unsorted []) ≡ refused 40
unfolding number_of message_of located
boards-before-lengths = refl

pub corrections-before-standing : reply_of 1 (lent (1 ∷ []) (5 ∷ []) (2 ∷ [])) (unsorted (7 ∷ [])) ≡ refused 41
unfolding number_of message_of located
corrections-before-standing = refl

pub standing-boards-first : reply_of 9 corrections (unsorted (7 ∷ [])) ≡ refused 40
unfolding number_of message_of located
standing-boards-first = refl
