-- The decoder stepped by one sample: what the step answers, and what it makes of a decoder that no sample leaves.
use Rattle.std.specs.Prelude.{ℕ, ◌≤◌, ◌<◌, ◌/◌, ◌^◌, ◌≡◌, Bool, cond, ◌&&◌, List, [], ◌∷◌, eqb, leb}
use Rattle.decode.specs.declared.Decoder.{Decoder}
use Rattle.decode.specs.declared.Listed.{Listed}
use Rattle.decode.specs.declared.Listed.TheVariants.{Nothing, One, Two}
use Rattle.decode.specs.declared.Stepped.{Stepped}
use Rattle.decode.specs.Decode.{idle, next, lists}

-- the list of what one sample lists
abbrev pub list_of : Listed → List ℕ
list_of Nothing = []
list_of (One event) = event ∷ []
list_of (Two first second) = first ∷ second ∷ []

-- a step answers the next decoder, and what the sample lists
pub record Steps (decoder : Decoder) (level : ℕ) (answer : Stepped) : Type 0 where
  pub decoder_is : answer.decoder ≡ next decoder level
  pub listed_is : list_of answer.listed ≡ lists decoder level

-- nine bits make an event at once, so at most eight are pending, and their value fits that many
pub record Sound (decoder : Decoder) : Type 0 where
  pub few : decoder.pending ≤ 8
  pub small : decoder.value < 2 ^ decoder.pending

-- any other decoder was made by hand: it counts as one that has seen nothing
abbrev pub is_sound : Decoder → Bool
is_sound decoder = leb decoder.pending 8 && eqb (decoder.value / 2 ^ decoder.pending) 0

unfoldable pub sounded : Decoder → Decoder
sounded decoder = cond (is_sound decoder) decoder idle

-- nothing but the level is new, and whether a START or STOP fell in this high phase
abbrev pub quietly : Decoder → ℕ → Bool → Stepped
quietly decoder level marked =
    record {
      decoder =
          record {
            last = level;
            framed = decoder.framed;
            marked = marked;
            pending = decoder.pending;
            value = decoder.value;
          };
      listed = Nothing;
    }
