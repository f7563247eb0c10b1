-- What a trace's levels mean: one step for a sample, and the fold over all of them.
use Rattle.std.specs.Prelude.{ℕ, ◌+◌, ◌*◌, Bool, cond, true, false, not, ◌&&◌, List, [], ◌∷◌, ◌++◌, eqb}
use mir.Val.{bool_byte}
use Rattle.decode.specs.declared.Decoder.{Decoder}
use Rattle.levels.specs.Levels.{scl, sda, falls, starts, stops}
use Rattle.trace.specs.Events.{byte_event, start_event, repeated_start_event, stop_event, partial_event}

-- before the first sample: no frame, no bits, and no line seen high, so that the first sample is only remembered
abbrev pub idle : Decoder
idle = record { last = 0; framed = false; marked = false; pending = 0; value = 0 }

-- a bit is taken when SCL falls, unless a START or STOP fell in that high phase or no frame is open
unfoldable pub takes : Decoder → ℕ → Bool
takes decoder level = falls (scl decoder.last) (scl level) && decoder.framed && not decoder.marked

-- its value is SDA in the sample before
abbrev pub bit : Decoder → Bool
bit decoder = sda decoder.last

-- it is the ninth
abbrev pub ninth : Decoder → Bool
ninth decoder = eqb decoder.pending 8

-- a START or STOP drops the bits that are pending
abbrev pub conditioned : Bool → ℕ → Decoder
conditioned framed level = record { last = level; framed = framed; marked = true; pending = 0; value = 0 }

-- a bit joins those that are pending, first bit highest; nine bits make an event
unfoldable pub with_bit : Decoder → ℕ → Decoder
with_bit decoder level =
    cond (ninth decoder)
    (record { last = level; framed = true; marked = false; pending = 0; value = 0 })
    (record {
      last = level;
      framed = true;
      marked = false;
      pending = decoder.pending + 1;
      value = 2 * decoder.value + bool_byte (bit decoder);
    })

-- nothing but the level is new; SCL low ends the high phase
abbrev pub seen : Decoder → ℕ → Decoder
seen decoder level =
    record {
      last = level;
      framed = decoder.framed;
      marked = decoder.marked && scl level;
      pending = decoder.pending;
      value = decoder.value;
    }

-- the decoder after one sample: START opens a frame, STOP closes it
unfoldable pub next : Decoder → ℕ → Decoder
next decoder level =
    cond (starts decoder.last level) (conditioned true level)
    (cond (stops decoder.last level) (conditioned false level)
    (cond (takes decoder level) (with_bit decoder level) (seen decoder level)))

-- where one to eight bits are pending, a START or STOP lists 515 first
unfoldable pub cut : Decoder → List ℕ
cut decoder = cond (eqb decoder.pending 0) [] (partial_event ∷ [])

-- START lists 512, or 513 in an open frame
abbrev pub start_of : Bool → ℕ
start_of false = start_event
start_of true = repeated_start_event

-- what one sample lists: a START's event; 514 at STOP in an open frame; the event that nine bits make
unfoldable pub lists : Decoder → ℕ → List ℕ
lists decoder level =
    cond (starts decoder.last level)
    (cut decoder ++ start_of decoder.framed ∷ [])
    (cond (stops decoder.last level && decoder.framed)
    (cut decoder ++ stop_event ∷ [])
    (cond (takes decoder level && ninth decoder) (byte_event decoder.value (bit decoder) ∷ []) []))

-- the decoder after all samples
abbrev pub after : Decoder → List ℕ → Decoder
after decoder [] = decoder
after decoder (level ∷ levels) = after (next decoder level) levels

-- what all samples list
abbrev pub listed : Decoder → List ℕ → List ℕ
listed decoder [] = []
listed decoder (level ∷ levels) = lists decoder level ++ listed (next decoder level) levels

-- the events of a trace
abbrev pub events : List ℕ → List ℕ
events levels = listed idle levels

-- the decoder at its end: a frame open or not, and the bits that are pending
abbrev pub final : List ℕ → Decoder
final levels = after idle levels
