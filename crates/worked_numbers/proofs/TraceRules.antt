-- Document 01's rules of the wire reader and writer, one line each, as decode and encode answer them.
use mathlib.Core.Path.{◌≡◌, refl}
use mathlib.Core.Bool.{true, false}
use mathlib.Core.List.{List, [], ◌∷◌, ◌++◌}
use Prim.Native.Nat.{ℕ, ◌+◌}
use lib.ListN.{length, replicate}
use Rattle.std.specs.Prelude.{Result, Ok, Err}
use Rattle.laws.specs.declared.Refusal.{Refusal}
use Rattle.laws.specs.Refusals.{refused_at}
use Rattle.encode.specs.Encode.{stamps_from}
use Rattle.encode.specs.EncodeReply.{encoded, encoded_numbers, stamps_after, levels_after}
use Rattle.decode.specs.declared.Decoded.{Decoded}
use Rattle.decode.specs.DecodeReply.{read_as, decoded, decoded_numbers, events_after}
use Rattle.worked_numbers.proofs.Computed as computed

-- ---- the reader
-- the events of levels, stamped 0, 1, 2 .., in a slice of as many
abbrev reading : List ℕ → Result Decoded Refusal
reading levels = decoded (stamps_from 0 1 (length levels)) levels (length levels)

abbrev events-of : List ℕ → List ℕ
events-of levels = events_after (reading levels) levels (replicate 6 7)

-- an empty record lists nothing
pub reads_nothing : decoded [] [] 0 ≡ Ok (read_as 0 false 0 0)
unfolding computed.decoded
reads_nothing = refl

-- START opens a frame, STOP closes it; outside a frame only START lists anything
pub reads-frames : (events-of (3 ∷ 1 ∷ 3 ∷ []) ≡ 512 ∷ 514 ∷ 7 ∷ 7 ∷ 7 ∷ 7 ∷ [])
    × (events-of (1 ∷ 3 ∷ 2 ∷ 3 ∷ []) ≡ replicate 6 7) × (reading (3 ∷ 1 ∷ []) ≡ Ok (read_as 1 true 0 0))
unfolding computed.decoded computed.read-into
reads-frames = (refl, refl, refl)

-- a bit is taken as SCL falls, its value SDA in the sample before; first bit highest
pub reads-bits : (reading (3 ∷ 1 ∷ 2 ∷ 3 ∷ []) ≡ Ok (read_as 1 true 0 0))
    × (reading (3 ∷ 1 ∷ 2 ∷ 3 ∷ 0 ∷ []) ≡ Ok (read_as 1 true 1 1))
    × (reading (3 ∷ 1 ∷ 2 ∷ 3 ∷ 0 ∷ 1 ∷ 0 ∷ []) ≡ Ok (read_as 1 true 2 2))
unfolding computed.decoded
reads-bits = (refl, refl, refl)

-- unless a START or STOP fell in that high phase; 515 comes before 513 and before 514 where bits are pending
pub reads-cut : (events-of (3 ∷ 1 ∷ 2 ∷ 3 ∷ 2 ∷ 3 ∷ 1 ∷ 0 ∷ 1 ∷ 3 ∷ []) ≡ 512 ∷ 515 ∷ 513 ∷ 514 ∷ 7 ∷ 7 ∷ [])
    × (events-of (3 ∷ 1 ∷ 2 ∷ 3 ∷ 0 ∷ 1 ∷ 3 ∷ []) ≡ 512 ∷ 515 ∷ 514 ∷ 7 ∷ 7 ∷ 7 ∷ [])
    × (reading (3 ∷ 1 ∷ 2 ∷ 3 ∷ 1 ∷ 0 ∷ []) ≡ Ok (read_as 2 true 0 0))
unfolding computed.decoded computed.read-into
reads-cut = (refl, refl, refl)

-- nine bits make an event, plus 256 if the ninth was high
pub reads_bytes :
    (events-of (3 ∷ 1 ∷ 0 ∷ 1 ∷ 0 ∷ 1 ∷ 0 ∷ 1 ∷ 0 ∷ 1 ∷ 0 ∷ 1 ∷ 0 ∷ 1 ∷ 2 ∷ 3 ∷ 0 ∷ 1 ∷ 2 ∷ 3 ∷ 0 ∷ [])
    ≡ 512 ∷ (256 + 2) ∷ 7 ∷ 7 ∷ 7 ∷ 7 ∷ [])
    × (events-of (3 ∷ 1 ∷ 0 ∷ 1 ∷ 0 ∷ 1 ∷ 0 ∷ 1 ∷ 0 ∷ 1 ∷ 0 ∷ 1 ∷ 0 ∷ 1 ∷ 2 ∷ 3 ∷ 0 ∷ 1 ∷ 0 ∷ 1 ∷ 0 ∷ [])
    ≡ 512 ∷ 2 ∷ 7 ∷ 7 ∷ 7 ∷ 7 ∷ [])
unfolding computed.decoded computed.read-into
reads_bytes = (refl, refl)

-- ---- its refusals 5, 6, 4, 7, 8, in that order, with the places of 4 and 7; the slice stays
-- 4,096 samples are read, 4,097 are 6 whatever their levels and stamps
pub reads-4096 : decoded (stamps_from 0 1 4096) (replicate 4096 3) 0 ≡ Ok (read_as 0 false 0 0)
unfolding computed.decoded
reads-4096 = refl

pub refuses-4097 : decoded (replicate 4097 0) (replicate 4097 4) 0 ≡ Err (refused_at 6 0)
unfolding computed.decoded
refuses-4097 = refl

pub refuses-in-order : (decoded (0 ∷ []) (4 ∷ 4 ∷ []) 0 ≡ Err (refused_at 5 0))
    × (decoded (0 ∷ 0 ∷ 0 ∷ []) (3 ∷ 3 ∷ 4 ∷ []) 0 ≡ Err (refused_at 4 2))
    × (decoded (0 ∷ 1 ∷ 1 ∷ []) (3 ∷ 1 ∷ 3 ∷ []) 0 ≡ Err (refused_at 7 2))
    × (decoded (5 ∷ 4 ∷ 3 ∷ []) (3 ∷ 1 ∷ 3 ∷ []) 0 ≡ Err (refused_at 7 1))
    × (decoded (0 ∷ 1 ∷ 2 ∷ []) (3 ∷ 1 ∷ 3 ∷ []) 1 ≡ Err (refused_at 8 0))
    × (decoded (0 ∷ 1 ∷ 2 ∷ []) (3 ∷ 1 ∷ 3 ∷ []) 2 ≡ Ok (read_as 2 false 0 0))
unfolding computed.decoded
refuses-in-order = (refl, refl, refl, refl, refl, refl)

pub refused-slice-stays : (buffer : List ℕ) → events_after (Err (refused_at 8 0)) (3 ∷ 1 ∷ 3 ∷ []) buffer ≡ buffer
refused-slice-stays buffer = refl

-- the numbers of an answer
pub numbers-read : (decoded_numbers (Ok (read_as 3 true 2 1))
    ≡ record { refusal = 0; place = 0; count = 3; framed = 1; pending = 2; value = 1 })
    × (decoded_numbers (Err (refused_at 7 5))
    ≡ record { refusal = 7; place = 5; count = 0; framed = 0; pending = 0; value = 0 })
numbers-read = (refl, refl)

-- ---- the writer: the drawing of a list in a slice of as many levels
abbrev drawing-of : List ℕ → ℕ → List ℕ
drawing-of events count = levels_after (encoded events 0 1 count count) events (replicate count 7)

-- 0 frames draw one level, 3
pub draws-nothing : (encoded [] 0 1 1 1 ≡ Ok 1) × (drawing-of [] 1 ≡ 3 ∷ [])
unfolding computed.encoded computed.drawn
draws-nothing = (refl, refl)

-- a repeated START draws 2, 3, 1; a ninth bit that is high draws 2, 3
pub draws-repeated : drawing-of (512 ∷ 0 ∷ 513 ∷ 511 ∷ 514 ∷ []) 44
    ≡ 3 ∷ 1 ∷ 0 ∷ 1 ∷ 0 ∷ 1 ∷ 0 ∷ 1 ∷ 0 ∷ 1 ∷ 0 ∷ 1 ∷ 0 ∷ 1 ∷ 0 ∷ 1 ∷ 0 ∷ 1 ∷ 0 ∷ 1
    ∷ 2 ∷ 3 ∷ 1 ∷ 2 ∷ 3 ∷ 2 ∷ 3 ∷ 2 ∷ 3 ∷ 2 ∷ 3 ∷ 2 ∷ 3 ∷ 2 ∷ 3 ∷ 2 ∷ 3 ∷ 2 ∷ 3 ∷ 2 ∷ 3 ∷ 0 ∷ 1 ∷ 3 ∷ []
unfolding computed.encoded computed.drawn
draws-repeated = refl

-- ---- its refusals 9, 10, 6, 11, 8, in that order
abbrev many : ℕ → List ℕ
many bytes = 512 ∷ replicate bytes 0 ++ 514 ∷ []

pub refuses-lists : (encoded (512 ∷ []) 0 0 0 0 ≡ Err (refused_at 9 0)) × (encoded (512 ∷ 514 ∷ []) 0 1 9 9 ≡ Err (refused_at 9 0))
    × (encoded (0 ∷ []) 0 1 9 9 ≡ Err (refused_at 9 0)) × (encoded (512 ∷ 0 ∷ 513 ∷ 514 ∷ []) 0 1 99 99 ≡ Err (refused_at 9 0))
    × (encoded (512 ∷ 0 ∷ 515 ∷ 514 ∷ []) 0 1 99 99 ≡ Err (refused_at 9 0))
    × (encoded (512 ∷ 516 ∷ 514 ∷ []) 0 1 99 99 ≡ Err (refused_at 9 0))
unfolding computed.encoded
refuses-lists = (refl, refl, refl, refl, refl, refl)

-- gaps 1 to 1,000
pub refuses-gaps : (encoded [] 0 0 0 0 ≡ Err (refused_at 10 0)) × (encoded [] 0 1001 0 0 ≡ Err (refused_at 10 0))
    × (encoded (many 228) 0 0 0 0 ≡ Err (refused_at 10 0)) × (encoded [] 0 1000 1 1 ≡ Ok 1)
unfolding computed.encoded
refuses-gaps = (refl, refl, refl, refl)

-- 4,091 samples are drawn, 4,109 are 6 whatever the stamps; the last stamp is at most 4,294,967,295
pub refuses-samples : (encoded (many 227) 0 1000 4091 4091 ≡ Ok 4091)
    × (encoded (many 228) 4294967295 1 0 0 ≡ Err (refused_at 6 0))
unfolding computed.encoded
refuses-samples = (refl, refl)

pub refuses-stamps : (encoded (many 1) 4294967274 1 0 0 ≡ Err (refused_at 11 0))
    × (encoded (many 1) 4294967273 1 23 23 ≡ Ok 23) × (encoded (many 1) 4294967273 1 22 23 ≡ Err (refused_at 8 0))
    × (encoded (many 1) 4294967273 1 23 22 ≡ Err (refused_at 8 0))
unfolding computed.encoded
refuses-stamps = (refl, refl, refl, refl)

pub refused-slices-stay : (stamps levels : List ℕ) → (stamps_after (Err (refused_at 8 0)) 0 1 stamps ≡ stamps)
    × (levels_after (Err (refused_at 8 0)) (many 1) levels ≡ levels)
refused-slices-stay stamps levels = (refl, refl)

pub numbers-drawn : (encoded_numbers (Ok 23) ≡ record { refusal = 0; count = 23 })
    × (encoded_numbers (Err (refused_at 9 0)) ≡ record { refusal = 9; count = 0 })
numbers-drawn = (refl, refl)
