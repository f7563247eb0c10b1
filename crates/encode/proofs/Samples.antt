-- The count 1 + 4f + 18n + 3r is the length of the drawing: a START takes one sample, a STOP three, and each frame
-- has both.
use Prim.Native.Nat.{ℕ, ◌+◌, ◌<◌}
use native.Mathlib.Omega.{arith}
use mathlib.Core.Path.{◌≡◌, refl}
use mathlib.Core.Bool.{true}
use mathlib.Core.List.{List, ◌∷◌}
use lib.ListN.{length, length-append}
use borrow.Author.Tests.{ltb-true, ne_eqb}
use Rattle.encode.specs.declared.Position.{Position}
use Rattle.encode.specs.declared.Position.TheVariants.{Between, Opened, Within, Broken}
use Rattle.trace.specs.Events.{is_byte}
use Rattle.encode.specs.Complete.{complete, Completes, ended, start, first, more, again, stop}
use Rattle.encode.specs.Encode.{byte_bits, draw_event, draw_events, drawing, sample_count}
use Rattle.encode.proofs.Grammar.{completes}

-- in a frame, the samples of the STOP that closes it
abbrev closing : Position → ℕ
closing Between = 0
closing Opened = 3
closing Within = 3
closing Broken = 0

pub byte-length : (event : ℕ) → is_byte event ≡ true → length (draw_event event) ≡ 18
unfolding draw_event byte_bits
byte-length event byte = rw byte

-- a byte is no START
byte-samples : (event : ℕ) (list : List ℕ) → is_byte event ≡ true → sample_count (event ∷ list) ≡ 18 + sample_count list
byte-samples event list byte =
    let small : event < 512 = ltb-true event 512 byte in
    rw (byte, ne_eqb event 512 (λ e. omega arith), ne_eqb event 513 (λ e. omega arith)) (omega arith)

byte-adds : (event extra : ℕ) (list : List ℕ) → is_byte event ≡ true
    → length (drawing list) ≡ extra + sample_count list
    → length (drawing (event ∷ list)) ≡ extra + sample_count (event ∷ list)
byte-adds event extra list byte rest =
    let more : length (draw_events (event ∷ list)) ≡ length (draw_event event) + length (draw_events list) =
    length-append (draw_event event) (draw_events list) in
    omega (arith, byte-length event byte, byte-samples event list byte)

-- the rest of a list, from each position
rest-length : {position : Position} {list : List ℕ} → Completes position list
    → length (drawing list) ≡ closing position + sample_count list
unfolding draw_event
rest-length ended = refl
rest-length (start rest) = omega (arith, rest-length rest)
rest-length (first {event} {events} byte rest) = byte-adds event 3 events byte (rest-length rest)
rest-length (more {event} {events} byte rest) = byte-adds event 3 events byte (rest-length rest)
rest-length (again rest) = omega (arith, rest-length rest)
rest-length (stop rest) = omega (arith, rest-length rest)

pub drawing-length : (list : List ℕ) → complete list ≡ true → length (drawing list) ≡ sample_count list
drawing-length list whole = omega (arith, rest-length (completes Between list whole))
