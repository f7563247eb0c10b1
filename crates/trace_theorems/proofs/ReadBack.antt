-- What encode draws, decode reads back: the same events, no frame open, nothing pending.
-- The decoder is a byte behind: a byte's ninth bit is taken, and the byte listed, at the first sample of what follows.
use Prim.Native.Nat.{ℕ}
use native.Mathlib.Omega.{arith}
use mathlib.Core.Path.{◌≡◌, refl, sym, ◌∙◌, ap}
use mathlib.Core.Bool.{Bool, true, false}
use mathlib.Core.List.{List, [], ◌∷◌, ◌++◌, append-nil}
use borrow.Author.Tests.{ltb-true}
use Rattle.decode.specs.declared.Decoder.{Decoder}
use Rattle.encode.specs.declared.Position.{Position}
use Rattle.encode.specs.declared.Position.TheVariants.{Between, Opened, Within, Broken}
use Rattle.levels.specs.Levels.{starts, stops}
use Rattle.trace.specs.Events.{is_byte, byte_event, start_event, repeated_start_event, stop_event}
use Rattle.decode.specs.Decode.{idle, takes, with_bit, next, cut, lists, events, final}
use Rattle.encode.specs.Complete.{complete, Completes, ended, start, first, more, again, stop}
use Rattle.bits.specs.Positions.{is_set}
use Rattle.encode.specs.Encode.{bits_below, byte_bits, draw_bit, draw_event, draw_events, drawing}
use Rattle.encode.proofs.Grammar.{completes}
use Rattle.trace_theorems.proofs.Bits.{number_from, event-of-bits}
use Rattle.trace_theorems.proofs.Reading.{Reads, then-reads, between, opened, showing}
use Rattle.trace_theorems.proofs.Reading.{first-bit, bit-after-byte, bits-within}

-- a byte, from wherever a first bit can be read
byte_reads : (from : Decoder) (listed : List ℕ) → ((bit : Bool) → Reads from (draw_bit bit) listed (showing bit 0 0))
    → (event : ℕ) → is_byte event ≡ true
    → Reads from (draw_event event) listed (showing (is_set 8 event) 8 (number_from 0 (byte_bits event)))
unfolding draw_event byte_bits
byte_reads from listed begins event byte =
    rw (byte, ← append-nil listed)
    (then-reads (begins (is_set 7 event))
    (bits-within (bits_below 7 event) (is_set 7 event) (is_set 8 event) 0 0 (omega arith)))

start-reads : (marked : Bool) → Reads (between marked) (draw_event start_event) (start_event ∷ []) opened
unfolding draw_event starts stops takes with_bit next cut lists
start-reads marked = record { lists-them = refl; ends_at = refl }

again-reads : (ninth : Bool) (value : ℕ)
    → Reads (showing ninth 8 value) (draw_event repeated_start_event)
    (byte_event value ninth ∷ repeated_start_event ∷ []) opened
unfolding draw_event starts stops takes with_bit next cut lists
again-reads true value = record { lists-them = refl; ends_at = refl }
again-reads false value = record { lists-them = refl; ends_at = refl }

stop-reads : (ninth : Bool) (value : ℕ)
    → Reads (showing ninth 8 value) (draw_event stop_event) (byte_event value ninth ∷ stop_event ∷ []) (between true)
unfolding draw_event starts stops takes with_bit next cut lists
stop-reads true value = record { lists-them = refl; ends_at = refl }
stop-reads false value = record { lists-them = refl; ends_at = refl }

-- the decoder at a position of the list, and the byte that it has still to list there
abbrev stands : Position → Bool → ℕ → Decoder
stands Between bit value = between bit
stands Opened bit value = opened
stands Within bit value = showing bit 8 value
stands Broken bit value = idle

abbrev owed : Position → Bool → ℕ → List ℕ
owed Between bit value = []
owed Opened bit value = []
owed Within bit value = byte_event value bit ∷ []
owed Broken bit value = []

-- a byte that was drawn is owed as the event that it was drawn for
drawn-byte : (event : ℕ) (rest : List ℕ) → is_byte event ≡ true
    → owed Within (is_set 8 event) (number_from 0 (byte_bits event)) ++ rest ≡ event ∷ rest
drawn-byte event rest byte = ap (λ (e : ℕ). e ∷ rest) (event-of-bits event (ltb-true event 512 byte))

-- these levels list these events, and after them no frame is open
record Settles (from : Decoder) (levels : List ℕ) (list : List ℕ) : Type 0 where
  marked : Bool
  reads : Reads from levels list (between marked)

then-settles : {from via : Decoder} {levels others list more : List ℕ}
    → Reads from levels list via → Settles via others more → Settles from (levels ++ others) (list ++ more)
then-settles reads settles = record { marked = settles.marked; reads = then-reads reads settles.reads }

-- from each position the rest of the list is read back, after the byte that is owed
reads-rest : {position : Position} {rest : List ℕ} → Completes position rest → (bit : Bool) (value : ℕ)
    → Settles (stands position bit value) (draw_events rest) (owed position bit value ++ rest)
reads-rest ended bit value = record { marked = bit; reads = record { lists-them = refl; ends_at = refl } }
reads-rest (start rest) bit value = then-settles (start-reads bit) (reads-rest rest bit value)
reads-rest (first {event} {events} byte rest) bit value =
    then-settles (byte_reads opened [] first-bit event byte)
    (rw (drawn-byte event events byte) at (reads-rest rest (is_set 8 event) (number_from 0 (byte_bits event))))
reads-rest (more {event} {events} byte rest) bit value =
    then-settles (byte_reads (showing bit 8 value) (owed Within bit value) (bit-after-byte bit value) event byte)
    (rw (drawn-byte event events byte) at (reads-rest rest (is_set 8 event) (number_from 0 (byte_bits event))))
reads-rest (again rest) bit value = then-settles (again-reads bit value) (reads-rest rest bit value)
reads-rest (stop rest) bit value = then-settles (stop-reads bit value) (reads-rest rest true value)

-- level 3 comes first, and is only remembered
first-level : Reads idle (3 ∷ []) [] (between false)
unfolding starts stops takes with_bit next cut lists
first-level = record { lists-them = refl; ends_at = refl }

reads-drawing : (list : List ℕ) → complete list ≡ true → Settles idle (drawing list) list
reads-drawing list whole = then-settles first-level (reads-rest (completes Between list whole) false 0)

pub events-back : (list : List ℕ) → complete list ≡ true → events (drawing list) ≡ list
events-back list whole = (reads-drawing list whole).reads.lists-them

pub frame_closed : (list : List ℕ) → complete list ≡ true → (final (drawing list)).framed ≡ false
frame_closed list whole = rw (reads-drawing list whole).reads.ends_at

pub none-pending : (list : List ℕ) → complete list ≡ true → (final (drawing list)).pending ≡ 0
none-pending list whole = rw (reads-drawing list whole).reads.ends_at

pub value-zero : (list : List ℕ) → complete list ≡ true → (final (drawing list)).value ≡ 0
value-zero list whole = rw (reads-drawing list whole).reads.ends_at

-- so no two complete lists have one drawing
pub drawing-injective : (list other : List ℕ) → complete list ≡ true → complete other ≡ true
    → drawing list ≡ drawing other → list ≡ other
drawing-injective list other whole all same = sym (events-back list whole) ∙ ap events same ∙ events-back other all
