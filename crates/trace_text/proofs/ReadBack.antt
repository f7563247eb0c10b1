-- An event's words are read as the same event.
use mathlib.Core.Path.{◌≡◌, refl}
use mathlib.Core.Bool.{Bool, true, false, ◌&&◌}
use Prim.Native.Nat.{ℕ, ◌<◌}
use lib.Dec.{eqb}
use borrow.Author.Tests.{eqb-true}
use Rattle.laws.proofs.Bools.{both}
use Rattle.laws.proofs.Search.{all_below, all-below}
use Rattle.text.specs.Output.{digit_byte, hex_text}
use Rattle.text.specs.Words.{run_length}
use Rattle.text.specs.Numbers.{digit_value, all_digits, value_after, fitting, number_in}
use Rattle.rig_lines.specs.Numbers.{byte_in}
use Rattle.trace_text.specs.Events.{direction_text, acknowledge_text, byte_text, event_text}
use Rattle.laws.specs.Same.{same}
use Rattle.trace_text.specs.Words.{alone_in, acknowledged_in, directed_in, follows_byte}
use Rattle.trace_text.specs.Words.{transfer_in, pair_in, said_in}
use Rattle.trace_text.specs.declared.reading.Said.{Said}
use Rattle.trace_text.specs.declared.reading.Said.TheVariants.{Event, Numbers, Malformed, WrongDirection}

-- whether a line says that event
says : ℕ → Said → Bool
says event (Event other) = eqb other event
says event Numbers = false
says event Malformed = false
says event WrongDirection = false

said : (event : ℕ) (what : Said) → says event what ≡ true → what ≡ Event event
unfolding says
said event (Event other) e = rw (eqb-true other event e)
said event Numbers e = cc
said event Malformed e = cc
said event WrongDirection e = cc

-- every event, as the byte after a START and as any other
back : ℕ → Bool
back event = says event (said_in (event_text false event)) && says event (said_in (event_text true event))

all_back : all_below back 516 ≡ true
unfolding back says event_text byte_text direction_text acknowledge_text hex_text digit_byte
    said_in same alone_in acknowledged_in directed_in transfer_in pair_in run_length byte_in
    number_in all_digits value_after fitting digit_value follows_byte
all_back = refl

-- what `show` puts `parse` reads
pub read_back : (addressed : Bool) (event : ℕ) → event < 516 → said_in (event_text addressed event) ≡ Event event
unfolding back
read_back addressed event less = by-case addressed (both _ _ (all-below back 516 all_back event less))
  where
    by-case : (addressed : Bool)
        → (says event (said_in (event_text false event)) ≡ true) × (says event (said_in (event_text true event)) ≡ true)
        → said_in (event_text addressed event) ≡ Event event
    by-case false two = said event _ two.0
    by-case true two = said event _ two.1
