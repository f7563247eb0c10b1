-- `put_event` draws what the event's value says.
use Rattle.encode.proofs.Drawn.{draw-byte, draw-none}
use Rattle.encode.specs.Encode.{byte_bits, draw_bits, draw_event}
use Rattle.trace.specs.Events.{byte_event}
use mathlib.Core.List.{[], ◌∷◌, ◌++◌}
use mathlib.Core.Bool.{true, false}
use mathlib.Core.Path.{◌≡◌, refl}
use Prim.Native.Nat.{◌-◌}
use native.Mathlib.Omega.{arith}
use Rattle.encode.proofs.draw.put_event.Goals as goal

pub bounds-levels-at : goal.bounds-levels-at
unfolding draw_event
bounds-levels-at c = omega (arith, rw c.in-512.is at c.requires)

pub put_three-requires : goal.put_three-requires
unfolding draw_event
put_three-requires c = omega (arith, rw c.in-513.is at c.requires)

pub put_three-requires-in-514 : goal.put_three-requires-in-514
unfolding draw_event
put_three-requires-in-514 c = omega (arith, rw c.in-514.is at c.requires)

pub put_byte-requires : goal.put_byte-requires
unfolding byte_bits
put_byte-requires c =
    let event = c.args.event in
    let same : byte_event event false ≡ event = omega arith in
    let drawn : draw_event event ≡ draw_bits (byte_bits event ++ false ∷ []) =
    rw same at (draw-byte event false (omega arith)) in
    omega (arith, rw drawn at c.requires)

pub put_byte-requires-in-256-to-511 : goal.put_byte-requires-in-256-to-511
unfolding byte_bits
put_byte-requires-in-256-to-511 c =
    let event = c.args.event in
    let same : byte_event (event - 256) true ≡ event = omega arith in
    let drawn : draw_event event ≡ draw_bits (byte_bits (event - 256) ++ true ∷ []) =
    rw same at (draw-byte (event - 256) true (omega arith)) in
    omega (arith, rw drawn at c.requires)

pub returns-in-512 : goal.returns-in-512
unfolding draw_event
returns-in-512 c = rw c.in-512.is record { next = refl; stored = refl }

pub returns-in-513 : goal.returns-in-513
unfolding draw_event
returns-in-513 c = rw c.in-513.is c.put_three.ensures

pub returns-in-514 : goal.returns-in-514
unfolding draw_event
returns-in-514 c = rw c.in-514.is c.put_three-in-514.ensures

pub returns-in-515 : goal.returns-in-515
unfolding draw_event
returns-in-515 c = rw c.in-515.is record { next = omega arith; stored = refl }

pub returns-in-0-to-255 : goal.returns-in-0-to-255
unfolding byte_bits
returns-in-0-to-255 c =
    let event = c.args.event in
    let same : byte_event event false ≡ event = omega arith in
    let drawn : draw_event event ≡ draw_bits (byte_bits event ++ false ∷ []) =
    rw same at (draw-byte event false (omega arith)) in
    rw drawn record { next = refl; stored = c.put_byte.ensures }

pub returns-in-256-to-511 : goal.returns-in-256-to-511
unfolding byte_bits
returns-in-256-to-511 c =
    let event = c.args.event in
    let same : byte_event (event - 256) true ≡ event = omega arith in
    let drawn : draw_event event ≡ draw_bits (byte_bits (event - 256) ++ true ∷ []) =
    rw same at (draw-byte (event - 256) true (omega arith)) in
    rw drawn record { next = refl; stored = c.put_byte-in-256-to-511.ensures }

pub returns-in_default : goal.returns-in_default
returns-in_default c =
    let other = c.in_default.in_default-own.rest in
    rw (draw-none _ c.in_default.if-event-lt512-own.false other.0.0.0.1 other.0.0.1 other.0.1) record {
      next = omega arith;
      stored = refl;
    }
