-- `advance` follows the list's grammar by position and by the event's value.
use Rattle.encode.specs.Complete.{advance}
use native.Mathlib.Omega.{arith}
use borrow.Author.Tests.{ne_eqb, lt-ltb, le-ltb}
use Rattle.encode.proofs.frames.advance.Goals as goal

pub returns-in-512 : goal.returns-in-512
unfolding advance
returns-in-512 c = rw (c.in-Between.is, c.in-512.is)

pub returns-in_default : goal.returns-in_default
unfolding advance
returns-in_default c = rw (c.in-Between.is, ne_eqb _ _ c.in_default.in_default-own.rest.1)

pub returns-in-0-to-255 : goal.returns-in-0-to-255
unfolding advance
returns-in-0-to-255 c =
    let byte = lt-ltb c.args.event 512 (omega arith) in
    rw (c.in-Opened.is, byte)

pub returns-in-256-to-511 : goal.returns-in-256-to-511
unfolding advance
returns-in-256-to-511 c =
    let byte = lt-ltb c.args.event 512 (omega arith) in
    rw (c.in-Opened.is, byte)

pub returns-in_default-event : goal.returns-in_default-event
unfolding advance
returns-in_default-event c =
    let none = le-ltb c.args.event 512 (omega arith) in
    rw (c.in-Opened.is, none)

pub returns-in-513 : goal.returns-in-513
unfolding advance
returns-in-513 c = rw (c.in-Within.is, c.in-513.is)

pub returns-in-514 : goal.returns-in-514
unfolding advance
returns-in-514 c = rw (c.in-Within.is, c.in-514.is)

pub returns-in-0-to-255-event : goal.returns-in-0-to-255-event
unfolding advance
returns-in-0-to-255-event c =
    let byte = lt-ltb c.args.event 512 (omega arith) in
    rw (c.in-Within.is, byte)

pub returns-in-256-to-511-event : goal.returns-in-256-to-511-event
unfolding advance
returns-in-256-to-511-event c =
    let byte = lt-ltb c.args.event 512 (omega arith) in
    rw (c.in-Within.is, byte)

pub returns-in_default-event-2 : goal.returns-in_default-event-2
unfolding advance
returns-in_default-event-2 c =
    let none = le-ltb c.args.event 512 (omega arith) in
    let other = c.in_default-event-2.in_default-own.rest in
    rw (c.in-Within.is, none, ne_eqb _ _ other.0.1, ne_eqb _ _ other.1)

pub returns-in-Broken : goal.returns-in-Broken
unfolding advance
returns-in-Broken c = rw c.in-Broken.is
