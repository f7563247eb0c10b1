-- A START, a byte, or any other event.
use native.Mathlib.Omega.{arith}
use borrow.Author.Tests.{eq-eqb, ne_eqb, lt-ltb, le-ltb}
use Rattle.event_match.proofs.lists.byte_after.Goals as goal

pub returns-then-event-eq-START : goal.returns-then-event-eq-START
returns-then-event-eq-START c = rw (eq-eqb _ _ c.if-event-eq-START.true)

pub returns-then-event-lt-START : goal.returns-then-event-lt-START
returns-then-event-lt-START c = rw (ne_eqb _ _ c.if-event-eq-START.false, lt-ltb _ _ c.if-event-lt-START.true) (omega arith)

pub returns : goal.returns
returns c = rw (ne_eqb _ _ c.if-event-eq-START.false, le-ltb _ _ c.if-event-lt-START.false)
