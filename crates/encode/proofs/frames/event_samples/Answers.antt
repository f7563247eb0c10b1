-- `event_samples` goes by the event's value.
use Rattle.encode.specs.Encode.{event_samples}
use native.Mathlib.Omega.{arith}
use borrow.Author.Tests.{ne_eqb, lt-ltb, le-ltb}
use Rattle.encode.proofs.frames.event_samples.Goals as goal

pub returns-in-512 : goal.returns-in-512
unfolding event_samples
returns-in-512 c = rw c.in-512.is

pub returns-in-513 : goal.returns-in-513
unfolding event_samples
returns-in-513 c = rw c.in-513.is

pub returns-in-514 : goal.returns-in-514
unfolding event_samples
returns-in-514 c = rw c.in-514.is

pub returns-in-515 : goal.returns-in-515
unfolding event_samples
returns-in-515 c = rw c.in-515.is

pub returns-in-0-to-255 : goal.returns-in-0-to-255
unfolding event_samples
returns-in-0-to-255 c =
    let event = c.args.event in
    rw (ne_eqb event 512 (λ e. omega arith), lt-ltb event 512 (omega arith), ne_eqb event 513 (λ e. omega arith))

pub returns-in-256-to-511 : goal.returns-in-256-to-511
unfolding event_samples
returns-in-256-to-511 c =
    let event = c.args.event in
    rw (ne_eqb event 512 (λ e. omega arith), lt-ltb event 512 (omega arith), ne_eqb event 513 (λ e. omega arith))

pub returns-in_default : goal.returns-in_default
unfolding event_samples
returns-in_default c =
    let event = c.args.event in
    let other = c.in_default.in_default-own.rest in
    rw (ne_eqb event 512 other.0.0.0.1, le-ltb event 512 (omega arith), ne_eqb event 513 other.0.0.1)
