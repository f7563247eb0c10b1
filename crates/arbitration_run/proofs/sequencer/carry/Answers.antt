-- A byte is carried with its last bit.
use Rattle.arbitration_run.proofs.Cases.{not-stored}
use Rattle.laws.proofs.Bools.{both}
use borrow.Author.Tests.{ltb-true}
use lib.ListN.{length}
use lib.Dec.{eqb, ltb}
use native.Mathlib.Omega.{arith}
use mathlib.Core.Path.{refl}
use Rattle.arbitration_run.proofs.sequencer.carry.Goals as goal

pub bounds-carried-sent : goal.bounds-carried-sent
bounds-carried-sent c =
    let a = c.args in
    let bit = c.in-Bit.bit in
    let two = both (eqb bit 7) (ltb a.sent (length a.carried.now)) c.if-bit-sent.true in
    ltb-true a.sent (length a.carried.now) two.1

pub overflow_add-result : goal.overflow_add-result
overflow_add-result c =
    let a = c.args in
    let bit = c.in-Bit.bit in
    let two = both (eqb bit 7) (ltb a.sent (length a.carried.now)) c.if-bit-sent.true in
    omega (arith, ltb-true a.sent (length a.carried.now) two.1)

pub returns-then-bit-sent : goal.returns-then-bit-sent
returns-then-bit-sent c =
    let a = c.args in
    let bit = c.in-Bit.bit in
    let two = both (eqb bit 7) (ltb a.sent (length a.carried.now)) c.if-bit-sent.true in
    rw (c.in-Bit.is, two.0, two.1) (refl, refl)

pub returns-else-bit-sent : goal.returns-else-bit-sent
returns-else-bit-sent c =
    let a = c.args in
    let bit = c.in-Bit.bit in
    rw c.in-Bit.is
    (rw c.if-bit-sent.false, not-stored bit a.sent a.byte a.carried.now c.if-bit-sent.false)
