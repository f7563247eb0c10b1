-- Each effect.
use lib.ListN.{length}
use Rattle.arbitration_run.specs.Wire.{taken}
use mathlib.Core.Path.{refl, ap, ◌∙◌}
use Rattle.arbitration_run.proofs.Cases.{wire-stays}
use Rattle.arbitration_run.proofs.wire.Wire.affected.Goals as goal

pub returns-in-Begin : goal.returns-in-Begin
returns-in-Begin c = rw c.in-Begin.is (c.begun.ensures, refl)

pub returns-in-Release : goal.returns-in-Release
returns-in-Release c = rw c.in-Release.is (c.pulling.ensures, refl)

pub returns-in-Acknowledge : goal.returns-in-Acknowledge
returns-in-Acknowledge c = rw c.in-Acknowledge.is (c.pulling-in-Acknowledge.ensures, refl)

pub returns-in-Record : goal.returns-in-Record
returns-in-Record c = rw c.in-Record.is (c.noted.ensures.0, c.noted.ensures.1)

pub returns-in-Bit : goal.returns-in-Bit
returns-in-Bit c = rw c.in-Bit.is (c.taken.ensures ∙ ap taken c.noted-in-Bit.ensures.0, c.noted-in-Bit.ensures.1)

pub returns-in_default : goal.returns-in_default
returns-in_default c =
    let a = c.args in
    wire-stays a.effect c.in_default.in_default-own.keys6 (length a.levels.now) a.acknowledge a.self a.levels.now
