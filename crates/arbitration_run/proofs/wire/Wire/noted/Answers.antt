-- Recorded where there is room.
use lib.Seq.{set_out}
use borrow.Author.Tests.{lt-ltb, le-ltb}
use mathlib.Core.Path.{refl, sym}
use Rattle.arbitration_run.proofs.wire.Wire.noted.Goals as goal

pub returns-then-recorded-levels : goal.returns-then-recorded-levels
returns-then-recorded-levels c = (rw (lt-ltb _ _ c.if-recorded-levels.true), refl)

pub returns-else-recorded-levels : goal.returns-else-recorded-levels
returns-else-recorded-levels c =
    let a = c.args in (
      rw (le-ltb _ _ c.if-recorded-levels.false),
      sym (set_out a.levels.now a.self.recorded a.self.level
          c.if-recorded-levels.false),
    )
