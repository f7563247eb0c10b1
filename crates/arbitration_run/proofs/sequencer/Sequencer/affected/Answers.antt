-- The wire, the byte carried, and the masters.
use Rattle.arbitration_run.proofs.Cases.{same_byte}
use lib.ListN.{length}
use Prim.Native.Nat.{ℕ}
use Rattle.arbitration_run.specs.Sequence.{instant_of, carried_by, affected, carried_after, levels_after}
use mathlib.Core.Path.{ap}
use Rattle.arbitration_run.proofs.sequencer.Sequencer.affected.Goals as goal

pub returns : goal.returns
unfolding affected carried_after levels_after
returns c =
    let a = c.args in
    let room = length a.levels.now in
    let instant = c.instant-instant.ensures in
    let wire = c.affected-wire.ensures.0 in (
      rw (
        c.affected-members.ensures,
        c.carry-sent.ensures.0,
        wire,
        c.saw-shown.ensures,
        c.acknowledge_at.ensures,
        instant,
      ),
      rw (c.carry-sent.ensures.1, wire, c.saw-shown.ensures, c.acknowledge_at.ensures, instant)
          (ap (λ (byte : ℕ). carried_by (instant_of a.self).effect a.self.sent byte a.carried.now)
          (same_byte (instant_of a.self).effect room _ _)),
      rw (c.affected-wire.ensures.1, c.saw-shown.ensures, instant),
    )
