-- The bits passed, from the most significant, are the same.
use mathlib.Core.Path.{◌≡◌}
use Rattle.event_match.specs.Match.{first_bit}
use Rattle.event_match.proofs.parts.first_bit.Given as goal

abbrev pub invariant-loop-position : goal.invariant-loop-position
invariant-loop-position l = first_bit 8 l.event l.other ≡ first_bit l.position l.event l.other
