-- Two bytes by a bit, any others as a whole.
use mathlib.Core.Path.{◌∙◌}
use Rattle.event_match.specs.Match.{part_of}
use Rattle.event_match.proofs.parts.part_of.Goals as goal

pub returns-then-event-other : goal.returns-then-event-other
unfolding part_of
returns-then-event-other c = c.first_bit.ensures ∙ rw c.if-event-other.true

pub returns : goal.returns
unfolding part_of
returns c = rw c.if-event-other.false
