-- Both lists have an event at the index, or one ends.
use Rattle.event_match.specs.Match.{part_at}
use Rattle.event_match.proofs.parts.part_at.Goals as goal

pub returns-in-Some-Some : goal.returns-in-Some-Some
unfolding part_at
returns-in-Some-Some c =
    let one = c.in-Some-Some.ensures.lookup in
    let two = c.in-Some-Some.ensures'.lookup in
    rw (← one.0, ← two.0, ← one.3.1 0, ← two.3.1 0) c.part_of.ensures

pub returns-in_default : goal.returns-in_default
unfolding part_at
returns-in_default c = rw (← c.in_default.ensures.lookup.0, ← c.in_default.ensures'.lookup.0)

pub returns-in_default-2 : goal.returns-in_default-2
unfolding part_at
returns-in_default-2 c = rw (← c.in_default.ensures.lookup.0)
