-- `frame_match::rules::next_after` meets its contract.
use Rattle.frame_match.proofs.rules.next_after.Goals as goal

pub returns-in-Rehearsed : goal.returns-in-Rehearsed
returns-in-Rehearsed c = rw c.in-Rehearsed.is c.next_from.ensures

pub returns-in-Different : goal.returns-in-Different
returns-in-Different c = rw c.in-Different.is c.next_from-in-Different.ensures
