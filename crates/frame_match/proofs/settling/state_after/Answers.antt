-- `frame_match::settling::state_after` meets its contract.
use Rattle.frame_match.proofs.settling.state_after.Goals as goal

pub returns-in-Waiting : goal.returns-in-Waiting
returns-in-Waiting c = rw c.in-Waiting.is c.done_if.ensures

pub returns-in-Rehearsed : goal.returns-in-Rehearsed
returns-in-Rehearsed c = rw c.in-Rehearsed.is c.done_if-in-Rehearsed.ensures

pub returns-in-Different : goal.returns-in-Different
returns-in-Different c = rw c.in-Different.is c.done_if-in-Different.ensures
