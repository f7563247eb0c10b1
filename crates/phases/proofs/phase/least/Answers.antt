-- The table by mode.
use Rattle.phases.proofs.phase.least.Goals as goal

pub returns-in-Unchecked : goal.returns-in-Unchecked
returns-in-Unchecked c = rw c.in-Unchecked.is

pub returns-in-Standard : goal.returns-in-Standard
returns-in-Standard c = rw c.in-Standard.is

pub returns-in-Fast : goal.returns-in-Fast
returns-in-Fast c = rw c.in-Fast.is
