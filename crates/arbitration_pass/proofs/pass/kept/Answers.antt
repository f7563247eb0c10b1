-- Who lost, and who did not.
use Rattle.arbitration_pass.proofs.pass.kept.Goals as goal

pub returns-then-lost : goal.returns-then-lost
returns-then-lost c = rw c.if-lost.true c.yielded.ensures

pub returns : goal.returns
returns c = rw c.if-lost.false
