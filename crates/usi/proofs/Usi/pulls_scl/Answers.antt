-- The composition of what the calls answer.
use Rattle.usi.proofs.Usi.pulls_scl.Goals as goal

pub returns : goal.returns
returns c = cc
