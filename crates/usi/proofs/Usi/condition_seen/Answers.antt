use Rattle.usi.proofs.Usi.condition_seen.Goals as goal

pub returns : goal.returns
returns c = cc
