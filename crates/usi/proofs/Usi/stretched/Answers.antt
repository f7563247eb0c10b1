use Rattle.usi.proofs.Usi.stretched.Goals as goal

pub returns : goal.returns
returns c = cc
