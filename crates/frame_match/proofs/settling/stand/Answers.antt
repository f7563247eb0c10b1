-- `frame_match::settling::stand` meets its contract.
use Rattle.frame_match.proofs.settling.stand.Goals as goal

pub returns : goal.returns
returns c = cc
