-- `frame_match::settling::settle_board` meets its contract.
use Rattle.frame_match.proofs.settling.settle_board.Goals as goal

pub returns : goal.returns
returns c = cc
