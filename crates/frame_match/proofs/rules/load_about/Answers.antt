-- `frame_match::rules::load_about` meets its contract.
use Rattle.frame_match.proofs.rules.load_about.Goals as goal

pub returns-in-Waiting : goal.returns-in-Waiting
returns-in-Waiting c = rw c.in-Waiting.is c.load_of.ensures
