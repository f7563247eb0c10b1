-- `load_text::words::acknowledge_in` meets its contract.
use Rattle.load_text.specs.Words.{acknowledge_in}
use Rattle.load_text.proofs.words.acknowledge_in.Goals as goal

pub returns : goal.returns
unfolding acknowledge_in
returns c = cc
