-- `load_text::words::is_digits` meets its contract.
use Rattle.load_text.proofs.words.is_digits.Goals as goal

pub returns : goal.returns
returns c = cc
