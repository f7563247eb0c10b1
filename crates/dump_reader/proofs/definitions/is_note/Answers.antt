-- `dump_reader::definitions::is_note` meets its contract.
use Rattle.dump_reader.specs.Definitions.{note}
use Rattle.dump_reader.proofs.definitions.is_note.Goals as goal

pub returns : goal.returns
unfolding note
returns c = cc
