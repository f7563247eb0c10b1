-- The bytes are those of the column.
use Rattle.arbitration_members.specs.Members.{loaded}
use Rattle.arbitration_members.proofs.members.Members.loaded.Goals as goal

pub returns : goal.returns
unfolding loaded
returns c = rw c.bytes_of-bytes.ensures
