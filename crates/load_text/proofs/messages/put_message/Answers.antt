-- `load_text::messages::put_message` meets its contract.
use Rattle.text.proofs.Putting.{put_as}
use Rattle.load_text.proofs.Handing.{unless-silent, unless_not}
use Rattle.load_text.proofs.messages.put_message.Goals as goal

pub returns-then-silent : goal.returns-then-silent
returns-then-silent c = put_as _ _ (unless-silent _ _ c.if-silent.true)
    c.put_bytes.ensures

pub returns : goal.returns
returns c = put_as _ _ (unless_not _ _ c.if-silent.false)
    c.put_bytes-2.ensures
