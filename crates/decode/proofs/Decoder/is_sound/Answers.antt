-- A value fits in so many bits where none is left above them.
use borrow.Author.Tests.{le-leb, lt-leb}
use Rattle.decode.proofs.Decoder.is_sound.Goals as goal

pub returns-then-self-le8 : goal.returns-then-self-le8
returns-then-self-le8 c = rw (le-leb _ _ c.if-self-le8.true)

pub returns : goal.returns
returns c = rw (lt-leb _ _ c.if-self-le8.false)
