-- A decoder that is not sound counts as idle.
use mathlib.Core.Path.{sym, ◌∙◌}
use Rattle.decode.specs.Stepping.{sounded}
use Rattle.decode.proofs.Sound.{idle-sound, sound-is}
use Rattle.decode.proofs.Decoder.step.Goals as goal

pub next-requires : goal.next-requires
next-requires c = sound-is _ (sym c.is_sound.ensures ∙ c.if-is_sound.true)

pub returns-then-is_sound : goal.returns-then-is_sound
unfolding sounded
returns-then-is_sound c = rw (← c.is_sound.ensures, c.if-is_sound.true) c.next.ensures

pub next-requires-2 : goal.next-requires-2
next-requires-2 c = rw c.idle.ensures idle-sound

pub returns : goal.returns
unfolding sounded
returns c = rw (← c.is_sound.ensures, c.if-is_sound.false, ← c.idle.ensures) c.next-2.ensures
