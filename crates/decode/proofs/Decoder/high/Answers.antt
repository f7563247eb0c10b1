-- SCL stays high: SDA stays, falls or rises.
use mathlib.Core.Path.{refl, sym, ap, ◌∙◌}
use mathlib.Core.Bool.{not}
use Rattle.laws.proofs.Bools.{alike, unlike}
use Rattle.decode.proofs.Cases.{same_line, starting, stopping, unheard}
use Rattle.decode.proofs.Decoder.high.Goals as goal

pub returns-then-was-is : goal.returns-then-was-is
returns-then-was-is c = same_line _ _ _ c.requires.0 c.requires.1
    (sym c.sda-was.ensures ∙ alike c.sda-was.result _ c.if-was-is.true ∙ c.sda-is.ensures)
    c.quiet.ensures

pub returns-then-was : goal.returns-then-was
returns-then-was c = starting _ _ _ c.requires.0 c.requires.1 (sym c.sda-was.ensures ∙ c.if-was.true)
    (sym c.sda-is.ensures ∙ unlike c.sda-was.result _ c.if-was-is.false ∙ ap not c.if-was.true)
    c.condition.ensures.0 (rw (← c.start_event.ensures) c.condition.ensures.1)

pub returns-then-self : goal.returns-then-self
returns-then-self c = stopping _ _ _ c.requires.0 c.requires.1 (sym c.sda-was.ensures ∙ c.if-was.false)
    (sym c.sda-is.ensures ∙ unlike c.sda-was.result _ c.if-was-is.false ∙ ap not c.if-was.false)
    c.condition-then-self.ensures.0 c.if-self.true c.condition-then-self.ensures.1

pub returns : goal.returns
returns c = unheard _ _ _ c.requires.0 c.requires.1 (sym c.sda-was.ensures ∙ c.if-was.false)
    (sym c.sda-is.ensures ∙ unlike c.sda-was.result _ c.if-was-is.false ∙ ap not
    c.if-was.false) refl c.if-self.false refl
