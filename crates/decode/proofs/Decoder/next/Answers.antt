-- The cases of SCL, before and now.
use mathlib.Core.Path.{sym, ◌∙◌}
use Rattle.decode.proofs.Cases.{was-low}
use Rattle.decode.proofs.Decoder.next.Goals as goal

pub returns-then-not-scl : goal.returns-then-not-scl
returns-then-not-scl c = was-low _ _ _ (sym c.scl.ensures ∙ c.if-not-scl.true)
    (rw (← c.scl-scl.ensures) c.quiet.ensures)

pub high-requires : goal.high-requires
high-requires c = (
  sym c.scl.ensures ∙ c.if-not-scl.false,
  sym c.scl-scl.ensures
      ∙ c.if-scl.true,
)

pub fall-requires : goal.fall-requires
fall-requires c = (
  c.requires,
  sym c.scl.ensures ∙ c.if-not-scl.false,
  sym c.scl-scl.ensures ∙ c.if-scl.false,
)
