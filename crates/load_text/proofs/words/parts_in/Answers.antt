-- `load_text::words::parts_in` meets its contract.
use Rattle.std.proofs.Common.{sym, ◌∙◌}
use Rattle.load_text.proofs.Fractions.{parts-found, no-slash}
use Rattle.load_text.proofs.words.parts_in.Goals as goal

pub returns-in_err-end : goal.returns-in_err-end
returns-in_err-end c = c.from_residual.ensures ∙ no-slash _ (sym c.in_err-end.was ∙ c.slash_at.ensures)

pub returns : goal.returns
returns c =
    parts-found _ _ _ _ _ (sym c.in_ok-end.was ∙ c.slash_at.ensures) c.decimal.ensures c.decimal-2.ensures
    c.parts_from.ensures
