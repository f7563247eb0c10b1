-- `text::words::after_line` meets its contract: a newline itself is left out.
use mathlib.Core.Path.{◌∙◌}
use Rattle.text.proofs.Runs.{counted-run, past-newline, past-last}
use Rattle.text.proofs.words.after_line.Goals as goal

pub returns-then-end-text : goal.returns-then-end-text
returns-then-end-text c = past-newline _ _ c.args.text.now (c.run_length-end.ensures.value ∙ counted-run _ _)

pub returns : goal.returns
returns c = past-last _ _ c.args.text.now (c.run_length-end.ensures.value ∙ counted-run _ _) c.if-end-text.false
