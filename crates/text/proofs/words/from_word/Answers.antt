-- `text::words::from_word` meets its contract.
use mathlib.Core.Path.{◌∙◌}
use Rattle.text.specs.Words.{belongs}
use Rattle.text.specs.declared.words.Run.TheVariants.{Blanks}
use Rattle.text.proofs.Runs.{to_end, counted-run}
use Rattle.text.proofs.words.from_word.Goals as goal

pub returns : goal.returns
returns c = rw (to_end, c.run_length-start.ensures.value ∙ counted-run (belongs Blanks) c.args.line.now)
