-- `text::words::after_word` meets its contract.
use mathlib.Core.Path.{◌∙◌}
use Rattle.text.specs.Words.{belongs}
use Rattle.text.specs.declared.words.Run.TheVariants.{Word}
use Rattle.text.proofs.Runs.{to_end, counted-run}
use Rattle.text.proofs.words.after_word.Goals as goal

pub returns : goal.returns
returns c = rw (to_end, c.run_length-end.ensures.value ∙ counted-run (belongs Word) c.from_word-word.result.now, c.from_word-word.ensures)
