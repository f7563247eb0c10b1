-- `text::words::first_line` meets its contract.
use mathlib.Core.Path.{sym, ◌∙◌}
use lib.Seq.{length-take-le}
use Rattle.text.specs.Words.{belongs}
use Rattle.text.specs.declared.words.Run.TheVariants.{Line}
use Rattle.text.proofs.Runs.{counted-run}
use Rattle.text.proofs.words.first_line.Goals as goal

pub slice_bounds-result-end : goal.slice_bounds-result-end
slice_bounds-result-end c = sym (length-take-le _ _ c.run_length-length.ensures.upper_bound)

pub returns : goal.returns
returns c = rw (c.run_length-length.ensures.value ∙ counted-run (belongs Line) c.args.text.now)
