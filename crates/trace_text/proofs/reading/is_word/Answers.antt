-- `trace_text::reading::is_word` meets its contract.
use Rattle.trace_text.proofs.Names.{is-test}
use Rattle.trace_text.proofs.reading.is_word.Goals as goal

pub returns : goal.returns
returns c = is-test _ _ _ c.same.ensures
