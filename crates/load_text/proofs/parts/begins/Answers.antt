-- `load_text::parts::begins` meets its contract.
use borrow.Author.Tests.{ne_eqb}
use Rattle.load_text.proofs.Begun.{part-begins}
use borrow.Author.Rules.{rules}
use Rattle.load_text.proofs.parts.begins.Goals as goal

pub returns-else-start-eq0 : goal.returns-else-start-eq0
returns-else-start-eq0 c = record {
  value = part-begins c.args.start (ne_eqb _ _ c.if-start-eq0.false);
  upper_bound = search rules;
}
