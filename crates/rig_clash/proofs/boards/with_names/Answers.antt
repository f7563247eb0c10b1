use Rattle.rig_lines.proofs.Words.{past_word}
use borrow.Author.Rules.{rules}
use Rattle.rig_clash.proofs.boards.with_names.Goals as goal

pub loop-rest-smaller : goal.loop-rest-smaller
loop-rest-smaller c = search (rules, past_word)
