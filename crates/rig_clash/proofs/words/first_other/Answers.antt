use Rattle.rig_lines.proofs.Words.{past_word}
use Rattle.rig_clash.proofs.words.first_other.Goals as goal

pub loop-kind-smaller : goal.loop-kind-smaller
loop-kind-smaller c = past_word _ _ _ c.first_word.ensures c.after_word-rest.ensures c.loop-kind-test.true
