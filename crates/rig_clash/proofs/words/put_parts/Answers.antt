use Rattle.rig_lines.proofs.Words.{past_word}
use Rattle.rig_clash.proofs.words.put_parts.Goals as goal

pub loop-rest-smaller : goal.loop-rest-smaller
loop-rest-smaller c = past_word _ _ _ c.first_word.ensures c.after_word-rest.ensures c.loop-rest-test.true
