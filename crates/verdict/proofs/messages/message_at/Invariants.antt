-- The messages passed so far end where the next one begins.
use Rattle.arbitration_messages.proofs.Walk.{At}
use Rattle.verdict.proofs.messages.message_at.Given as goal

abbrev pub invariant-loop-length : goal.invariant-loop-length
invariant-loop-length l = At l.lengths l.sent l.length-index l.from
