-- The boards passed so far are not in or have the message.
use Rattle.verdict.proofs.Agreeing.{Agreeing}
use Rattle.verdict.proofs.contenders.agree.Given as goal

abbrev pub invariant-loop-i : goal.invariant-loop-i
invariant-loop-i l = Agreeing l.message l.seats l.lengths l.sent l.i l.from
