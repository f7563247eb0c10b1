-- Within the acknowledges, and past them.
use lib.ListN.{get_or-eq_default}
use mathlib.Core.Path.{refl, sym}
use Rattle.arbitration_run.proofs.sequencer.acknowledge_at.Goals as goal

pub returns-then-index-acks : goal.returns-then-index-acks
returns-then-index-acks c = refl

pub returns : goal.returns
returns c = sym (get_or-eq_default c.args.acks.now 0 c.if-index-acks.false)
