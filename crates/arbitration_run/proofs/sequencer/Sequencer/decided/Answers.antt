-- Step 4, or the next byte.
use Rattle.arbitration_members.specs.Members.{through}
use lib.ListN.{get_or}
use lib.Dec.{eqb}
use mathlib.Core.Bool.{true, false, ◌||◌}
use Prim.Native.Nat.{◌+◌}
use Rattle.arbitration_run.specs.Sequence.{decided}
use borrow.Author.Tests.{lt-ltb, le-ltb}
use mathlib.Core.Path.{◌≡◌}
use Rattle.arbitration_run.proofs.sequencer.Sequencer.decided.Goals as goal

pub returns-then-refused-through : goal.returns-then-refused-through
unfolding decided
returns-then-refused-through c =
    let a = c.args in
    let done : eqb (get_or a.acks.now a.self.index 0) 1
    || through (a.self.index + 1) a.self.members ≡ true =
    rw (← c.through.ensures) c.if-refused-through.true in
    rw (lt-ltb _ _ c.if-index-acks.true, done) c.entering.ensures

pub returns-then-index-acks : goal.returns-then-index-acks
unfolding decided
returns-then-index-acks c =
    let a = c.args in
    let more : eqb (get_or a.acks.now a.self.index 0) 1
    || through (a.self.index + 1) a.self.members ≡ false =
    rw (← c.through.ensures) c.if-refused-through.false in
    rw (lt-ltb _ _ c.if-index-acks.true, more) c.opened.ensures

pub returns : goal.returns
unfolding decided
returns c = rw (le-ltb _ _ c.if-index-acks.false) c.entering-2.ensures
