-- There are no more events than samples.
use native.Mathlib.Omega.{arith}
use mathlib.Core.Path.{sym}
use Prim.Native.Nat.{◌≤◌}
use lib.ListN.{length}
use Rattle.decode.specs.Decode.{events}
use borrow.Author.Tests.{le-ltb}
use Rattle.decode.proofs.Bounds.{events-length}
use Rattle.decode.proofs.listing.short.Goals as goal

pub returns-then-levels-room : goal.returns-then-levels-room
returns-then-levels-room c =
    let levels = c.args.levels.now in
    let fits : length (events levels) ≤ c.args.room = omega (arith, events-length levels) in
    sym (le-ltb _ _ fits)

pub returns : goal.returns
returns c = rw c.count_events.ensures
