-- The night after as many rounds as there were.
use Prim.Native.Nat.{◌-◌, ◌≤◌}
use mathlib.Core.Path.{◌≡◌}
use lib.ListN.{length, replicate}
use Rattle.arbitration_rules.specs.Limits.{max_masters}
use Rattle.arbitration_rules.specs.Reply.{asked, messages_of}
use Rattle.night_rules.specs.Different.{different}
use Rattle.night_rules.proofs.Rounds.{night_at}
use Rattle.night.specs.Carried.{standing_of}
use Rattle.night.proofs.rounds.all_rounds.Given as goal

abbrev pub invariant-loop-standing : goal.invariant-loop-standing
invariant-loop-standing l = let request = asked l.bytes l.parts l.counts l.acks in
    (l.standing.count ≤ length (different (messages_of request)))
    × (l.standing
    ≡ standing_of request (replicate max_masters 0)
    (night_at (messages_of request) l.initial.standing.modules l.standing.count))

abbrev pub decreases-loop-standing : goal.decreases-loop-standing
decreases-loop-standing l = length (different (messages_of (asked l.bytes l.parts l.counts l.acks))) - l.standing.count
