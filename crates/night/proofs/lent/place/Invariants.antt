-- After i turns the first i modules are in the table.
use Rattle.std.proofs.Common.{◌≡◌}
use Rattle.night.specs.Lent.{placed}
use Rattle.night.proofs.lent.place.Given as goal

abbrev pub invariant-loop-i : goal.invariant-loop-i
invariant-loop-i l = l.table ≡ placed l.i l.ended.modules l.initial.table
