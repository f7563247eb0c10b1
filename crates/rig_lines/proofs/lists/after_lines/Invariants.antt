-- `rig_lines::lists::after_lines` meets its contract. The invariant: what is left to pass leads to the same text.
use Prim.Native.Nat.{◌-◌}
use mathlib.Core.Path.{◌≡◌}
use Rattle.rig_lines.specs.Lists.{after_lines}
use Rattle.rig_lines.proofs.lists.after_lines.Given as goal

abbrev pub invariant-loop : goal.invariant-loop
invariant-loop l = after_lines l.n l.list ≡ after_lines (l.n - l.counter) l.rest
