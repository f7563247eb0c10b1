-- `rig_lines::lists::place_of` meets its contract. The invariant: the lines that are passed are counted, and the word
-- stands as far on in the rest.
use Prim.Native.Nat.{◌+◌, ◌-◌, ◌≤◌}
use mathlib.Core.Path.{◌≡◌}
use Rattle.rig_lines.specs.Lists.{place_of}
use Rattle.rig_lines.proofs.lists.place_of.Given as goal

abbrev pub invariant-loop-place : goal.invariant-loop-place
invariant-loop-place l = (l.place ≤ 16) × (l.place + place_of (16 - l.place) l.rest l.word ≡ place_of 16 l.list l.word)
