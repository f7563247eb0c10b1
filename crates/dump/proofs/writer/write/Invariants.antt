-- `dump::writer::write` meets its contract. The invariant: of the samples' text a front is put, and the samples that are left are the rest.
use mathlib.Core.Path.{◌≡◌}
use lib.ListN.{length, drop}
use Rattle.dump.specs.Text.{samples_after}
use Rattle.dump.proofs.Window.{Writing}
use Rattle.dump.proofs.writer.write.Given as goal

abbrev pub invariant-loop-stamp : goal.invariant-loop-stamp
invariant-loop-stamp l =
    (length l.line ≡ 18)
    × Writing l.initial.out l.initial.point (samples_after l.initial.last l.stamps l.levels)
    (samples_after l.last (drop (length l.yielded) l.stamps) (drop (length l.yielded) l.levels)) l.out l.point (length l.yielded)
