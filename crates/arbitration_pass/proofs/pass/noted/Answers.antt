-- The lines, and AL where there is a place for it: what stands there already need not be stored.
use mathlib.Core.Path.{◌≡◌, sym, ap, ◌∙◌}
use mathlib.Core.Bool.{Bool, false, not, beq}
use mathlib.Core.List.{List}
use Prim.Native.Nat.{ℕ}
use lib.ListN.{get_or, set}
use lib.Seq.{set-get_or}
use Rattle.laws.proofs.Bools.{alike}
use Rattle.arbitration_pass.specs.Pass.{noted, lost_by}
use borrow.Author.Tests.{lt-ltb, le-ltb, not-false}
use Rattle.arbitration_pass.proofs.pass.noted.Goals as goal

stored-already : (al : List Bool) (i : ℕ) (lost : Bool) → not (beq (get_or al i false) lost) ≡ false → set al i lost
    ≡ al
stored-already al i lost same =
    ap (set al i) (sym (alike (get_or al i false) lost (not-false (beq (get_or al i false) lost) same))) ∙ set-get_or al i false

pub returns-then-seen-i : goal.returns-then-seen-i
unfolding noted
returns-then-seen-i c = rw (lt-ltb _ _ c.if-i-lt-MAX_MASTERS.true, c.lines-lines.ensures)

pub returns-else-seen-i : goal.returns-else-seen-i
unfolding noted
returns-else-seen-i c =
    let args = c.args in
    rw (
      lt-ltb _ _ c.if-i-lt-MAX_MASTERS.true,
      c.lines-lines.ensures,
      stored-already args.seen.al args.i (lost_by args.usi) c.if-seen-i.false,
    )

pub returns-else-i-lt-MAX_MASTERS : goal.returns-else-i-lt-MAX_MASTERS
unfolding noted
returns-else-i-lt-MAX_MASTERS c = rw (le-ltb _ _ c.if-i-lt-MAX_MASTERS.false, c.lines-lines.ensures)
