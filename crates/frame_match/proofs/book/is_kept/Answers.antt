-- Past the last row there is nothing.
use Prim.Native.Nat.{◌+◌, ◌*◌, ◌≤◌}
use native.Mathlib.Omega.{arith}
use mathlib.Core.Path.{sym}
use lib.ListN.{length}
use borrow.Author.Tests.{le-ltb}
use Rattle.frame_match.proofs.book.is_kept.Goals as goal

pub returns-then-row-book : goal.returns-then-row-book
returns-then-row-book c =
    let args = c.args in
    let past : length args.book.now ≤ args.row * 8 + args.field = omega arith in
    sym (le-ltb _ _ past)

pub returns-then-field-book : goal.returns-then-field-book
returns-then-field-book c =
    let args = c.args in
    let past : length args.book.now ≤ args.row * 8 + args.field = omega arith in
    sym (le-ltb _ _ past)
