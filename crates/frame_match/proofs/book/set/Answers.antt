-- The number is written where the book has it.
use Prim.Native.Nat.{◌+◌, ◌*◌, ◌≤◌, ◌<◌}
use native.Mathlib.Omega.{arith}
use mathlib.Core.Path.{sym}
use lib.ListN.{length}
use lib.Seq.{set_out}
use borrow.Author.Tests.{ltb-true, ltb-false}
use Rattle.laws.proofs.Branches.{call-yes, call-no}
use Rattle.frame_match.proofs.book.set.Goals as goal

pub overflow_mul-book : goal.overflow_mul-book
overflow_mul-book c =
    let args = c.args in
    let less : args.row * 8 + args.field < length args.book.now =
    ltb-true _ _ (call-yes _ _ c.is_kept.ensures c.if-is_kept.true) in
    omega (arith, less)

pub overflow_add-book : goal.overflow_add-book
overflow_add-book c =
    let args = c.args in
    let less : args.row * 8 + args.field < length args.book.now =
    ltb-true _ _ (call-yes _ _ c.is_kept.ensures c.if-is_kept.true) in
    omega (arith, less)

pub offset_bounds-book-row : goal.offset_bounds-book-row
offset_bounds-book-row c =
    let args = c.args in
    let less : args.row * 8 + args.field < length args.book.now =
    ltb-true _ _ (call-yes _ _ c.is_kept.ensures c.if-is_kept.true) in
    omega (arith, less)

pub bounds-book-row : goal.bounds-book-row
bounds-book-row c = ltb-true _ _ (call-yes _ _ c.is_kept.ensures c.if-is_kept.true)

pub returns-then-is_kept : goal.returns-then-is_kept
returns-then-is_kept c = rw c.narrow.ensures

pub returns-else-is_kept : goal.returns-else-is_kept
returns-else-is_kept c =
    let args = c.args in
    let past : length args.book.now ≤ args.row * 8 + args.field =
    ltb-false _ _ (call-no _ _ c.is_kept.ensures c.if-is_kept.false) in
    sym (set_out args.book.now (args.row * 8 + args.field) _ past)
