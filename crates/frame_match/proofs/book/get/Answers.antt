-- The number is read where the book has it.
use Prim.Native.Nat.{◌+◌, ◌*◌, ◌≤◌, ◌<◌}
use native.Mathlib.Omega.{arith}
use mathlib.Core.Path.{sym}
use lib.ListN.{length, get_or-eq_default}
use borrow.Author.Tests.{ltb-true, ltb-false}
use Rattle.laws.proofs.Branches.{call-yes, call-no}
use Rattle.frame_match.proofs.book.get.Goals as goal

pub overflow_mul-result : goal.overflow_mul-result
overflow_mul-result c =
    let args = c.args in
    let less : args.row * 8 + args.field < length args.book.now =
    ltb-true _ _ (call-yes _ _ c.is_kept.ensures c.if-is_kept.true) in
    omega (arith, less)

pub overflow_add-result : goal.overflow_add-result
overflow_add-result c =
    let args = c.args in
    let less : args.row * 8 + args.field < length args.book.now =
    ltb-true _ _ (call-yes _ _ c.is_kept.ensures c.if-is_kept.true) in
    omega (arith, less)

pub offset_bounds-book-row : goal.offset_bounds-book-row
offset_bounds-book-row c =
    let args = c.args in
    let less : args.row * 8 + args.field < length args.book.now =
    ltb-true _ _ (call-yes _ _ c.is_kept.ensures c.if-is_kept.true) in
    omega (arith, less)

pub bounds-book-row : goal.bounds-book-row
bounds-book-row c = ltb-true _ _ (call-yes _ _ c.is_kept.ensures c.if-is_kept.true)

pub returns : goal.returns
returns c =
    let args = c.args in
    let past : length args.book.now ≤ args.row * 8 + args.field =
    ltb-false _ _ (call-no _ _ c.is_kept.ensures c.if-is_kept.false) in
    sym (get_or-eq_default args.book.now 0 past)
