-- The low byte's write, and unless it was refused the high byte's.
use mathlib.Core.Path.{refl}
use Rattle.std.proofs.lemmas.Result.{err_from_is_err_and}
use borrow.Author.Tests.{ne_eqb}
use Rattle.laws.proofs.Branches.{branches}
use Rattle.usi.specs.Step.{write_word}
use Rattle.usi.proofs.Usi.stored_word.Goals as goal

pub returns-then-address-eq1 : goal.returns-then-address-eq1
unfolding write_word
returns-then-address-eq1 c = search branches

pub returns-in_err-low : goal.returns-in_err-low
unfolding write_word
returns-in_err-low c =
    let p = err_from_is_err_and c.from_residual.result c.from_residual.ensures.1 in
    rw (ne_eqb _ _ c.if-address-eq1.false, ← c.stored.ensures, c.in_err-low.was, p.1, p.2) refl

pub returns : goal.returns
unfolding write_word
returns c = rw (ne_eqb _ _ c.if-address-eq1.false, ← c.stored.ensures, c.in_ok-low.was) c.stored-2.ensures
