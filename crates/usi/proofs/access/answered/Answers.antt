-- The step's refusal, or its module and what the flags lost.
use mathlib.Core.Path.{refl}
use Rattle.std.proofs.lemmas.Result.{err_from_is_err_and}
use Rattle.usi.proofs.access.answered.Goals as goal

pub returns-in_err-usi : goal.returns-in_err-usi
returns-in_err-usi c =
    let p = err_from_is_err_and c.from_residual.result c.from_residual.ensures.1 in
    rw (p.1, p.2, c.in_err-usi.was) refl

pub returns : goal.returns
returns c = rw (c.in_ok-usi.was, c.cleared.ensures)
