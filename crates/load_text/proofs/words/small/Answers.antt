-- `load_text::words::small` meets its contract.
use Rattle.std.proofs.Common.{◌≡◌, ℕ, ◌<◌, cond, ltb, Result, Ok, Err, Some, None, ◌∙◌, refl, arith}
use Rattle.std.specs.Result.{OkIff, result_ok}
use borrow.Author.Tests.{lt-ltb, le-ltb}
use Rattle.load_text.specs.Words.{small_in}
use Rattle.load_text.proofs.words.small.Goals as goal

as_byte : {E : Type 0} (v : ℕ) (r : Result ℕ E) → OkIff r (v < 256) v
    → result_ok r ≡ cond (ltb 255 v) None (Some v)
as_byte v (Ok x) is = rw (is.1, le-ltb 255 v (omega (arith, is.0))) refl
as_byte v (Err e) not = rw (lt-ltb 255 v (omega (arith, not))) refl

pub returns : goal.returns
unfolding small_in
returns c = c.ok.ensures.value ∙ rw (← c.value.ensures) (as_byte _ _ c.try_from.ensures)
