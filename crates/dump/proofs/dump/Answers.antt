-- `dump::dump` meets its contract: each return is the first check that applies, and the last is a piece from byte 0.
use Rattle.std.proofs.Common.{sym, ◌∙◌, refl, length, ◌≤◌, arith}
use Rattle.std.proofs.lemmas.Result.{err_from_is_err_and}
use borrow.Author.Tests.{eq-eqb, ne_eqb, lt-ltb, le-ltb}
use Rattle.dump.specs.Text.{dump_text}
use Rattle.dump.proofs.Reply.{in_order, put_count, put-filled}
use Rattle.dump.proofs.dump.Goals as goal

pub returns-in_err-check-clause-answer : goal.returns-in_err-check-clause-answer
returns-in_err-check-clause-answer c =
    let p = err_from_is_err_and c.from_residual.result c.from_residual.ensures.1 in
    let first = sym c.check.ensures ∙ c.in_err-check.was in
    rw (p.1, p.2, in_order c.args.stamps.now c.args.levels.now (length c.args.out.now), first) refl

pub returns-then-levels-eq0-clause-answer : goal.returns-then-levels-eq0-clause-answer
returns-then-levels-eq0-clause-answer c =
    let first = sym c.check.ensures ∙ c.in_ok-check.was in
    let none = eq-eqb _ _ c.if-levels-eq0.true in
    rw (c.refused.ensures, in_order c.args.stamps.now c.args.levels.now (length c.args.out.now), first, none) refl

pub returns-then-out-text_length-clause-answer : goal.returns-then-out-text_length-clause-answer
returns-then-out-text_length-clause-answer c =
    let first = sym c.check.ensures ∙ c.in_ok-check.was in
    let some = ne_eqb _ _ c.if-levels-eq0.false in
    let short = lt-ltb _ _ (rw c.text_length.ensures at c.if-out-text_length.true) in
    rw (
      c.refused-then-out-text_length.ensures,
      in_order c.args.stamps.now c.args.levels.now (length c.args.out.now),
      first,
      some,
      short,
    ) refl

pub returns : goal.returns
returns c =
    let put = c.piece.ensures in
    let args = c.args in
    let text = dump_text args.stamps.now args.levels.now in
    let first = sym c.check.ensures ∙ c.in_ok-check.was in
    let some = ne_eqb _ _ c.if-levels-eq0.false in
    let enough : length text ≤ length args.out.now = omega (arith, c.if-out-text_length.false, c.text_length.ensures) in
    let fits = le-ltb _ _ enough in record {
      answer = rw (
        put_count _ text _ _ put enough,
        in_order args.stamps.now args.levels.now (length args.out.now),
        first,
        some,
        fits,
      ) refl;
      buffer = put-filled _ text _ _ put enough;
    }
