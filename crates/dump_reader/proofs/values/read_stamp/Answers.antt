-- `dump_reader::values::read_stamp` meets its contract.
use mathlib.Core.Path.{sym, ap, ◌∙◌}
use Rattle.std.specs.Prelude.{Err}
use Rattle.text.specs.declared.numbers.NotNumber.{NotNumber}
use Rattle.dump_reader.specs.Values.{read_stamp}
use Rattle.dump_reader.proofs.values.read_stamp.Goals as goal

pub returns-in-Ok : goal.returns-in-Ok
returns-in-Ok c = rw c.in-Ok.is c.judge.ensures

pub returns-in-Err-TooLarge : goal.returns-in-Err-TooLarge
returns-in-Err-TooLarge c =
    let args = c.args in
    let why = c.in-Err-TooLarge in
    rw why.is
    (c.judge-in-Err-TooLarge.ensures
    ∙ ap (λ (w : NotNumber). read_stamp args.reader (Err w) args.inside) (sym (rw why.is at why.field-0-is)))

pub returns-in-Err-Bad : goal.returns-in-Err-Bad
returns-in-Err-Bad c =
    let args = c.args in
    let why = c.in-Err-Bad in
    rw why.is
    (c.refused.ensures ∙ ap (λ (w : NotNumber). read_stamp args.reader (Err w) args.inside) (sym (rw why.is at why.field-0-is)))
