-- `text::output::put_decimal` meets its contract.
use Rattle.text.proofs.Putting.{put_as, put_then}
use Rattle.text.proofs.Spelling.{decimal-one, decimal-more}
use Rattle.text.proofs.output.+put_decimal.Goals as goal

pub returns-then-n-lt10 : goal.returns-then-n-lt10
returns-then-n-lt10 t c =
    put_as _ _ (decimal-one _ _ c.digit_byte-last.ensures c.if-n-lt10.true) c.put_byte.ensures

pub returns : goal.returns
returns t c =
    put_then _ _ _ _ _
    (decimal-more _ _ c.digit_byte-last.ensures c.if-n-lt10.false)
    c.put_decimal-next.ensures
    c.put_byte-2.ensures
