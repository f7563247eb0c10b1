-- `rig_lines::console::put_count` meets its contract.
use Rattle.text.proofs.Putting.{put_as, put_next}
use borrow.Author.Tests.{eq-eqb, ne_eqb}
use Rattle.rig_lines.specs.Console.{count_text}
use Rattle.rig_lines.proofs.console.put_count.Goals as goal

pub returns-then-n-eq1 : goal.returns-then-n-eq1
unfolding count_text
returns-then-n-eq1 c = put_as _ _ (rw (eq-eqb _ _ c.if-n-eq1.true))
    (put_next _ _ (put_next _ _ c.put_decimal-number.ensures c.put_byte-space.ensures) c.put_bytes-one.ensures)

pub returns : goal.returns
unfolding count_text
returns c = put_as _ _ (rw (ne_eqb _ _ c.if-n-eq1.false))
    (put_next _ _
    (put_next _ _ (put_next _ _ c.put_decimal-number.ensures c.put_byte-space.ensures) c.put_bytes-one.ensures)
    c.put_byte.ensures)
