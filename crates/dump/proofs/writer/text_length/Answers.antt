-- `dump::writer::text_length` meets its contract.
use native.Mathlib.Omega.{arith}
use lib.ListN.{length}
use Rattle.dump.specs.Text.{dump_text}
use Rattle.dump.proofs.Length.{left-whole}
use Rattle.dump.proofs.writer.text_length.Goals as goal

pub overflow_sub-result : goal.overflow_sub-result
overflow_sub-result c =
    let text = c.write-end.ensures in
    omega (arith, text.text.left)

pub returns : goal.returns
returns c =
    let text = c.write-end.ensures in
    let whole = length (dump_text c.args.stamps.now c.args.levels.now) in
    left-whole 73855 whole _ text.text.left (omega (arith, text.bound, c.requires))
