-- `text::output::put_hex_byte` meets its contract.
use Prim.Native.Nat.{◌<◌}
use Rattle.text.proofs.Putting.{put_then}
use Rattle.text.proofs.Spelling.{hex-byte}
use borrow.Author.Rules.{rules}
use Rattle.text.proofs.output.put_hex_byte.Goals as goal

pub returns : goal.returns
returns c =
    let small : c.args.b < 256 = search rules in
    put_then _ _ _ _ _
    (hex-byte _ _ _ c.digit_byte.ensures c.digit_byte-2.ensures small)
    c.put_byte-next.ensures
    c.put_byte.ensures
