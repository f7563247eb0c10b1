-- `rig_lines::parts::lent` counts elements of its slice.
use native.Mathlib.Omega.{arith}
use mathlib.Core.Path.{sym}
use lib.Seq.{length-take-le}
use Prim.Native.Nat.{◌≤◌}
use lib.ListN.{length}
use Rattle.rig_lines.proofs.parts.lent.Goals as goal

pub returns : goal.returns
returns g c =
    let within : c.min.result ≤ length c.args.slice.now = omega arith in
    record { prefix_len = (within, sym (length-take-le _ _ within)); value = c.min.ensures }
