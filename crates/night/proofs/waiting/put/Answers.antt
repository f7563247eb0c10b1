use Prim.Native.Nat.{◌+◌, ◌-◌}
use mathlib.Core.Path.{◌≡◌, refl, sym, ◌∙◌}
use native.Mathlib.Omega.{arith}
use lib.ListN.{length}
use lib.Seq.{sets-eq, take-length}
use Rattle.std.proofs.lemmas.Slice.{put_mid-paste}
use Rattle.night.proofs.waiting.put.Goals as goal

pub returns : goal.returns
returns g c =
    let items = c.args.items.now in
    let many : length items ≡ c.args.at + length items - c.args.at = omega arith in
    put_mid-paste _ _ _ _ items (length items) c.copy_from_slice.ensures.after many refl
    ∙ rw (take-length items) (sym (sets-eq items c.args.list.now c.args.at c.requires))
