-- Request 2's case written and read back: stamps 5 6 9, levels 3 3 1, of which 6 changes nothing.
use mathlib.Core.Path.{◌≡◌}
use mathlib.Core.List.{List, [], ◌∷◌}
use Prim.Native.Nat.{ℕ}
use native.Mathlib.Omega.{arith}
use lib.ListN.{take, replicate}
use Rattle.laws.specs.Everyone.{nobody, also}
use Rattle.dump.specs.Dumped.{text_after}
use Rattle.dump.proofs.Worked.{case, case-reply}
use Rattle.std.specs.Prelude.{Ok}
use Rattle.dump_reader.specs.DumpRead.{samples_in_unit, dump_read, stamps_after, levels_after}
use Rattle.dump_theorems.proofs.ReadBack.{ReadBack}
use Rattle.dump_theorems.proofs.Slices.{written-reads-back}

-- the file as dump leaves it in a slice of 142 bytes
abbrev text : List ℕ
text = take 142 (text_after (case 142) (5 ∷ 6 ∷ 9 ∷ []) (3 ∷ 3 ∷ 1 ∷ []) (replicate 142 0))

case-back : ReadBack (5 ∷ 6 ∷ 9 ∷ []) (3 ∷ 3 ∷ 1 ∷ []) text (7 ∷ 7 ∷ 7 ∷ []) (7 ∷ 7 ∷ 7 ∷ [])
case-back =
    written-reads-back (5 ∷ 6 ∷ 9 ∷ []) (3 ∷ 3 ∷ 1 ∷ []) (replicate 142 0) (7 ∷ 7 ∷ 7 ∷ []) (7 ∷ 7 ∷ 7 ∷ []) 142
    (also (omega arith) (also (omega arith) (also (omega arith) nobody)))
    case-reply (omega arith) (omega arith) (omega arith)

-- two samples of 100 ns, and the rest of each slice as it was
pub case-read : dump_read text 3 3 ≡ Ok (samples_in_unit 2 100000000)
case-read = case-back.reply

pub case-stamps : stamps_after (dump_read text 3 3) text (7 ∷ 7 ∷ 7 ∷ []) ≡ 5 ∷ 9 ∷ 7 ∷ []
case-stamps = case-back.stamped

pub case-levels : levels_after (dump_read text 3 3) text (7 ∷ 7 ∷ 7 ∷ []) ≡ 3 ∷ 1 ∷ 7 ∷ []
case-levels = case-back.leveled
