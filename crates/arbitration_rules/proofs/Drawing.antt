-- The drawing of a byte's event: the eight bits of the byte, and a ninth for the acknowledge.
use Prim.Native.Nat.{ℕ, zero, suc, ◌+◌, ◌*◌, ◌≤◌, ◌<◌}
use native.Mathlib.Omega.{arith}
use mathlib.Core.Path.{◌≡◌, sym}
use mathlib.Core.Bool.{true, false}
use mathlib.Core.List.{[], ◌∷◌, ◌++◌}
use Rattle.encode.specs.Encode.{byte_bits, draw_bits, draw_event}
use Rattle.encode.proofs.Drawn.{draw-byte}
use Rattle.arbitration_rules.proofs.Round.{ninth_bit}

pub byte-drawn : (byte acknowledge : ℕ) → byte < 256 → acknowledge ≤ 1
    → draw_bits (byte_bits byte ++ ninth_bit acknowledge ∷ []) ≡ draw_event (byte + 256 * acknowledge)
byte-drawn byte zero small one = sym (draw-byte byte false small)
byte-drawn byte (suc zero) small one = sym (draw-byte byte true small)
byte-drawn byte (suc (suc acknowledge)) small one = absurd (omega arith)
