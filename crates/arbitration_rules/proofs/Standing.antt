-- How a master stands between two bytes: still in, or out at a position. One byte of the bus against its own byte
-- decides.
use Prim.Native.Nat.{ℕ, suc, ◌+◌, ◌*◌, ◌<◌}
use native.Mathlib.Omega.{arith}
use mathlib.Core.Path.{◌≡◌, refl, ap, ◌∙◌}
use mathlib.Core.Bool.{Bool, cond, true, false}
use mathlib.Core.List.{List, [], ◌∷◌}
use lib.Dec.{eqb}
use lib.ListN.{length}
use Rattle.bits.specs.Positions.{is_set}
use Rattle.encode.specs.Encode.{byte_bits}
use Rattle.arbitration_rules.specs.Outcome.{unequal_bit, position_in}
use Rattle.arbitration_rules.proofs.Bits.{same, same_bits}
use Rattle.arbitration_rules.proofs.Roles.{Role, drives, lost, gone}
use Rattle.arbitration_rules.proofs.Byte.{turns_of}

-- who is out keeps the byte in which it lost, and its latch
pub data Standing : Type 0 where
  stays : Standing
  out : (register : ℕ) (latch : Bool) (position : ℕ) → Standing

-- after a byte
abbrev pub standing_of : ℕ → Role → Standing
standing_of byte (drives rest latch enable) = stays
standing_of byte (lost rest latch position) = out byte latch position
standing_of byte (gone register latch position) = out register latch position

-- the last of the bits sent
abbrev last_of : Bool → List Bool → Bool
last_of latch [] = latch
last_of latch (bit ∷ bits) = last_of bit bits

lost-on : (byte at : ℕ) (bits rest : List Bool) (latch : Bool) (position : ℕ) → length bits ≡ length rest
    → standing_of byte (turns_of at bits (lost rest latch position)) ≡ out byte (last_of latch rest) position
lost-on byte at [] [] latch position size = refl
lost-on byte at [] (sent ∷ rest) latch position size = absurd (omega arith)
lost-on byte at (bit ∷ bits) [] latch position size = absurd (omega arith)
lost-on byte at (bit ∷ bits) (sent ∷ rest) latch position size =
    let less : length bits ≡ length rest = omega arith in
    lost-on byte (suc at) bits rest sent position less

-- a master alone against the bits of the bus: it stays if they are its own, else it is out at the first unequal one
alone : (byte at : ℕ) (bits rest : List Bool) (latch enable : Bool) → length bits ≡ length rest
    → standing_of byte (turns_of at bits (drives rest latch enable))
    ≡ cond (same bits rest) stays (out byte (last_of latch rest) (at + unequal_bit bits rest))
alone byte at [] [] latch enable size = refl
alone byte at [] (sent ∷ rest) latch enable size = absurd (omega arith)
alone byte at (bit ∷ bits) [] latch enable size = absurd (omega arith)
alone byte at (true ∷ bits) (true ∷ rest) latch enable size =
    let less : length bits ≡ length rest = omega arith in
    alone byte (suc at) bits rest true true less
    ∙ ap (λ (p : ℕ). cond (same bits rest) stays (out byte (last_of true rest) p)) (omega arith)
alone byte at (false ∷ bits) (false ∷ rest) latch enable size =
    let less : length bits ≡ length rest = omega arith in
    alone byte (suc at) bits rest false true less
    ∙ ap (λ (p : ℕ). cond (same bits rest) stays (out byte (last_of false rest) p)) (omega arith)
alone byte at (true ∷ bits) (false ∷ rest) latch enable size =
    let less : length bits ≡ length rest = omega arith in
    lost-on byte (suc at) bits rest false at less ∙ ap (λ (p : ℕ). out byte (last_of false rest) p) (omega arith)
alone byte at (false ∷ bits) (true ∷ rest) latch enable size =
    let less : length bits ≡ length rest = omega arith in
    lost-on byte (suc at) bits rest true at less ∙ ap (λ (p : ℕ). out byte (last_of true rest) p) (omega arith)

gone-on : (byte at : ℕ) (bits : List Bool) (register : ℕ) (latch : Bool) (position : ℕ)
    → standing_of byte (turns_of at bits (gone register latch position)) ≡ out register latch position
gone-on byte at [] register latch position = refl
gone-on byte at (bit ∷ bits) register latch position = gone-on byte (suc at) bits register latch position

-- the byte at an index of the bus, against a master's own byte there
abbrev pub standing_after : ℕ → ℕ → ℕ → Standing → Standing
standing_after index byte own stays = cond (eqb own byte) stays (out byte (is_set 0 own) (position_in byte own index))
standing_after index byte own (out register latch position) = out register latch position

-- what a master takes into a byte
abbrev pub enters_as : (latch enable : Bool) (own : ℕ) → Standing → Role
enters_as latch enable own stays = drives (byte_bits own) latch enable
enters_as latch enable own (out register latched position) = gone register latched position

pub byte-decides : (index byte own : ℕ) (latch enable : Bool) (standing : Standing) → byte < 256 → own < 256
    → standing_of byte (turns_of (9 * index) (byte_bits byte) (enters_as latch enable own standing))
    ≡ standing_after index byte own standing
unfolding byte_bits position_in
byte-decides index byte own latch enable stays small fits =
    alone byte (9 * index) (byte_bits byte) (byte_bits own) latch enable refl
    ∙ ap (λ t. cond t stays (out byte (is_set 0 own) (9 * index + unequal_bit (byte_bits byte) (byte_bits own))))
    (same_bits byte own small fits)
byte-decides index byte own latch enable (out register latched position) small fits =
    gone-on byte (9 * index) (byte_bits byte) register latched position
