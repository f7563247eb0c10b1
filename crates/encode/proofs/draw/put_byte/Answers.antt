use Rattle.encode.proofs.Drawn.{drawn-more, bit-from-first}
use Rattle.encode.specs.Encode.{byte_bits}
use mathlib.Core.List.{List, [], ◌∷◌, ◌++◌}
use mathlib.Core.Bool.{Bool}
use mathlib.Core.Path.{◌≡◌, refl}
use Prim.Native.Nat.{ℕ, ◌<◌}
use native.Mathlib.Omega.{arith}
use Rattle.encode.proofs.draw.put_byte.Goals as goal

abbrev nine : ℕ → Bool → List Bool
nine byte ninth = byte_bits byte ++ ninth ∷ []

pub loop-k-init : goal.loop-k-init
loop-k-init c = refl

pub loop-k-preserved : goal.loop-k-preserved
unfolding byte_bits
loop-k-preserved c =
    let head = c.loop-k in
    let args = c.args in
    let bits = nine args.byte args.ninth in
    let more : head.k < 8 = omega arith in
    let first = bit-from-first args.byte head.k args.ninth more in
    drawn-more bits args.levels.now head.levels _ args.at head.k _ head.invariant
    c.put_bit.ensures first (omega arith)

pub returns : goal.returns
unfolding byte_bits
returns c =
    let head = c.loop-k in
    let args = c.args in
    let bits = nine args.byte args.ninth in
    let all : head.k ≡ 8 = omega arith in
    drawn-more bits args.levels.now head.levels _ args.at 8 _ (rw all at head.invariant)
    c.put_bit-2.ensures refl (omega arith)
