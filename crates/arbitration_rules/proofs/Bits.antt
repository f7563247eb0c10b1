-- A byte and its eight bits, first bit first: the number that bits make, the register that sends them, and their
-- order.
use Prim.Native.Nat.{ℕ, suc, ◌+◌, ◌*◌, ◌/◌, ◌%◌, ◌^◌, ◌≤◌, ◌<◌}
use native.Mathlib.Nat.{pow-suc, add-mul, mul_assoc, mul_comm}
use native.Mathlib.Omega.{arith}
use mathlib.Core.Path.{◌≡◌, refl, ap, sym, subst, ◌∙◌}
use mathlib.Core.Bool.{Bool, true, false, ◌&&◌, beq, false≢true}
use mathlib.Core.List.{List, [], ◌∷◌, ◌++◌}
use mir.Val.{bool_byte}
use lib.Dec.{eqb, lit<}
use lib.ListN.{length}
use borrow.Author.Tests.{eq-eqb, ne_eqb}
use Rattle.bits.proofs.Masks.{on_bit}
use Rattle.usi_i2c.specs.Rules.{first_bit, shifted}
use Rattle.encode.specs.Encode.{byte_bits}
use Rattle.trace_theorems.proofs.Bits.{number_from, number-of-bits}

-- the number that bits make
abbrev pub number : List Bool → ℕ
number bits = number_from 0 bits

-- a number before them counts 2 ^ their count more, and they make less than that
twice : (value digit power : ℕ) → (2 * value + digit) * power ≡ value * (power * 2) + digit * power
twice value digit power = rw (add-mul, mul_comm 2 value, mul_assoc value 2 power, mul_comm 2 power)

number-after : (value : ℕ) (bits : List Bool) → number_from value bits ≡ value * 2 ^ length bits + number bits
number-after value [] = omega arith
number-after value (true ∷ bits) =
    let power : value * 2 ^ suc (length bits) ≡ value * (2 ^ length bits * 2) =
    ap (λ (x : ℕ). value * x) (pow-suc 2 (length bits)) in
    omega (arith, number-after (2 * value + 1) bits, number-after 1 bits, twice value 1 (2 ^ length bits))
number-after value (false ∷ bits) =
    let power : value * 2 ^ suc (length bits) ≡ value * (2 ^ length bits * 2) =
    ap (λ (x : ℕ). value * x) (pow-suc 2 (length bits)) in
    omega (arith, number-after (2 * value + 0) bits, twice value 0 (2 ^ length bits))

number-below : (bits : List Bool) → number bits < 2 ^ length bits
number-below [] = lit< tt
number-below (true ∷ bits) =
    let less = number-below bits in omega (arith, number-after 1 bits, pow-suc 2 (length bits))
number-below (false ∷ bits) = let less = number-below bits in omega (arith, pow-suc 2 (length bits))

-- a bit behind them
pub number-snoc : (value : ℕ) (bits : List Bool) (bit : Bool)
    → number_from value (bits ++ bit ∷ []) ≡ 2 * number_from value bits + bool_byte bit
number-snoc value [] bit = refl
number-snoc value (first ∷ bits) bit = number-snoc (2 * value + bool_byte first) bits bit

-- a byte is the number of its bits
pub number-bits : (byte : ℕ) → byte < 256 → number (byte_bits byte) ≡ byte
unfolding byte_bits
number-bits byte small =
    let bits : number (byte_bits byte) ≡ 0 * 256 + byte % 256 = number-of-bits 8 0 byte in omega arith

-- eight bits in a register: the first is bit 7, and the shift brings in another behind the last
module _ (bit : Bool) (rest : List Bool) (seven : length rest ≡ 7) where
  small : number rest < 128
  small = subst (λ (k : ℕ). number rest < 2 ^ k) seven (number-below rest)

  high : number (bit ∷ rest) ≡ bool_byte bit * 128 + number rest
  high =
      number-after (0 + bool_byte bit) rest ∙ ap (λ (k : ℕ). (0 + bool_byte bit) * 2 ^ k + number rest) seven ∙ either
      bit
    where
      either : (bit : Bool) → (0 + bool_byte bit) * 128 + number rest ≡ bool_byte bit * 128 + number rest
      either true = refl
      either false = refl

  pub first-is : first_bit (number (bit ∷ rest)) ≡ bit
  first-is = on_bit (number (bit ∷ rest)) 7 ∙ ap (λ (x : ℕ). eqb (x / 128 % 2) 1) high ∙ either bit
    where
      either : (bit : Bool) → eqb ((bool_byte bit * 128 + number rest) / 128 % 2) 1 ≡ bit
      either true = eq-eqb ((1 * 128 + number rest) / 128 % 2) 1 (omega (arith, small))
      either false =
          ne_eqb ((0 * 128 + number rest) / 128 % 2) 1
          (λ (e : (0 * 128 + number rest) / 128 % 2 ≡ 1). omega (arith, small))

  pub shift_is : (next : Bool) → shifted (number (bit ∷ rest)) next ≡ number (rest ++ next ∷ [])
  shift_is next =
      ap (λ (x : ℕ). x + bool_byte next) (ap (λ (x : ℕ). x * 2 % 256) high ∙ either bit) ∙ sym
      (number-snoc 0 rest next)
    where
      either : (bit : Bool) → (bool_byte bit * 128 + number rest) * 2 % 256 ≡ 2 * number rest
      either true = omega (arith, small)
      either false = omega (arith, small)

-- the order of bytes, bit by bit, on lists of one length
abbrev pub BitsAtMost : List Bool → List Bool → Type 0
BitsAtMost [] [] = Unit {0}
BitsAtMost [] (other ∷ others) = ⊥
BitsAtMost (bit ∷ bits) [] = ⊥
BitsAtMost (true ∷ bits) (true ∷ others) = BitsAtMost bits others
BitsAtMost (true ∷ bits) (false ∷ others) = ⊥
BitsAtMost (false ∷ bits) (true ∷ others) = length others ≡ length bits
BitsAtMost (false ∷ bits) (false ∷ others) = BitsAtMost bits others

pub at-most-length : (bits others : List Bool) → BitsAtMost bits others → length others ≡ length bits
at-most-length [] [] h = refl
at-most-length [] (other ∷ others) h = absurd h
at-most-length (bit ∷ bits) [] h = absurd h
at-most-length (true ∷ bits) (true ∷ others) h = ap suc (at-most-length bits others h)
at-most-length (true ∷ bits) (false ∷ others) h = absurd h
at-most-length (false ∷ bits) (true ∷ others) h = ap suc h
at-most-length (false ∷ bits) (false ∷ others) h = ap suc (at-most-length bits others h)

at-most : (bits others : List Bool) → length others ≡ length bits → number bits ≤ number others → BitsAtMost bits
    others
at-most [] [] size less = tt
at-most [] (other ∷ others) size less = absurd (omega arith)
at-most (bit ∷ bits) [] size less = absurd (omega arith)
at-most (true ∷ bits) (true ∷ others) size less =
    let rest : length others ≡ length bits = omega arith in
    at-most bits others rest (omega (arith, number-after 1 bits, number-after 1 others, ap (λ (k : ℕ). 2 ^ k) rest))
at-most (true ∷ bits) (false ∷ others) size less =
    let rest : length others ≡ length bits = omega arith in
    absurd (omega (arith, number-after 1 bits, number-below others, ap (λ (k : ℕ). 2 ^ k) rest))
at-most (false ∷ bits) (true ∷ others) size less = omega arith
at-most (false ∷ bits) (false ∷ others) size less =
    let rest : length others ≡ length bits = omega arith in
    at-most bits others rest less

pub at-most-bits : (byte other : ℕ) → byte < 256 → other < 256 → byte ≤ other
    → BitsAtMost (byte_bits byte) (byte_bits other)
unfolding byte_bits
at-most-bits byte other small fits less =
    at-most (byte_bits byte) (byte_bits other) refl (omega (arith, number-bits byte small, number-bits other fits))

-- two bytes are equal when their bits are
abbrev pub same : List Bool → List Bool → Bool
same [] [] = true
same [] (other ∷ others) = false
same (bit ∷ bits) [] = false
same (bit ∷ bits) (other ∷ others) = beq bit other && same bits others

same_refl : (bits : List Bool) → same bits bits ≡ true
same_refl [] = refl
same_refl (true ∷ bits) = same_refl bits
same_refl (false ∷ bits) = same_refl bits

same-equal : (bits others : List Bool) → same bits others ≡ true → bits ≡ others
same-equal [] [] h = refl
same-equal [] (other ∷ others) h = absurd (false≢true h)
same-equal (bit ∷ bits) [] h = absurd (false≢true h)
same-equal (true ∷ bits) (true ∷ others) h = ap (λ l. true ∷ l) (same-equal bits others h)
same-equal (true ∷ bits) (false ∷ others) h = absurd (false≢true h)
same-equal (false ∷ bits) (true ∷ others) h = absurd (false≢true h)
same-equal (false ∷ bits) (false ∷ others) h = ap (λ l. false ∷ l) (same-equal bits others h)

pub same_bits : (byte own : ℕ) → byte < 256 → own < 256 → same (byte_bits byte) (byte_bits own) ≡ eqb own byte
same_bits byte own small fits = go (same (byte_bits byte) (byte_bits own)) refl
  where
    go : (b : Bool) → same (byte_bits byte) (byte_bits own) ≡ b → b ≡ eqb own byte
    go true h =
        sym (eq-eqb own byte
        (sym (number-bits own fits) ∙ ap number (sym (same-equal (byte_bits byte) (byte_bits own) h))
        ∙ number-bits byte small))
    go false h =
        sym (ne_eqb own byte
        (λ e. false≢true (sym h ∙ ap (λ k. same (byte_bits byte) (byte_bits k)) e ∙ same_refl (byte_bits byte))))
