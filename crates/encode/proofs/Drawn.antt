-- What an event draws, and levels that are stored bit by bit.
use mathlib.Core.Path.{◌≡◌, refl, ap, ◌∙◌}
use mathlib.Core.Bool.{Bool, true, false}
use mathlib.Core.List.{List, [], ◌∷◌, ◌++◌}
use Prim.Native.Nat.{ℕ, zero, suc, ◌+◌, ◌*◌, ◌-◌, ◌/◌, ◌%◌, ◌^◌, ◌≤◌, ◌<◌}
use native.Mathlib.Nat.{mul-add-div, mul_assoc, pow-suc}
use native.Mathlib.Numerals.{add-one}
use native.Mathlib.Omega.{arith}
use borrow.Author.Tests.{ne_eqb, lt-ltb, le-ltb}
use mir.Val.{bool_byte}
use lib.ListN.{length, get_or, take, set, get_or-append}
use lib.Pow.{pow_pos}
use lib.Seq.{sets, take-suc, length-take-le}
use Rattle.trace.specs.Events.{byte_event}
use Rattle.bits.specs.Positions.{is_set}
use Rattle.encode.specs.Encode.{bits_below, byte_bits, draw_bit, draw_bits, draw_event}
use Rattle.laws.proofs.Bools.{bool-byte}

-- what is stored after a list joins it
pub sets-append : (a b l : List ℕ) (i : ℕ) → sets (sets l i a) (i + length a) b ≡ sets l i (a ++ b)
sets-append [] b l i = let e : i + 0 ≡ i = omega arith in rw e
sets-append (v ∷ a) b l i =
    let e : i + suc (length a) ≡ suc i + length a = omega arith in rw e (sets-append a b (set l i v) (suc i))

draw-append : (bits more : List Bool) → draw_bits (bits ++ more) ≡ draw_bits bits ++ draw_bits more
draw-append [] more = refl
draw-append (b ∷ bits) more = ap (λ (l : List ℕ). draw_bit b ++ l) (draw-append bits more)

two-each : (bits : List Bool) → length (draw_bits bits) ≡ 2 * length bits
two-each [] = refl
two-each (b ∷ bits) = omega (arith, two-each bits)

-- one bit more is drawn
pub drawn-more : (bits : List Bool) (levels₀ levels next : List ℕ) (at k : ℕ) (b : Bool)
    → levels ≡ sets levels₀ at (draw_bits (take k bits)) → next ≡ sets levels (at + 2 * k) (draw_bit b)
    → get_or bits k false ≡ b → k < length bits → next ≡ sets levels₀ at (draw_bits (take (k + 1) bits))
drawn-more bits levels₀ levels next at k b drawn stored bit h =
    let long : length (draw_bits (take k bits)) ≡ 2 * k = rw (two-each, length-take-le k bits (omega arith)) in
    let more : draw_bits (take (k + 1) bits) ≡ draw_bits (take k bits) ++ draw_bit b =
    rw (add-one k, take-suc bits k false h, bit) (draw-append (take k bits) (b ∷ [])) in
    stored ∙ rw (drawn, more, ← long) (sets-append (draw_bits (take k bits)) (draw_bit b) levels₀ at)

length-bits : (n number : ℕ) → length (bits_below n number) ≡ n
length-bits zero number = refl
length-bits (suc n) number = ap suc (length-bits n number)

-- the k-th bit from the first
bit_below : (n k number : ℕ) → k < n → get_or (bits_below n number) k false ≡ is_set (n - 1 - k) number
bit_below zero k number h = absurd (omega arith)
bit_below (suc n) zero number h = let e : suc n - 1 - zero ≡ n = omega arith in rw e
bit_below (suc n) (suc k) number h =
    let e : suc n - 1 - suc k ≡ n - 1 - k = omega arith in rw e (bit_below n k number (omega arith))

pub bit-from-first : (byte k : ℕ) (ninth : Bool) → k < 8
    → get_or (byte_bits byte ++ ninth ∷ []) k false ≡ is_set (7 - k) byte
unfolding byte_bits
bit-from-first byte k ninth h = get_or-append (bits_below 8 byte) (ninth ∷ []) false k h ∙ bit_below 8 k byte h

-- what is added above a bit, and an even number of times, leaves it
higher-leaves : (k m number : ℕ) → (2 ^ k * (2 * m) + number) / 2 ^ k % 2 ≡ number / 2 ^ k % 2
higher-leaves k m number = rw (mul-add-div (pow_pos k) (2 * m) number) (omega arith)

-- what is added above n bits leaves them
bits-leaves : (n m number : ℕ) → bits_below n (2 ^ n * m + number) ≡ bits_below n number
bits-leaves zero m number = refl
bits-leaves (suc n) m number =
    let e : 2 ^ suc n * m ≡ 2 ^ n * (2 * m) = rw (pow-suc 2 n) (mul_assoc (2 ^ n) 2 m) in
    rw (e, higher-leaves n m number, bits-leaves n (2 * m) number)

-- the bits of a byte are those of its events
pub byte-bits : (byte n : ℕ) → byte_bits (byte + 256 * n) ≡ byte_bits byte
unfolding byte_bits
byte-bits byte n = let e : byte + 256 * n ≡ 2 ^ 8 * n + byte = omega arith in rw e (bits-leaves 8 n byte)

-- the ninth bit is the event's bit 8
ninth-bit : (byte : ℕ) (ninth : Bool) → byte < 256 → is_set 8 (byte_event byte ninth) ≡ ninth
ninth-bit byte true h = let high : byte_event byte true / 2 ^ 8 % 2 ≡ 1 = omega arith in rw high
ninth-bit byte false h = let low : byte_event byte false / 2 ^ 8 % 2 ≡ 0 = omega arith in rw low

byte-event : (byte : ℕ) (ninth : Bool) → byte < 256 → byte_event byte ninth < 512
byte-event byte ninth h = omega (arith, bool-byte ninth)

pub draw-byte : (byte : ℕ) (ninth : Bool) → byte < 256
    → draw_event (byte_event byte ninth) ≡ draw_bits (byte_bits byte ++ ninth ∷ [])
unfolding draw_event
draw-byte byte ninth h =
    rw (lt-ltb _ _ (byte-event byte ninth h), byte-bits byte (bool_byte ninth), ninth-bit byte ninth h)

-- other numbers draw nothing
pub draw-none : (event : ℕ) → 512 ≤ event → (event ≡ 512 → ⊥) → (event ≡ 513 → ⊥) → (event ≡ 514 → ⊥)
    → draw_event event ≡ []
unfolding draw_event
draw-none event high start repeated stop =
    rw (le-ltb _ _ high, ne_eqb _ _ start, ne_eqb _ _ repeated, ne_eqb _ _ stop)
