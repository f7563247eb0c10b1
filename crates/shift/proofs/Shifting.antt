-- What shifts do to a register, over its width and its direction: the bits that left were its first, in order, and its
-- newest bits are those that entered, in order. What enters has no part in the first, and what leaves none in the second,
-- so both hold of a device with registers for in and out apart (02: Ask 7).
use Prim.Native.Nat.{ℕ, zero, suc, ◌+◌, ◌-◌, ◌*◌, ◌/◌, ◌%◌, ◌^◌, ◌<◌, ◌≤◌}
use mathlib.Core.Path.{◌≡◌, refl, sym, ◌∙◌, ap, ap₂}
use mathlib.Core.Bool.{Bool, true, false}
use mathlib.Core.List.{List, [], ◌∷◌, ◌++◌, append-nil, append_assoc}
use native.Mathlib.Nat.{pow-suc, add_comm, mod-lt}
use native.Mathlib.Numerals.{add-one}
use native.Mathlib.Omega.{arith}
use lib.ListN.{length, take, drop, length-drop}
use lib.Seq.{take-append-le, drop-append-le, drop-append_seam, drop-drop}
use lib.Pow.{pow_pos, shr-shr, field, mod-mod-pow}
use lib.Dec.{eqb}
use borrow.Author.Tests.{eq-eqb, ne_eqb}
use mir.Val.{bool_byte}
use Rattle.bits.specs.Positions.{is_set}
use Rattle.shift.specs.Shift.{outgoing, shifted, downwards, upwards, in_order, first_sent, newest, shifted_by, sent_by}

-- a bit by what is left when the bits below it are gone
same_bit : (p x q y : ℕ) → x / 2 ^ p % 2 ≡ y / 2 ^ q % 2 → is_set p x ≡ is_set q y
same_bit p x q y e = ap (λ (d : ℕ). eqb d 1) e

lowest-bit : (x : ℕ) (b : Bool) → is_set 0 (x * 2 + bool_byte b) ≡ b
lowest-bit x true = eq-eqb ((x * 2 + 1) / 1 % 2) 1 (omega arith)
lowest-bit x false = ne_eqb ((x * 2 + 0) / 1 % 2) 1 (λ e. omega arith)

-- towards the highest: the bit that enters is the last
double : (x : ℕ) (b : Bool) → (x * 2 + bool_byte b) / 2 ^ 1 ≡ x
double x true = omega arith
double x false = omega arith

entered_below : (n x : ℕ) (b : Bool) → downwards (suc n) (x * 2 + bool_byte b) ≡ downwards n x ++ (b ∷ [])
unfolding downwards
entered_below zero x b = ap (λ (c : Bool). c ∷ []) (lowest-bit x b)
entered_below (suc n) x b =
    let halves : (x * 2 + bool_byte b) / 2 ^ suc n ≡ x / 2 ^ n =
    ap (λ (k : ℕ). (x * 2 + bool_byte b) / 2 ^ k) (sym (add_comm 1 n ∙ add-one n))
    ∙ sym (shr-shr (x * 2 + bool_byte b) 1 n) ∙ ap (λ (y : ℕ). y / 2 ^ n) (double x b) in
    ap₂ (λ (c : Bool) (l : List Bool). c ∷ l)
    (same_bit (suc n) (x * 2 + bool_byte b) n x (ap (λ (y : ℕ). y % 2) halves)) (entered_below n x b)

-- a bit below position v is that of the lowest v bits
below_top : (j p x : ℕ) → is_set p (x % 2 ^ (suc j + p)) ≡ is_set p x
below_top j p x =
    same_bit p (x % 2 ^ (suc j + p)) p x
    (ap (λ (y : ℕ). y % 2) (field x (suc j) p) ∙ ap (λ (k : ℕ). x / 2 ^ p % 2 ^ k % 2) (sym (add-one j))
    ∙ mod-mod-pow (x / 2 ^ p) j 1)

gap : {p v : ℕ} → p < v → suc (v - p - 1) + p ≡ v
gap below = omega (arith, below)

kept-bit : (v p x : ℕ) → p < v → is_set p (x % 2 ^ v) ≡ is_set p x
kept-bit v p x below =
    ap (λ (k : ℕ). is_set p (x % 2 ^ k)) (sym (gap below)) ∙ below_top (v - p - 1) p x

kept-below : (v n x : ℕ) → n ≤ v → downwards n (x % 2 ^ v) ≡ downwards n x
unfolding downwards
kept-below v zero x within = refl
kept-below v (suc n) x within =
    ap₂ (λ (c : Bool) (l : List Bool). c ∷ l) (kept-bit v n x within)
    (kept-below v n x (omega (arith, within)))

-- towards the lowest: the bit that enters is the last
lowest-kept : (s k : ℕ) (b : Bool) → is_set 0 (s + bool_byte b * (k * 2)) ≡ is_set 0 s
lowest-kept s k true = same_bit 0 (s + 1 * (k * 2)) 0 s (omega arith)
lowest-kept s k false = same_bit 0 (s + 0 * (k * 2)) 0 s (omega arith)

halved : (s k : ℕ) (b : Bool) → (s + bool_byte b * (k * 2)) / 2 ≡ s / 2 + bool_byte b * k
halved s k true = omega arith
halved s k false = omega arith

entered-above : (n s : ℕ) (b : Bool) → s < 2 ^ n → upwards (suc n) (s + bool_byte b * 2 ^ n) ≡ upwards n s ++ (b ∷ [])
unfolding upwards
entered-above zero s true small = ap (λ (c : Bool). c ∷ []) (eq-eqb ((s + 1) / 1 % 2) 1 (omega (arith, small)))
entered-above zero s false small =
    ap (λ (c : Bool). c ∷ []) (ne_eqb ((s + 0) / 1 % 2) 1 (λ e. omega (arith, small, e)))
entered-above (suc n) s b small =
    let twice : 2 ^ suc n ≡ 2 ^ n * 2 = pow-suc 2 n in
    let half : s / 2 < 2 ^ n = omega (arith, small, twice) in
    ap (λ (k : ℕ). upwards (suc (suc n)) (s + bool_byte b * k)) twice
    ∙ ap₂ (λ (c : Bool) (l : List Bool). c ∷ l) (lowest-kept s (2 ^ n) b)
    (ap (upwards (suc n)) (halved s (2 ^ n) b) ∙ entered-above n (s / 2) b half)

kept_above : (n x : ℕ) → upwards n (x % 2 ^ n) ≡ upwards n x
unfolding upwards
kept_above zero x = refl
kept_above (suc n) x =
    let wide : x % 2 ^ suc n ≡ x % 2 ^ (n + 1) = ap (λ (k : ℕ). x % 2 ^ k) (sym (add-one n)) in
    ap₂ (λ (c : Bool) (l : List Bool). c ∷ l)
    (same_bit 0 (x % 2 ^ suc n) 0 x (omega (arith, ap (λ (y : ℕ). y % 2) wide, mod-mod-pow x n 1)))
    (ap (upwards n) (ap (λ (y : ℕ). y / 2) wide ∙ field x n 1) ∙ kept_above n (x / 2))

-- one shift: the first bit leaves, and the one that enters comes last
pub first-leaves : (top : ℕ) (lsb : Bool) (register : ℕ) →
    in_order top lsb register ≡ outgoing top lsb register ∷ drop 1 (in_order top lsb register)
unfolding upwards downwards
first-leaves top true register = refl
first-leaves top false register = refl

pub last-enters : (top : ℕ) (lsb b : Bool) (register : ℕ) →
    in_order top lsb (shifted top lsb b register) ≡ drop 1 (in_order top lsb register) ++ (b ∷ [])
unfolding upwards downwards
last-enters top true b register =
    let rest : register % 2 ^ suc top / 2 ≡ register / 2 % 2 ^ top =
    ap (λ (k : ℕ). register % 2 ^ k / 2) (sym (add-one top)) ∙ field register top 1 in
    let small : register % 2 ^ suc top / 2 < 2 ^ top = rw rest (mod-lt (register / 2) (pow_pos top)) in
    entered-above top (register % 2 ^ suc top / 2) b small
    ∙ ap (λ (l : List Bool). l ++ (b ∷ [])) (ap (upwards top) rest ∙ kept_above top (register / 2))
last-enters top false b register =
    entered_below top (register % 2 ^ top) b
    ∙ ap (λ (l : List Bool). l ++ (b ∷ [])) (kept-below top top register (omega arith))

-- the register holds as many bits as it is wide
downwards-length : (n x : ℕ) → length (downwards n x) ≡ n
unfolding downwards
downwards-length zero x = refl
downwards-length (suc n) x = ap suc (downwards-length n x)

upwards-length : (n x : ℕ) → length (upwards n x) ≡ n
unfolding upwards
upwards-length zero x = refl
upwards-length (suc n) x = ap suc (upwards-length n (x / 2))

pub width : (top : ℕ) (lsb : Bool) (register : ℕ) → length (in_order top lsb register) ≡ suc top
width top true register = upwards-length (suc top) register
width top false register = downwards-length (suc top) register

-- shifts one after another: what entered stands behind what is left
pub after-shifts : (top : ℕ) (lsb : Bool) (bits : List Bool) (register : ℕ) → length bits ≤ suc top →
    in_order top lsb (shifted_by top lsb bits register) ≡ drop (length bits) (in_order top lsb register) ++ bits
unfolding shifted_by
after-shifts top lsb [] register within = sym (append-nil (in_order top lsb register))
after-shifts top lsb (b ∷ bits) register within =
    let held = in_order top lsb register in
    let room : length bits ≤ length (drop 1 held) =
    omega (arith, within, length-drop 1 held, width top lsb register) in
    after-shifts top lsb bits (shifted top lsb b register) (omega (arith, within))
    ∙ ap (λ (l : List Bool). drop (length bits) l ++ bits) (last-enters top lsb b register)
    ∙ ap (λ (l : List Bool). l ++ bits) (drop-append-le (length bits) (drop 1 held) (b ∷ []) room)
    ∙ append_assoc (drop (length bits) (drop 1 held)) (b ∷ []) bits
    ∙ ap (λ (l : List Bool). l ++ (b ∷ bits)) (drop-drop (length bits) 1 held
    ∙ ap (λ (n : ℕ). drop n held) (add_comm 1 (length bits) ∙ add-one (length bits)))

-- n shifts, n no more than the width: the newest n bits are those that entered
pub newest-entered : (top : ℕ) (lsb : Bool) (bits : List Bool) (register : ℕ) → length bits ≤ suc top →
    newest (length bits) top lsb (shifted_by top lsb bits register) ≡ bits
newest-entered top lsb bits register within =
    let held = in_order top lsb register in
    let left : suc top - length bits ≡ length (drop (length bits) held) =
    omega (arith, within, length-drop (length bits) held, width top lsb register) in
    ap (drop (suc top - length bits)) (after-shifts top lsb bits register within)
    ∙ ap (λ (n : ℕ). drop n (drop (length bits) held ++ bits)) left
    ∙ drop-append_seam (drop (length bits) held) bits

-- and the bits that left were its first n
pub first-sent : (top : ℕ) (lsb : Bool) (bits : List Bool) (register : ℕ) → length bits ≤ suc top →
    sent_by top lsb bits register ≡ first_sent (length bits) top lsb register
unfolding sent_by
first-sent top lsb [] register within = refl
first-sent top lsb (b ∷ bits) register within =
    let held = in_order top lsb register in
    let room : length bits ≤ length (drop 1 held) =
    omega (arith, within, length-drop 1 held, width top lsb register) in
    ap (λ (l : List Bool). outgoing top lsb register ∷ l)
    (first-sent top lsb bits (shifted top lsb b register) (omega (arith, within))
    ∙ ap (take (length bits)) (last-enters top lsb b register)
    ∙ take-append-le (length bits) (drop 1 held) (b ∷ []) room)
    ∙ ap (take (suc (length bits))) (sym (first-leaves top lsb register))
