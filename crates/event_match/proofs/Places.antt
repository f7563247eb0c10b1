-- Which byte of a message, and which bit of a byte.
use Prim.Native.Nat.{ℕ, zero, suc, ◌+◌, ◌*◌, ◌%◌, ◌^◌, ◌≤◌, ◌<◌}
use native.Mathlib.Nat.{pow-suc, mul_comm}
use native.Mathlib.Numerals.{add-one}
use native.Mathlib.Omega.{arith}
use mathlib.Core.Path.{◌≡◌, refl, sym, ◌∙◌}
use mathlib.Core.Bool.{Bool, true, false, cond}
use mathlib.Core.List.{List, [], ◌∷◌, ◌++◌}
use lib.Arith.{mod-mul}
use lib.Dec.{eqb}
use lib.ListN.{length, get_or, take}
use lib.Pow.{pow_pos}
use lib.Seq.{take-suc}
use borrow.Author.Tests.{eq-eqb, ne_eqb, eqb-true, eqb-false, ltb-true}
use Rattle.bits.specs.Positions.{digit}
use Rattle.laws.specs.Search.{all}
use Rattle.laws.proofs.Bools.{both}
use Rattle.trace.specs.Events.{is_byte, start_event}
use Rattle.event_match.specs.declared.Part.TheVariants.{Bit, Acknowledge}
use Rattle.event_match.specs.Match.{byte_after, byte_from, first_bit}

-- ---- bytes
byte-end : (byte : ℕ) (events : List ℕ) (event : ℕ)
    → byte_from byte (events ++ event ∷ []) ≡ byte_after (byte_from byte events) event
byte-end byte [] event = refl
byte-end byte (first ∷ events) event = byte-end (byte_after byte first) events event

pub byte_more : (events : List ℕ) (i : ℕ) → i < length events
    → byte_after (byte_from 0 (take i events)) (get_or events i 0) ≡ byte_from 0 (take (i + 1) events)
byte_more events i less =
    sym (rw (add-one, take-suc events i 0 less) (byte-end 0 (take i events) (get_or events i 0)))

pub byte_small : (byte event limit : ℕ) → byte ≤ limit → byte_after byte event ≤ limit + 1
byte_small byte event limit small = go (eqb event start_event) (is_byte event)
  where
    go : (start byte-event : Bool) → cond start 0 (cond byte-event (suc byte) byte) ≤ limit + 1
    go true byte-event = omega arith
    go false true = omega arith
    go false false = omega arith

-- after a START that is not repeated the bytes are counted from 0
pub bytes_counted : (byte : ℕ) (events : List ℕ) → all is_byte events ≡ true → byte_from byte events ≡ byte + length events
bytes_counted byte [] bytes-all = omega arith
bytes_counted byte (event ∷ events) bytes-all =
    let two = both (is_byte event) (all is_byte events) bytes-all in
    let small : event < 512 = ltb-true event 512 two.0 in
    rw (ne_eqb event start_event (λ e. omega arith), two.0)
    (bytes_counted (suc byte) events two.1 ∙ omega arith)

pub byte-since-start : (byte : ℕ) (before bytes : List ℕ) → all is_byte bytes ≡ true
    → byte_from byte (before ++ start_event ∷ bytes) ≡ length bytes
byte-since-start byte [] bytes bytes-all = bytes_counted 0 bytes bytes-all ∙ omega arith
byte-since-start byte (event ∷ before) bytes bytes-all = byte-since-start (byte_after byte event) before bytes bytes-all

-- ---- bits
pub bit-more : (position low event other : ℕ) → suc low ≡ position → digit low event ≡ digit low other
    → first_bit position event other ≡ first_bit low event other
bit-more position low event other next alike =
    rw (← next) (rw (eq-eqb (digit low event) (digit low other) alike))

pub bit_found : (position low event other : ℕ) → suc low ≡ position → (digit low event ≡ digit low other → ⊥)
    → Bit low ≡ first_bit position event other
bit_found position low event other next differ =
    rw (← next) (rw (ne_eqb (digit low event) (digit low other) differ))

-- two events that differ first at a bit below a width
pub record FirstBit (width event other position : ℕ) : Type 0 where
  pub below : position < width
  pub differ : digit position event ≡ digit position other → ⊥
  pub higher : (place : ℕ) → position < place → place < width → digit place event ≡ digit place other

at-or-below : (event other place width : ℕ) → place < suc width → digit width event ≡ digit width other
    → (place < width → digit place event ≡ digit place other) → digit place event ≡ digit place other
at-or-below event other place width under here below = go (eqb place width) refl
  where
    go : (last : Bool) → eqb place width ≡ last → digit place event ≡ digit place other
    go true is = rw (eqb-true place width is) here
    go false is = below (omega (arith, eqb-false place width is))

pub first-bit : (width event other position : ℕ) → first_bit width event other ≡ Bit position
    → FirstBit width event other position
first-bit zero event other position reply = let never : ◌≡◌ {A = ℕ} 0 1 = cc in absurd (omega arith)
first-bit (suc width) event other position reply =
    go (eqb (digit width event) (digit width other)) refl reply (first-bit width event other position)
  where
    go : (same : Bool) → eqb (digit width event) (digit width other) ≡ same
        → cond same (first_bit width event other) (Bit width) ≡ Bit position
        → (first_bit width event other ≡ Bit position → FirstBit width event other position)
        → FirstBit (suc width) event other position
    go false is found rest =
        let here : width ≡ position = cc in
        record {
          below = omega arith;
          differ = rw (← here) (eqb-false (digit width event) (digit width other) is);
          higher = λ place above under. absurd (omega arith);
        }
    go true is found rest =
        let low = rest found in
        record {
          below = omega (arith, low.below);
          differ = low.differ;
          higher = λ place above under.
              at-or-below event other place width under (eqb-true (digit width event) (digit width other) is)
              (low.higher place above);
        }

-- no bit below a width differs: as numbers of that width they are the same
pub no-bit : (width event other : ℕ) → first_bit width event other ≡ Acknowledge → event % 2 ^ width ≡ other % 2 ^ width
no-bit zero event other reply = omega arith
no-bit (suc width) event other reply =
    go (eqb (digit width event) (digit width other)) refl reply (no-bit width event other)
  where
    power : 2 ^ suc width ≡ 2 * 2 ^ width
    power = pow-suc 2 width ∙ mul_comm (2 ^ width) 2

    parts : (x : ℕ) → x % 2 ^ suc width ≡ digit width x * 2 ^ width + x % 2 ^ width
    parts x = rw power (mod-mul x {m = 2} {c = 2 ^ width} (omega arith) (pow_pos width))

    go : (same : Bool) → eqb (digit width event) (digit width other) ≡ same
        → cond same (first_bit width event other) (Bit width) ≡ Acknowledge
        → (first_bit width event other ≡ Acknowledge → event % 2 ^ width ≡ other % 2 ^ width)
        → event % 2 ^ suc width ≡ other % 2 ^ suc width
    go true is none rest =
        parts event ∙ rw (eqb-true (digit width event) (digit width other) is, rest none) (sym (parts other))
    go false is none rest = let never : ◌≡◌ {A = ℕ} 0 1 = cc in absurd (omega arith)
