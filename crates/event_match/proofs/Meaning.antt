-- What compare's answer says of the two lists.
use Prim.Native.Nat.{ℕ, ◌/◌, ◌%◌, ◌≤◌, ◌<◌}
use native.Mathlib.Omega.{arith}
use mathlib.Core.Path.{◌≡◌, refl, sym, ap, ◌∙◌}
use mathlib.Core.Bool.{Bool, true, false, cond, ◌&&◌}
use mathlib.Core.List.{List}
use lib.Dec.{ltb}
use lib.ListN.{length, get_or, take}
use borrow.Author.Tests.{ltb-true}
use Rattle.std.specs.Prelude.{Some, None}
use Rattle.std.proofs.lemmas.Option.{none-some, same_Some}
use Rattle.laws.specs.Same.{same}
use Rattle.laws.proofs.Bools.{both}
use Rattle.laws.proofs.Same.{same_self, same-equal}
use Rattle.trace.specs.Events.{is_byte}
use Rattle.event_match.specs.declared.Part.{Part}
use Rattle.event_match.specs.declared.Part.TheVariants.{Other, Bit, Acknowledge}
use Rattle.event_match.specs.declared.Difference.{Difference}
use Rattle.event_match.specs.Match.{agreed, byte_from, first_bit, part_of, part_at, difference_at, compared}
use Rattle.event_match.proofs.Agreeing.{agreed-within, agreed-before, agreed-differ, agreed-all}
use Rattle.event_match.proofs.Places.{FirstBit, first-bit, no-bit}

-- ---- equal exactly when the lists are
told : (equal : Bool) (difference : Difference) → cond equal None (Some difference) ≡ None → equal ≡ true
told true difference reply = refl
told false difference reply = absurd (none-some difference (sym reply))

pub equal-lists : (rehearsed seen : List ℕ) → compared rehearsed seen ≡ None → rehearsed ≡ seen
unfolding compared
equal-lists rehearsed seen reply =
    same-equal rehearsed seen (told (same rehearsed seen) _ reply)

pub lists-equal : (list : List ℕ) → compared list list ≡ None
unfolding compared
lists-equal list = rw (same_self list)

-- ---- the first difference
pub record Differs (rehearsed seen : List ℕ) (index byte : ℕ) (part : Part) : Type 0 where
  pub in-rehearsed : index ≤ length rehearsed
  pub in-seen : index ≤ length seen
  -- the events before the place agree
  pub before : take index rehearsed ≡ take index seen
  -- at the place one list goes on and the other ends, or their events differ
  pub goes-on : length rehearsed ≤ index → length seen ≤ index → ⊥
  pub differ : index < length rehearsed → index < length seen → get_or rehearsed index 0 ≡ get_or seen index 0 → ⊥
  pub byte-is : byte ≡ byte_from 0 (take index rehearsed)
  pub part-is : part ≡ part_at rehearsed seen index

parts-of : (equal : Bool) (at-index at_byte index byte : ℕ) (at_part part : Part)
    → cond equal None (Some (difference_at at-index at_byte at_part)) ≡ Some (difference_at index byte part)
    → (equal ≡ false) × (at-index ≡ index) × (at_byte ≡ byte) × (at_part ≡ part)
parts-of false at-index at_byte index byte at_part part reply =
    let same = same_Some _ _ reply in
    (refl, ap (λ (d : Difference). d.index) same, ap (λ (d : Difference). d.byte) same, ap (λ (d : Difference). d.part) same)
parts-of true at-index at_byte index byte at_part part reply = absurd (none-some (difference_at index byte part) reply)

pub differs : (rehearsed seen : List ℕ) (index byte : ℕ) (part : Part)
    → compared rehearsed seen ≡ Some (difference_at index byte part) → Differs rehearsed seen index byte part
unfolding compared
differs rehearsed seen index byte part reply =
    let found = parts-of (same rehearsed seen) _ _ index byte _ part reply in
    let is : agreed rehearsed seen ≡ index = found.1 in
    let within = agreed-within rehearsed seen in
    record {
      in-rehearsed = omega (arith, within.0);
      in-seen = omega (arith, within.1);
      before = rw (← is) (agreed-before rehearsed seen);
      goes-on = λ all also.
          let alike : rehearsed ≡ seen = agreed-all rehearsed seen (omega arith) (omega arith) in
          not-both (sym found.0 ∙ rw alike (same_self seen));
      differ = rw (← is) (agreed-differ rehearsed seen);
      byte-is = rw (← is) (sym found.2);
      part-is = rw (← is) (sym found.3);
    }
  where
    not-both : false ≡ true → ⊥
    not-both e = let never : ◌≡◌ {A = ℕ} 0 1 = cc in omega arith

-- ---- the part: both lists have a byte there
pub record Bytes (rehearsed seen : List ℕ) (index : ℕ) (part : Part) : Type 0 where
  pub more : index < length rehearsed
  pub others : index < length seen
  pub rehearsed-byte : get_or rehearsed index 0 < 512
  pub seen-byte : get_or seen index 0 < 512
  pub part-is : first_bit 8 (get_or rehearsed index 0) (get_or seen index 0) ≡ part

module _ (rehearsed seen : List ℕ) (index : ℕ) (part : Part) (some : part ≡ Other → ⊥) where
  taken : (test : Bool) (inner : Part) → part ≡ cond test inner Other → (test ≡ true) × (inner ≡ part)
  taken true inner is = (refl, sym is)
  taken false inner is = absurd (some is)

  pub bytes : part ≡ part_at rehearsed seen index → Bytes rehearsed seen index part
  unfolding part_at part_of
  bytes is =
      let outer =
      taken (ltb index (length rehearsed) && ltb index (length seen)) (part_of (get_or rehearsed index 0) (get_or seen index 0)) is in
      let inner =
      taken (is_byte (get_or rehearsed index 0) && is_byte (get_or seen index 0))
      (first_bit 8 (get_or rehearsed index 0) (get_or seen index 0)) (sym outer.1) in
      let ends = both (ltb index (length rehearsed)) (ltb index (length seen)) outer.0 in
      let both_bytes = both (is_byte (get_or rehearsed index 0)) (is_byte (get_or seen index 0)) inner.0 in
      record {
        more = ltb-true index (length rehearsed) ends.0;
        others = ltb-true index (length seen) ends.1;
        rehearsed-byte = ltb-true (get_or rehearsed index 0) 512 both_bytes.0;
        seen-byte = ltb-true (get_or seen index 0) 512 both_bytes.1;
        part-is = inner.1;
      }

module _ (rehearsed seen : List ℕ) (index byte : ℕ) where
  -- a bit: it differs, and every higher one of the eight is the same
  pub bit-is-first : (position : ℕ) → compared rehearsed seen ≡ Some (difference_at index byte (Bit position))
      → FirstBit 8 (get_or rehearsed index 0) (get_or seen index 0) position
  bit-is-first position reply =
      let found = differs rehearsed seen index byte (Bit position) reply in
      let two = bytes rehearsed seen index (Bit position) (λ e. never e) found.part-is in
      first-bit 8 (get_or rehearsed index 0) (get_or seen index 0) position two.part-is
    where
      never : {position : ℕ} → Bit position ≡ Other → ⊥
      never e = let no : ◌≡◌ {A = ℕ} 0 1 = cc in omega arith

  -- the acknowledge: the same byte, acknowledged in one list and not in the other
  pub acknowledge-differs : compared rehearsed seen ≡ Some (difference_at index byte Acknowledge)
      → (get_or rehearsed index 0 % 256 ≡ get_or seen index 0 % 256)
      × (get_or rehearsed index 0 / 256 ≡ get_or seen index 0 / 256 → ⊥)
  acknowledge-differs reply =
      let found = differs rehearsed seen index byte Acknowledge reply in
      let two = bytes rehearsed seen index Acknowledge (λ e. never e) found.part-is in
      let low : get_or rehearsed index 0 % 256 ≡ get_or seen index 0 % 256 =
      no-bit 8 (get_or rehearsed index 0) (get_or seen index 0) two.part-is in
      (low, (λ high. found.differ two.more two.others (omega arith)))
    where
      never : Acknowledge ≡ Other → ⊥
      never e = let no : ◌≡◌ {A = ℕ} 0 1 = cc in omega arith
