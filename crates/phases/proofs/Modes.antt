-- The modes as statements about whole replies: unchecked is the reader as it was, and what encode draws is read back in
-- a mode exactly when its gap is wide enough.
use Prim.Native.Nat.{ℕ, suc, ◌+◌, ◌*◌, ◌≤◌, ◌<◌}
use native.Mathlib.Omega.{arith}
use mathlib.Core.Logic.{◌⊎◌, inl, inr, ⊎_elim}
use mathlib.Core.Path.{◌≡◌, refl, sym, ap, ap₂, ◌∙◌}
use mathlib.Core.Bool.{Bool, true, false}
use mathlib.Core.List.{List, [], ◌∷◌, ◌++◌}
use mir.Val.{bool_byte}
use lib.Dec.{ltb}
use lib.ListN.{length, take}
use lib.Seq.{take_at}
use borrow.Author.Tests.{lt-ltb, ltb-true, ltb-false}
use Rattle.std.specs.Prelude.{Result, Ok, Err}
use Rattle.laws.specs.Buffer.{filled}
use Rattle.laws.specs.declared.Refusal.{Refusal}
use Rattle.laws.specs.Refusals.{refused_at, answer}
use Rattle.laws.proofs.Refusals.{ok_passed}
use Rattle.bits.specs.Positions.{is_set}
use Rattle.trace.specs.Trace.{trace_checks, Rising}
use Rattle.trace.proofs.Pairs.{rising}
use Rattle.trace.proofs.Checked.{Checked, checked, to-checks}
use Rattle.encode.specs.declared.Position.TheVariants.{Between}
use Rattle.encode.specs.Complete.{Completes, ended, start, first}
use Rattle.encode.specs.Encode.{bits_below, byte_bits, draw_bits, draw_event, draw_events, drawing, stamps_from}
use Rattle.encode.specs.EncodeReply.{encoded, stamps_after, levels_after}
use Rattle.encode.proofs.Grammar.{completes}
use Rattle.encode.proofs.Samples.{drawing-length}
use Rattle.encode.proofs.Stamps.{length-stamps}
use Rattle.decode.specs.declared.Decoded.{Decoded}
use Rattle.decode.specs.DecodeReply.{read_as, decoded, events_after}
use Rattle.decode.proofs.Reply.{in_order as in_order-before}
use Rattle.trace_theorems.proofs.Drawings.{drawing-legal, stamps-rise}
use Rattle.trace_theorems.proofs.Replies.{Accepted, accepted, drawn-reads-back, drawn-slice-holds}
use Rattle.phases.specs.declared.Mode.{Mode}
use Rattle.phases.specs.declared.Mode.TheVariants.{Unchecked, Standard, Fast}
use Rattle.phases.specs.Phases.{least, first_short}
use Rattle.phases.specs.DecodedIn.{decoded_in}
use Rattle.phases.proofs.Reply.{in_order, long-enough}
use Rattle.phases.proofs.Apart.{Apart, apart_none, stamps-apart, third-ends}

-- ---- every mode: the reply as it was, or 18 with its place for a trace that decode does not refuse by 5, 6, 4 or 7
module _ (mode : Mode) (stamps levels : List ℕ) (room : ℕ) where
  abbrev AsBefore : Type 0
  AsBefore = decoded_in mode stamps levels room ≡ decoded stamps levels room

  pub record Short : Type 0 where
    pub trace : Checked stamps levels
    pub within : first_short mode stamps levels < length levels
    pub reply : decoded_in mode stamps levels room ≡ Err (refused_at 18 (first_short mode stamps levels))

  pub before-or-18 : AsBefore ⊎ Short
  before-or-18 = go (answer (trace_checks stamps levels) (tt {0})) refl
    where
      by_length : (u : Unit {0}) → answer (trace_checks stamps levels) (tt {0}) ≡ Ok u
          → (short : Bool) → ltb (first_short mode stamps levels) (length levels) ≡ short → AsBefore ⊎ Short
      by_length u passes true is =
          inr (record {
            trace = checked stamps levels tt u passes;
            within = ltb-true (first_short mode stamps levels) (length levels) is;
            reply = in_order mode stamps levels room ∙ rw (passes, is) refl;
          })
      by_length u passes false is =
          inl (long-enough mode stamps levels room (ltb-false (first_short mode stamps levels) (length levels) is))

      go : (first : Result (Unit {0}) Refusal) → answer (trace_checks stamps levels) (tt {0}) ≡ first → AsBefore ⊎ Short
      go (Ok u) is = by_length u is (ltb (first_short mode stamps levels) (length levels)) refl
      go (Err refusal) is =
          inl (in_order mode stamps levels room ∙ rw is (sym (in_order-before stamps levels room ∙ rw is refl)))

-- ---- unchecked
-- rising stamps are apart by no less than 0
rising-apart : (stamps : List ℕ) → Rising stamps → Apart 0 stamps
rising-apart stamps rises = record { apart = λ i within. omega (arith, rises.above i within) }

-- unchecked reads as before, whatever is lent
pub unchecked-as-before : (stamps levels : List ℕ) (room : ℕ)
    → decoded_in Unchecked stamps levels room ≡ decoded stamps levels room
unchecked-as-before stamps levels room =
    ⊎_elim (λ same. same)
    (λ short. absurd (omega (arith, short.within, none short.trace)))
    (before-or-18 Unchecked stamps levels room)
  where
    none : Checked stamps levels → first_short Unchecked stamps levels ≡ length levels
    none trace =
        apart_none (least Unchecked) 0 (omega arith) (omega arith) stamps levels (rising-apart stamps trace.rises)
        trace.same

-- ---- what encode draws
high-is-less : (mode : Mode) → (least mode).high ≤ (least mode).low
high-is-less Unchecked = omega arith
high-is-less Standard = omega arith
high-is-less Fast = omega arith

-- the first four levels of a list that is not empty: 3, 1 and a bit
record Begins (list : List ℕ) : Type 0 where
  bit : Bool
  levels : List ℕ
  are : drawing list ≡ 3 ∷ 1 ∷ 2 * bool_byte bit ∷ (2 * bool_byte bit + 1) ∷ levels

begins : (list : List ℕ) → Completes Between list → (list ≡ [] → ⊥) → Begins list
unfolding draw_event byte_bits
begins _ ended some = absurd (some refl)
begins _ (start (first {event} {events} byte rest)) some =
    record {
      bit = is_set 7 event;
      levels = draw_bits (bits_below 7 event ++ is_set 8 event ∷ []) ++ draw_events events;
      are = rw byte;
    }

module _ (mode : Mode) (list stamps levels : List ℕ) (start gap count : ℕ)
    (reply : encoded list start gap (length stamps) (length levels) ≡ Ok count) where
  abbrev drawn_stamps : List ℕ
  drawn_stamps = take count (stamps_after (Ok count) start gap stamps)

  abbrev drawn_levels : List ℕ
  drawn_levels = take count (levels_after (Ok count) list levels)

  found : Accepted list gap count
  found = accepted list start gap (length stamps) (length levels) count reply

  samples : length (drawing list) ≡ count
  samples = drawing-length list found.whole ∙ found.counted

  stamps_are : drawn_stamps ≡ stamps_from start gap count
  stamps_are = take_at (stamps_from start gap count) _ count (length-stamps start gap count)

  levels_are : drawn_levels ≡ drawing list
  levels_are = take_at (drawing list) _ count samples

  same_length : length (stamps_from start gap count) ≡ length (drawing list)
  same_length = length-stamps start gap count ∙ sym samples

  -- a gap of at least the low limit: the slices are read back, and the rest of the lent slice stays
  module _ (wide : (least mode).low ≤ gap) where
    enough : length drawn_levels ≤ first_short mode drawn_stamps drawn_levels
    enough =
        rw (stamps_are, levels_are)
        (omega (
          arith,
          apart_none (least mode) gap wide (omega (arith, high-is-less mode))
              (stamps_from start gap count) (drawing list) (stamps-apart count start gap) same_length,
        ))

    pub reads-back-in : (buffer : List ℕ) → length list ≤ length buffer
        → decoded_in mode drawn_stamps drawn_levels (length buffer) ≡ Ok (read_as (length list) false 0 0)
    reads-back-in buffer fits =
        long-enough mode drawn_stamps drawn_levels (length buffer) enough
        ∙ drawn-reads-back list stamps levels buffer start gap count reply fits

    pub slice-holds-in : (buffer : List ℕ) → length list ≤ length buffer
        → events_after (decoded_in mode drawn_stamps drawn_levels (length buffer)) drawn_levels buffer ≡ filled list buffer
    slice-holds-in buffer fits =
        ap (λ (reply : Result Decoded Refusal). events_after reply drawn_levels buffer)
        (long-enough mode drawn_stamps drawn_levels (length buffer) enough)
        ∙ drawn-slice-holds list stamps levels buffer start gap count reply fits

  -- a smaller one: 18 at sample 3, for every list that is not empty and whatever room is lent
  pub refused-in : (room : ℕ) → gap < (least mode).low → (list ≡ [] → ⊥)
      → decoded_in mode drawn_stamps drawn_levels room ≡ Err (refused_at 18 3)
  refused-in room small some =
      rw (stamps_are, levels_are) (go (begins list (completes Between list found.whole) some))
    where
      trace : Checked (stamps_from start gap count) (drawing list)
      trace =
          record {
            same = same_length;
            few = omega (arith, found.few, drawing-length list found.whole);
            legal = drawing-legal list;
            rises = rising (stamps_from start gap count) (stamps-rise count start gap found.positive);
          }

      passes : answer (trace_checks (stamps_from start gap count) (drawing list)) (tt {0}) ≡ Ok tt
      passes = ok_passed (trace_checks (stamps_from start gap count) (drawing list)) tt (to-checks trace)

      go : Begins list → decoded_in mode (stamps_from start gap count) (drawing list) room ≡ Err (refused_at 18 3)
      go first-bit =
          let long : length (drawing list) ≡ suc (suc (suc (suc (length first-bit.levels)))) =
          ap length first-bit.are in
          let third : first_short mode (stamps_from start gap count) (drawing list) ≡ 3 =
          ap₂ (λ (n : ℕ) (l : List ℕ). first_short mode (stamps_from start gap n) l) (sym samples ∙ long) first-bit.are
          ∙ third-ends (least mode) start gap (length first-bit.levels) first-bit.bit first-bit.levels small in
          let within : first_short mode (stamps_from start gap count) (drawing list) < length (drawing list) =
          omega (arith, third, long) in
          in_order mode (stamps_from start gap count) (drawing list) room
          ∙ rw (passes, lt-ltb (first_short mode (stamps_from start gap count) (drawing list)) (length (drawing list)) within, third) refl

-- ---- by NXP's numbers: 47 and 13 are wide enough, 46 and 12 are not
module _ (list stamps levels : List ℕ) (start count : ℕ) where
  -- what encode drew with a gap, read in a mode
  abbrev drawn_in : Mode → ℕ → ℕ → Result Decoded Refusal
  drawn_in mode gap room =
      decoded_in mode (take count (stamps_after (Ok count) start gap stamps))
      (take count (levels_after (Ok count) list levels)) room

  abbrev Draws : ℕ → Type 0
  Draws gap = encoded list start gap (length stamps) (length levels) ≡ Ok count

  pub standard-reads-back : (gap : ℕ) (buffer : List ℕ) → Draws gap → 47 ≤ gap → length list ≤ length buffer
      → drawn_in Standard gap (length buffer) ≡ Ok (read_as (length list) false 0 0)
  standard-reads-back gap buffer reply wide fits =
      reads-back-in Standard list stamps levels start gap count reply wide buffer fits

  pub fast-reads-back : (gap : ℕ) (buffer : List ℕ) → Draws gap → 13 ≤ gap → length list ≤ length buffer
      → drawn_in Fast gap (length buffer) ≡ Ok (read_as (length list) false 0 0)
  fast-reads-back gap buffer reply wide fits =
      reads-back-in Fast list stamps levels start gap count reply wide buffer fits

  pub standard-refuses-46 : (room : ℕ) → Draws 46 → (list ≡ [] → ⊥) → drawn_in Standard 46 room ≡ Err (refused_at 18 3)
  standard-refuses-46 room reply some =
      refused-in Standard list stamps levels start 46 count reply room (omega arith) some

  pub fast-refuses-12 : (room : ℕ) → Draws 12 → (list ≡ [] → ⊥) → drawn_in Fast 12 room ≡ Err (refused_at 18 3)
  fast-refuses-12 room reply some =
      refused-in Fast list stamps levels start 12 count reply room (omega arith) some
