-- The round trips as statements about whole replies and about the slices that were lent.
use Prim.Native.Nat.{ℕ, ◌≤◌, ◌<◌}
use native.Mathlib.Omega.{arith}
use mathlib.Core.Path.{◌≡◌, sym, ap, ap₂, ◌∙◌}
use mathlib.Core.Bool.{true, false, not, ◌||◌}
use mathlib.Core.List.{List, [], ◌∷◌}
use lib.Dec.{eqb, ltb}
use lib.ListN.{length, take}
use lib.Seq.{take_at}
use borrow.Author.Tests.{ne_eqb, le-ltb, eqb-false, ltb-false, not-false}
use Rattle.laws.specs.Buffer.{filled}
use Rattle.std.specs.Prelude.{Ok}
use Rattle.laws.specs.Refusals.{Check, check}
use Rattle.laws.proofs.Bools.{neither}
use Rattle.laws.proofs.Refusals.{Passed, passed_first, passed-both, passed_ok, ok_passed, ok_same}
use Rattle.trace.specs.Limits.{max_samples, max_gap, largest_stamp}
use Rattle.trace.specs.Trace.{trace_checks, Rising}
use Rattle.trace.proofs.Pairs.{rising}
use Rattle.trace.proofs.Checked.{Checked, from-checks, to-checks}
use Rattle.encode.specs.Complete.{complete}
use Rattle.encode.specs.Encode.{drawing, sample_count, stamps_from, last_stamp}
use Rattle.encode.specs.EncodeReply.{encode_checks, encoded, stamps_after, levels_after}
use Rattle.encode.proofs.Stamps.{length-stamps}
use Rattle.encode.proofs.Samples.{drawing-length}
use Rattle.decode.specs.declared.Decoded.{Decoded}
use Rattle.decode.specs.Decode.{events}
use Rattle.decode.specs.DecodeReply.{decode_checks, read_as, meant, decoded, events_after}
use Rattle.trace_theorems.proofs.Drawings.{drawing-legal, stamps-rise}
use Rattle.trace_theorems.proofs.ReadBack.{events-back, frame_closed, none-pending, value-zero}
use Rattle.trace_theorems.proofs.Redraw.{redraw-limit}

-- what encode has found of a list that it draws
pub record Accepted (list : List ℕ) (gap count : ℕ) : Type 0 where
  pub whole : complete list ≡ true
  pub positive : 0 < gap
  pub few : sample_count list ≤ max_samples
  pub counted : sample_count list ≡ count

pub accepted : (list : List ℕ) (start gap stamp_room level_room count : ℕ)
    → encoded list start gap stamp_room level_room ≡ Ok count → Accepted list gap count
unfolding encoded
accepted list start gap stamp_room level_room count reply =
    let checks = encode_checks list start gap stamp_room level_room in
    let all = passed_ok checks (sample_count list) count reply in
    record {
      whole = not-false (complete list) all.0;
      positive = omega (arith, eqb-false gap 0 (neither (eqb gap 0) (ltb max_gap gap) all.1.0).0);
      few = ltb-false max_samples (sample_count list) all.1.1.0;
      counted = ok_same checks (sample_count list) count reply;
    }

-- decode's last check
abbrev room_check : List ℕ → ℕ → List Check
room_check levels room = check 8 (ltb room (length (events levels))) ∷ []

-- what decode has found of a trace that it reads
pub record Taken (stamps levels : List ℕ) (count : ℕ) : Type 0 where
  pub trace : Checked stamps levels
  pub counted : length (events levels) ≡ count

module _ (stamps levels : List ℕ) (room : ℕ) (read : Decoded) where
  pub taken : decoded stamps levels room ≡ Ok read → Taken stamps levels read.count
  unfolding decoded
  taken reply =
      let checks = decode_checks stamps levels room in
      record {
        trace = from-checks stamps levels (passed_first (trace_checks stamps levels) (room_check levels room)
            (passed_ok checks (meant levels) read reply));
        counted = ap (λ (d : Decoded). d.count) (ok_same checks (meant levels) read reply);
      }

-- a trace that is read rises at every sample
pub read-rises : (stamps levels : List ℕ) (room : ℕ) (read : Decoded)
    → decoded stamps levels room ≡ Ok read → Rising stamps
read-rises stamps levels room read reply = (taken stamps levels room read reply).trace.rises

-- decode replies with the events of each trace for which there is room
pub reads : (stamps levels : List ℕ) (room : ℕ) → Checked stamps levels → length (events levels) ≤ room
    → decoded stamps levels room ≡ Ok (meant levels)
unfolding decoded
reads stamps levels room trace fits =
    let all =
    passed-both (trace_checks stamps levels) (room_check levels room) (to-checks trace)
    (le-ltb room (length (events levels)) fits, tt) in
    ok_passed (decode_checks stamps levels room) (meant levels) all

-- what encode leaves in the slices that it was lent, decode reads back into a slice: the same list, with no frame open
-- and nothing pending, and the rest of that slice as it was
module _ (list stamps levels buffer : List ℕ) (start gap count : ℕ)
    (reply : encoded list start gap (length stamps) (length levels) ≡ Ok count)
    (fits : length list ≤ length buffer) where
  abbrev drawn_stamps : List ℕ
  drawn_stamps = take count (stamps_after (Ok count) start gap stamps)

  abbrev drawn_levels : List ℕ
  drawn_levels = take count (levels_after (Ok count) list levels)

  found : Accepted list gap count
  found = accepted list start gap (length stamps) (length levels) count reply

  stamps_are : drawn_stamps ≡ stamps_from start gap count
  stamps_are = take_at (stamps_from start gap count) _ count (length-stamps start gap count)

  levels_are : drawn_levels ≡ drawing list
  levels_are = take_at (drawing list) _ count (drawing-length list found.whole ∙ found.counted)

  is-trace : Checked (stamps_from start gap count) (drawing list)
  is-trace =
      let samples = drawing-length list found.whole in
      record {
        same = length-stamps start gap count ∙ sym found.counted ∙ sym samples;
        few = omega (arith, found.few);
        legal = drawing-legal list;
        rises = rising (stamps_from start gap count) (stamps-rise count start gap found.positive);
      }

  pub drawn-reads-back : decoded drawn_stamps drawn_levels (length buffer) ≡ Ok (read_as (length list) false 0 0)
  drawn-reads-back =
      let whole = found.whole in
      rw (stamps_are, levels_are)
      (reads (stamps_from start gap count) (drawing list) (length buffer) is-trace (rw (events-back list whole) fits)
      ∙ rw (events-back list whole, frame_closed list whole, none-pending list whole, value-zero list whole))

  pub drawn-slice-holds : events_after (decoded drawn_stamps drawn_levels (length buffer)) drawn_levels buffer
      ≡ filled list buffer
  drawn-slice-holds = rw (drawn-reads-back, levels_are, events-back list found.whole)

-- a complete list that decode leaves in the slice that it was lent is drawn: from stamp 0 with gap 1 in room for 4,096
-- samples with no condition, and from any start, gap and room that allow it
module _ (stamps levels buffer : List ℕ) (read : Decoded)
    (reply : decoded stamps levels (length buffer) ≡ Ok read) where
  abbrev read_events : List ℕ
  read_events = take read.count (events_after (Ok read) levels buffer)

  events-are : read_events ≡ events levels
  events-are =
      take_at (events levels) _ read.count (taken stamps levels (length buffer) read reply).counted

  module _ (whole : complete read_events ≡ true) where
    pub read-is-drawn : (start gap stamp_room level_room : ℕ) → 0 < gap → gap ≤ max_gap
        → last_stamp start gap (sample_count read_events) ≤ largest_stamp
        → sample_count read_events ≤ stamp_room → sample_count read_events ≤ level_room
        → encoded read_events start gap stamp_room level_room ≡ Ok (sample_count read_events)
    unfolding encoded
    read-is-drawn start gap stamp_room level_room positive small in-time stamps-fit levels-fit =
        let trace = (taken stamps levels (length buffer) read reply).trace in
        let few : sample_count read_events ≤ max_samples =
        rw events-are (redraw-limit levels trace.few (rw events-are at whole)) in
        let all : Passed (encode_checks read_events start gap stamp_room level_room) = (
          ap not whole,
          (
            ap₂ ◌||◌ (ne_eqb gap 0 (λ e. omega arith)) (le-ltb max_gap gap small),
            (
              le-ltb max_samples (sample_count read_events) few,
              (
                le-ltb largest_stamp (last_stamp start gap (sample_count read_events)) in-time,
                (ap₂ ◌||◌ (le-ltb stamp_room _ stamps-fit) (le-ltb level_room _ levels-fit), tt),
              ),
            ),
          ),
        ) in
        ok_passed (encode_checks read_events start gap stamp_room level_room) (sample_count read_events) all

    pub drawable : encoded read_events 0 1 max_samples max_samples ≡ Ok (sample_count read_events)
    drawable =
        let trace = (taken stamps levels (length buffer) read reply).trace in
        let few : sample_count read_events ≤ max_samples =
        rw events-are (redraw-limit levels trace.few (rw events-are at whole)) in
        read-is-drawn 0 1 max_samples max_samples (omega arith) (omega arith) (omega (arith, few)) few few
