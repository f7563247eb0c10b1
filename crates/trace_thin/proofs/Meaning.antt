-- What thin's answer says of a capture: what it leaves is a trace, and decode finds the events of the whole in it.
use Prim.Native.Nat.{ℕ, ◌≤◌}
use native.Mathlib.Omega.{arith}
use mathlib.Core.Path.{◌≡◌, refl, sym, ap, ap₂, ◌∙◌}
use mathlib.Core.Bool.{Bool, true, false, cond, ◌||◌}
use mathlib.Core.List.{List, [], ◌∷◌, ◌++◌, map}
use lib.Dec.{eqb, ltb}
use lib.ListN.{length, take, length-map}
use lib.Seq.{take_at}
use borrow.Author.Tests.{ltb-false, le-ltb}
use Rattle.laws.specs.Buffer.{filled}
use Rattle.laws.specs.Everyone.{Everyone, nobody, also}
use Rattle.std.specs.Prelude.{Ok, Err}
use Rattle.laws.specs.Refusals.{refused_at, answer}
use Rattle.laws.specs.Search.{any}
use Rattle.laws.proofs.Lists.{any_false, any_none}
use Rattle.laws.proofs.Refusals.{passed_first, passed-both, passed_ok, ok_passed, ok_same}
use Rattle.trace.specs.Limits.{max_samples}
use Rattle.trace.specs.Ordered.{Ordered}
use Rattle.trace.specs.Samples.{samples, stamps_of, levels_of}
use Rattle.trace.specs.Trace.{bad_level, trace_checks}
use Rattle.trace.proofs.Checked.{Checked, to-checks}
use Rattle.trace.proofs.Ordered.{ordered-rising, rising-ordered}
use Rattle.trace.proofs.Samples.{stamps-again, levels-again}
use Rattle.decode.specs.Decode.{events, final}
use Rattle.decode.specs.DecodeReply.{meant, decoded, events_after}
use Rattle.decode.proofs.Reply.{in_order}
use Rattle.trace.specs.Changes.{changes_from, thinned}
use Rattle.trace_thin.specs.ThinReply.{capture_checks, count_left, left_checks, thin_checks, thin_answer}
use Rattle.trace_thin.specs.ThinReply.{stamps_after, levels_after}
use Rattle.trace_thin.proofs.Reply.{Captured, from_capture, to_capture}
use Rattle.trace_thin.proofs.Steady.{thinned-alike}

-- what holds of every sample holds of those that are left
changes-everyone : {P : ℕ → Type 0} (f : ℕ × ℕ → ℕ) (last : ℕ) (list : List (ℕ × ℕ)) → Everyone P (map f list)
    → Everyone P (map f (changes_from last list))
changes-everyone f last [] all = nobody
changes-everyone {P} f last (sample ∷ list) (also p others) =
    go (eqb sample.1 last) (changes-everyone f sample.1 list others)
  where
    go : (same : Bool) → Everyone P (map f (changes_from sample.1 list))
        → Everyone P (map f (cond same [] (sample ∷ []) ++ changes_from sample.1 list))
    go true rest = rest
    go false rest = also p rest

pub thinned-everyone : {P : ℕ → Type 0} (f : ℕ × ℕ → ℕ) (list : List (ℕ × ℕ)) → Everyone P (map f list)
    → Everyone P (map f (thinned list))
thinned-everyone f [] all = nobody
thinned-everyone f (sample ∷ list) (also p others) = also p (changes-everyone f sample.1 list others)

changes-ordered : (last : ℕ) (list : List (ℕ × ℕ)) → Ordered (stamps_of list) → Ordered (stamps_of (changes_from last list))
changes-ordered last [] in-order = tt
changes-ordered last (sample ∷ list) in-order =
    go (eqb sample.1 last) (changes-ordered sample.1 list in-order.1)
  where
    go : (same : Bool) → Ordered (stamps_of (changes_from sample.1 list))
        → Ordered (stamps_of (cond same [] (sample ∷ []) ++ changes_from sample.1 list))
    go true rest = rest
    go false rest = (changes-everyone (λ s. s.0) sample.1 list in-order.0, rest)

pub thinned-ordered : (list : List (ℕ × ℕ)) → Ordered (stamps_of list) → Ordered (stamps_of (thinned list))
thinned-ordered [] in-order = tt
thinned-ordered (sample ∷ list) in-order =
    (changes-everyone (λ s. s.0) sample.1 list in-order.0, changes-ordered sample.1 list in-order.1)

-- what thin has found of a capture that it thins
pub record Taken (stamps levels : List ℕ) (count : ℕ) : Type 0 where
  pub capture : Captured stamps levels
  pub few : count_left stamps levels ≤ max_samples
  pub counted : count_left stamps levels ≡ count

pub taken : (stamps levels : List ℕ) (stamp_room level_room count : ℕ)
    → thin_answer stamps levels stamp_room level_room ≡ Ok count → Taken stamps levels count
unfolding thin_answer
taken stamps levels stamp_room level_room count reply =
    let checks = thin_checks stamps levels stamp_room level_room in
    let left = left_checks (count_left stamps levels) stamp_room level_room in
    let all = passed_ok checks (count_left stamps levels) count reply in
    record {
      capture = from_capture stamps levels (passed_first (capture_checks stamps levels) left all);
      few = ltb-false max_samples (count_left stamps levels) all.1.1.1.0;
      counted = ok_same checks (count_left stamps levels) count reply;
    }

-- it thins every such capture, where the slices have room for what is left
pub thins : (stamps levels : List ℕ) (stamp_room level_room : ℕ) → Captured stamps levels
    → count_left stamps levels ≤ max_samples → count_left stamps levels ≤ stamp_room → count_left stamps levels ≤ level_room
    → thin_answer stamps levels stamp_room level_room ≡ Ok (count_left stamps levels)
unfolding thin_answer
thins stamps levels stamp_room level_room capture few stamps-fit levels-fit =
    let left = left_checks (count_left stamps levels) stamp_room level_room in
    let room = ap₂ ◌||◌ (le-ltb stamp_room (count_left stamps levels) stamps-fit)
    (le-ltb level_room (count_left stamps levels) levels-fit) in
    ok_passed (thin_checks stamps levels stamp_room level_room) (count_left stamps levels)
    (passed-both (capture_checks stamps levels) left (to_capture stamps levels capture)
    (le-ltb max_samples (count_left stamps levels) few, (room, tt)))

module _ (stamps levels stamp_buffer level_buffer : List ℕ) (count : ℕ)
    (reply : thin_answer stamps levels (length stamp_buffer) (length level_buffer) ≡ Ok count) where
  -- the samples that the lent slices hold after it
  abbrev thin_stamps : List ℕ
  thin_stamps = take count (stamps_after (Ok count) stamps levels stamp_buffer)

  abbrev thin_levels : List ℕ
  thin_levels = take count (levels_after (Ok count) stamps levels level_buffer)

  found : Taken stamps levels count
  found = taken stamps levels (length stamp_buffer) (length level_buffer) count reply

  stamps_are : thin_stamps ≡ stamps_of (thinned (samples stamps levels))
  stamps_are =
      take_at (stamps_of (thinned (samples stamps levels))) _ count
      (length-map (thinned (samples stamps levels)) (λ s. s.0) ∙ found.counted)

  levels_are : thin_levels ≡ levels_of (thinned (samples stamps levels))
  levels_are =
      take_at (levels_of (thinned (samples stamps levels))) _ count
      (length-map (thinned (samples stamps levels)) (λ s. s.1) ∙ found.counted)

  -- what is left is a trace
  pub thin-checked : Checked thin_stamps thin_levels
  thin-checked =
      let capture = found.capture in
      let stamps-long : length thin_stamps ≡ count =
      ap length stamps_are ∙ length-map (thinned (samples stamps levels)) (λ s. s.0) ∙ found.counted in
      let levels-long : length thin_levels ≡ count =
      ap length levels_are ∙ length-map (thinned (samples stamps levels)) (λ s. s.1) ∙ found.counted in
      let in-order : Ordered (stamps_of (samples stamps levels)) =
      rw (stamps-again stamps levels capture.same) (rising-ordered stamps capture.rises) in
      let legal : any bad_level (levels_of (samples stamps levels)) ≡ false =
      rw (levels-again stamps levels capture.same) capture.legal in
      record {
        same = stamps-long ∙ sym levels-long;
        few = omega (arith, levels-long, found.counted, found.few);
        legal = rw levels_are (any_none (thinned-everyone (λ s. s.1) (samples stamps levels)
            (any_false bad_level (levels_of (samples stamps levels)) legal)));
        rises = rw stamps_are (ordered-rising (stamps_of (thinned (samples stamps levels)))
            (thinned-ordered (samples stamps levels) in-order));
      }

  -- its events are those of the whole capture, and at its end the decoder knows the same
  pub same-events : (events thin_levels ≡ events levels) × (final thin_levels ≡ final levels)
  same-events =
      let alike = thinned-alike (samples stamps levels) in
      let whole = levels-again stamps levels found.capture.same in
      (ap events levels_are ∙ alike.0 ∙ ap events whole, ap final levels_are ∙ alike.1 ∙ ap final whole)

  passes : answer (trace_checks thin_stamps thin_levels) (tt {0}) ≡ Ok tt
  passes = ok_passed (trace_checks thin_stamps thin_levels) tt (to-checks thin-checked)

  -- decode answers what the definition of the events says of the whole capture, however long it is
  pub thin-decodes : (room : ℕ) → length (events levels) ≤ room → decoded thin_stamps thin_levels room ≡ Ok (meant levels)
  thin-decodes room fits =
      in_order thin_stamps thin_levels room
      ∙ rw (passes, same-events.0, same-events.1) (rw (le-ltb room (length (events levels)) fits) refl)

  -- it is refused by 8 alone, where the slice is too short for those events
  pub thin-short : (room : ℕ) → ltb room (length (events levels)) ≡ true
      → decoded thin_stamps thin_levels room ≡ Err (refused_at 8 0)
  thin-short room short = in_order thin_stamps thin_levels room ∙ rw (passes, same-events.0, short) refl

  -- event for event: the slice lent to decode starts with the events of the whole capture, and its rest stays
  pub thin-slice-holds : (buffer : List ℕ) → length (events levels) ≤ length buffer
      → events_after (decoded thin_stamps thin_levels (length buffer)) thin_levels buffer ≡ filled (events levels) buffer
  thin-slice-holds buffer fits = rw (thin-decodes (length buffer) fits, same-events.0)
