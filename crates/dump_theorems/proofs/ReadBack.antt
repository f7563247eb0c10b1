-- What dump writes, within 60,000 bytes, reads back as the same trace without the samples that change nothing.
use mathlib.Core.Path.{◌≡◌, refl, ap, ◌∙◌}
use mathlib.Core.Bool.{Bool, true, false, cond}
use mathlib.Core.List.{List, [], ◌∷◌, ◌++◌}
use Prim.Native.Nat.{ℕ, ◌≤◌, ◌<◌}
use native.Mathlib.Omega.{arith}
use borrow.Author.Tests.{eqb-true, ltb-true, ltb-false, not-false}
use lib.Dec.{eqb, ltb}
use lib.ListN.{length, length-map}
use Rattle.std.specs.Prelude.{Ok}
use Rattle.laws.specs.Buffer.{filled}
use Rattle.laws.specs.Everyone.{also}
use Rattle.laws.specs.Search.{any}
use Rattle.laws.proofs.Bools.{neither}
use Rattle.laws.proofs.Search.{all-below}
use Rattle.levels.specs.Levels.{scl, sda, level_of}
use Rattle.trace.specs.Limits.{max_samples, largest_stamp}
use Rattle.trace.specs.Trace.{bad_level, pairs, not_above}
use Rattle.trace.specs.Samples.{samples}
use Rattle.trace.specs.Changes.{changes_from, changed_stamps, changed_levels}
use Rattle.trace.proofs.Pairs.{rising-back}
use Rattle.trace.proofs.Samples.{samples-length}
use Rattle.trace.proofs.Checked.{Checked}
use Rattle.dump.specs.Text.{dump_text}
use Rattle.dump.proofs.Bound.{Stamps}
use Rattle.dump_reader.specs.Reading.{stamps_in, levels_in}
use Rattle.dump_reader.specs.DumpRead.{longest_text, samples_in_unit, dump_read, stamps_after, levels_after}
use Rattle.dump_reader.proofs.Samples.{Above, Legal}
use Rattle.dump_reader.proofs.ReadBack.{read-stamps, read-levels, read_back}
use Rattle.dump_theorems.proofs.Words.{dump-spelled}

-- stamps that rise are above the first one, each above the one before
rising-above : (stamp : ℕ) (stamps : List ℕ) → any not_above (pairs (stamp ∷ stamps)) ≡ false → Stamps stamps
    → Above stamp stamps
rising-above stamp [] rises all = tt
rising-above stamp (next ∷ stamps) rises (also small rest) =
    let two = neither (not_above (stamp, next)) (any not_above (pairs (next ∷ stamps))) rises in
    let above : stamp < next = ltb-true stamp next (not-false (ltb stamp next) two.0) in
    let fits : next ≤ largest_stamp = omega arith in
    (above, (fits, rising-above next stamps two.1 rest))

-- a level up to 3 is its two lines
level-legal : (level : ℕ) → bad_level level ≡ false → level_of (scl level) (sda level) ≡ level
level-legal level small =
    let less : level < 4 = omega (arith, ltb-false 3 level small) in
    eqb-true (level_of (scl level) (sda level)) level
    (all-below (λ l. eqb (level_of (scl l) (sda l)) l) 4 refl level less)

levels-legal : (levels : List ℕ) → any bad_level levels ≡ false → Legal levels
levels-legal [] all = tt
levels-legal (level ∷ levels) all =
    let two = neither (bad_level level) (any bad_level levels) all in
    (level-legal level two.0, levels-legal levels two.1)

-- there are no more changes than samples
changes-few : (last : ℕ) (list : List (ℕ × ℕ)) → length (changes_from last list) ≤ length list
changes-few last [] = omega arith
changes-few last (sample ∷ list) = go (eqb sample.1 last) (changes-few sample.1 list)
  where
    go : (same : Bool) → length (changes_from sample.1 list) ≤ length list
        → length (cond same [] (sample ∷ []) ++ changes_from sample.1 list) ≤ length (sample ∷ list)
    go true few = omega arith
    go false few = omega arith

-- the replies and slices of dump, and of read where it is handed what dump wrote
pub record ReadBack (stamps levels text stamp-slice level-slice : List ℕ) : Type 0 where
  pub reply : dump_read text (length stamp-slice) (length level-slice)
      ≡ Ok (samples_in_unit (length (changed_stamps stamps levels)) 100000000)
  pub stamped : stamps_after (dump_read text (length stamp-slice) (length level-slice)) text stamp-slice
      ≡ filled (changed_stamps stamps levels) stamp-slice
  pub leveled : levels_after (dump_read text (length stamp-slice) (length level-slice)) text level-slice
      ≡ filled (changed_levels stamps levels) level-slice

pub text-back : (stamps levels stamp-slice level-slice : List ℕ) → Stamps stamps → Checked stamps levels
    → (length levels ≡ 0 → ⊥) → length (dump_text stamps levels) ≤ longest_text
    → length (changed_stamps stamps levels) ≤ length stamp-slice
    → length (changed_stamps stamps levels) ≤ length level-slice
    → ReadBack stamps levels (dump_text stamps levels) stamp-slice level-slice
text-back stamps [] stamp-slice level-slice all trace some fits room room-too = absurd (some refl)
text-back [] (level ∷ levels) stamp-slice level-slice all trace some fits room room-too =
    absurd (omega (arith, trace.same))
text-back (stamp ∷ stamps) (level ∷ levels) stamp-slice level-slice (also first rest) trace some fits room room-too =
    let small : stamp ≤ largest_stamp = omega arith in
    let above = rising-above stamp stamps (rising-back (stamp ∷ stamps) trace.rises) rest in
    let legal = levels-legal (level ∷ levels) trace.legal in
    let list = samples stamps levels in
    let few : length (changed_stamps (stamp ∷ stamps) (level ∷ levels)) ≤ max_samples =
    omega (
      arith,
      trace.same,
      trace.few,
      length-map (changes_from level list) (λ s. s.0),
      changes-few level list,
      samples-length stamps levels (omega (arith, trace.same)),
    ) in
    let spelt = dump-spelled stamp level stamps levels in
    let reply =
    rw (← spelt) at
    (read_back stamp level stamps levels small above legal (length stamp-slice) (length level-slice)
    (rw spelt at fits) few room room-too) in
    record {
      reply = reply;
      stamped = rw reply (ap (λ (l : List ℕ). filled l stamp-slice)
          (ap stamps_in spelt ∙ read-stamps stamp level stamps levels small above legal));
      leveled = rw reply (ap (λ (l : List ℕ). filled l level-slice)
          (ap levels_in spelt ∙ read-levels stamp level stamps levels small above legal));
    }
