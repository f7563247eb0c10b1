-- A pass as the loop goes: after i turns the first i modules have made it, and what they show has been noted.
use mathlib.Core.Path.{◌≡◌, refl, sym, ap, ◌∙◌}
use Prim.Native.Nat.{ℕ, zero, suc, ◌+◌, ◌-◌, ◌<◌, ◌≤◌}
use native.Mathlib.Nat.{le_refl, not-suc-le-zero, le_of_suc-le-suc}
use native.Mathlib.Numerals.{add-one}
use native.Mathlib.Omega.{arith}
use mathlib.Core.Bool.{Bool, true, false, ◌||◌}
use mathlib.Core.List.{List, [], ◌∷◌, ◌++◌, map}
use lib.ListN.{length, get_or, set, take, drop, replicate}
use lib.Seq.{get_or-set_same, take-set-le}
use borrow.Author.Tests.{lt-ltb}
use Rattle.laws.specs.Search.{any}
use Rattle.laws.proofs.Loops.{gathered-more, any-more, drop-replicate}
use Rattle.usi.specs.declared.Usi.{Usi}
use Rattle.usi.specs.Module.{pulls_scl, pulls_sda}
use Rattle.arbitration_rules.specs.Limits.{max_masters}
use Rattle.arbitration_pass.specs.declared.pass.Pass.{Pass}
use Rattle.arbitration_pass.specs.declared.pass.Sampling.{Sampling}
use Rattle.arbitration_pass.specs.declared.pass.Seen.{Seen}
use Rattle.arbitration_turns.proofs.Kept.{length-passed}
use Rattle.arbitration_pass.specs.Instants.{samples}
use Rattle.arbitration_pass.specs.Pass.{sampled_at, wrote_at, applied, passed_from, passed, sampling, sampled, sampling_pass}
use Rattle.arbitration_pass.specs.Pass.{lost_by, unseen, noted, seen}

-- in a pass that samples each module samples, in another each writes its registers
pub sampled-applied : (sampling : Sampling) (i : ℕ) (usi : Usi) → i < max_masters
    → sampled sampling usi ≡ applied (sampling_pass sampling) i usi
unfolding applied sampled_at
sampled-applied sampling i usi few = rw (lt-ltb i max_masters few)

pub wrote-applied : (pass : Pass) → samples pass.operation ≡ false → (i : ℕ) (usi : Usi) → i < max_masters
    → wrote_at pass i usi ≡ applied pass i usi
unfolding applied
wrote-applied pass writes i usi few = rw writes

-- a pass that samples is known by what it samples
module _ (pass : Pass) (sampled-in : samples pass.operation ≡ true) where
  sampling-applied : (i : ℕ) (usi : Usi) → applied (sampling_pass (sampling pass)) i usi ≡ applied pass i usi
  unfolding applied sampled_at
  sampling-applied i usi = rw sampled-in

  sampling-from : (i count : ℕ) (table : List Usi)
      → passed_from (sampling_pass (sampling pass)) i count table ≡ passed_from pass i count table
  sampling-from i zero table = refl
  sampling-from i (suc count) [] = refl
  sampling-from i (suc count) (usi ∷ table) =
      rw (sampling-applied i usi, sampling-from (suc i) count table)

  pub sampling-passed : (count : ℕ) (table : List Usi)
      → passed count (sampling_pass (sampling pass)) table ≡ passed count pass table
  unfolding passed
  sampling-passed count table = sampling-from 0 count table

module _ (pass : Pass) where
  -- one module more, at an index past those before it
  from_more : (from i : ℕ) (table : List Usi) (empty : Usi) → i < length table
      → set (passed_from pass from i table) i (applied pass (from + i) (get_or (passed_from pass from i table) i empty))
      ≡ passed_from pass from (suc i) table
  from_more from i [] empty less = absurd (not-suc-le-zero less)
  from_more from zero (usi ∷ table) empty less =
      let here : from + 0 ≡ from = omega arith in
      ap (λ (at : ℕ). applied pass at usi ∷ table) here
  from_more from (suc i) (usi ∷ table) empty less =
      let next : from + suc i ≡ suc from + i = omega arith in
      let others : List Usi = passed_from pass (suc from) i table in
      ap (λ (at : ℕ). applied pass from usi ∷ set others i (applied pass at (get_or others i empty))) next
      ∙ ap (λ (l : List Usi). applied pass from usi ∷ l) (from_more (suc from) i table empty (le_of_suc-le-suc less))

module _ (pass : Pass) (table : List Usi) where
  pub passed_none : passed 0 pass table ≡ table
  unfolding passed
  passed_none = refl

  pub passed-long : (i : ℕ) → length (passed i pass table) ≡ length table
  passed-long i = length-passed pass i table

  module _ (i : ℕ) (empty : Usi) (less : i < length table) where
    abbrev turned : Usi
    turned = applied pass i (get_or (passed i pass table) i empty)

    pub passed-more : set (passed i pass table) i turned ≡ passed (i + 1) pass table
    unfolding passed
    passed-more =
        let here : 0 + i ≡ i = omega arith in
        rw add-one (rw here at (from_more pass 0 i table empty less))

    -- of the modules after the turn, those before the i-th are as they were, and the i-th is the turned one
    front_same : take i (passed i pass table) ≡ take i (passed (i + 1) pass table)
    front_same = rw (← passed-more) (sym (take-set-le i (passed i pass table) i turned (le_refl i)))

    turned-there : turned ≡ get_or (passed (i + 1) pass table) i empty
    turned-there =
        let within : i < length (passed i pass table) = rw (passed-long i) less in
        rw (← passed-more) (sym (get_or-set_same (passed i pass table) i turned empty within))

    within-next : i < length (passed (i + 1) pass table)
    within-next = rw (passed-long (i + 1)) less

    any_next : (test : Usi → Bool) → any test (take i (passed i pass table)) || test turned
        ≡ any test (take (i + 1) (passed (i + 1) pass table))
    any_next test =
        any-more test (passed (i + 1) pass table) i empty (any test (take i (passed i pass table))) (test turned)
        (ap (any test) front_same) (ap test turned-there) within-next

    module _ (few : i < max_masters) where
      -- nobody's AL is noted past those that are done
      unnoted : (count : ℕ) → count ≤ max_masters → drop count (replicate max_masters false) ≡ replicate (max_masters - count) false
      unnoted count most = drop-replicate false max_masters count most

      al-next : set (map lost_by (take i (passed i pass table)) ++ replicate (max_masters - i) false) i (lost_by turned)
          ≡ map lost_by (take (i + 1) (passed (i + 1) pass table)) ++ replicate (max_masters - (i + 1)) false
      al-next =
          let most : i ≤ max_masters = omega arith in
          let next : i + 1 ≤ max_masters = omega arith in
          rw (turned-there, front_same, ← unnoted i most, ← unnoted (i + 1) next)
          (gathered-more lost_by (passed (i + 1) pass table) (replicate max_masters false) _ i empty refl within-next few)

      pub seen_more : noted (seen i (passed i pass table)) i turned ≡ seen (i + 1) (passed (i + 1) pass table)
      unfolding seen noted
      seen_more =
          rw (lt-ltb i max_masters few)
          (λ j. record { scl = any_next pulls_scl j; sda = any_next pulls_sda j; al = al-next j })

  pub seen_none : unseen ≡ seen 0 (passed 0 pass table)
  unfolding seen
  seen_none = refl

-- what the loop over the first modules keeps: i of them have made the pass, and what they show is noted
pub record AfterTurns (pass : Pass) (table₀ : List Usi) (count i : ℕ) (table : List Usi) (shown : Seen) : Type 0 where
  pub within : i ≤ count
  pub stands : table ≡ passed i pass table₀
  pub noted_so : shown ≡ seen i table

module _ (pass : Pass) (table₀ : List Usi) (count : ℕ) where
  pub after_none : (shown : Seen) → shown ≡ unseen → AfterTurns pass table₀ count 0 table₀ shown
  after_none shown is =
      record {
        within = omega arith;
        stands = sym (passed_none pass table₀);
        noted_so = is ∙ seen_none pass table₀ ∙ ap (seen 0) (passed_none pass table₀);
      }

  pub after_more : {i : ℕ} {table : List Usi} {shown : Seen} → AfterTurns pass table₀ count i table shown → i < count
      → count ≤ max_masters → count ≤ length table₀ → (empty usi : Usi) (next : Seen)
      → usi ≡ applied pass i (get_or table i empty) → next ≡ noted shown i usi
      → AfterTurns pass table₀ count (i + 1) (set table i usi) next
  after_more {i} {table} {shown} turns less most enough empty usi next made shows =
      let near : i < length table₀ = omega arith in
      let few : i < max_masters = omega arith in
      let stood = passed-more pass table₀ i empty near in
      record {
        within = omega arith;
        stands = rw (made, turns.stands) stood;
        noted_so =
            rw (shows, turns.noted_so, made, turns.stands)
            (seen_more pass table₀ i empty near few ∙ ap (seen (i + 1)) (sym stood));
      }

  -- the loop's end
  pub after-all : {i : ℕ} {table : List Usi} {shown : Seen} → AfterTurns pass table₀ count i table shown → i ≡ count
      → (shown ≡ seen count (passed count pass table₀)) × (table ≡ passed count pass table₀)
  after-all {i} {table} {shown} turns all =
      let stands : table ≡ passed count pass table₀ = rw (← all) turns.stands in
      (rw (turns.noted_so, all, stands) refl, stands)
