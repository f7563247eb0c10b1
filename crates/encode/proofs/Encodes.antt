-- What encode answers in each case, from the tests that lead to it.
use mathlib.Core.Path.{◌≡◌, sym, ◌∙◌}
use mathlib.Core.Bool.{Bool, true, false, not, ◌||◌}
use mathlib.Core.List.{List}
use Prim.Native.Nat.{ℕ, min, ◌+◌, ◌*◌, ◌-◌, ◌≤◌, ◌<◌}
use native.Mathlib.Nat.{mul-le-mul}
use native.Mathlib.Omega.{arith}
use borrow.Author.Tests.{lt-ltb, le-ltb, ltb-false, not-false}
use lib.Dec.{eqb, ltb}
use lib.ListN.{length}
use Rattle.std.specs.Prelude.{Ok, Err}
use Rattle.laws.specs.Refusals.{refused_at}
use Rattle.trace.specs.Limits.{max_samples, max_gap, largest_stamp}
use Rattle.encode.specs.Complete.{complete}
use Rattle.encode.specs.Encode.{drawing, sample_count, last_stamp}
use Rattle.encode.specs.EncodeReply.{encoded}
use Rattle.laws.proofs.Bools.{neither}
use Rattle.encode.proofs.Samples.{drawing-length}

pub small-gap : (gap : ℕ) → eqb gap 0 || ltb max_gap gap ≡ false → gap ≤ max_gap
small-gap gap e = ltb-false max_gap gap (neither (eqb gap 0) (ltb max_gap gap) e).1

pub enough-room : (stamp_room level_room count : ℕ) → ltb stamp_room count || ltb level_room count ≡ false
    → (count ≤ stamp_room) × (count ≤ level_room)
enough-room stamp_room level_room count e =
    let fit = neither (ltb stamp_room count) (ltb level_room count) e in
    (ltb-false stamp_room count fit.0, ltb-false level_room count fit.1)

-- the last stamp is computed in 64 bits
pub last_fits : (gap count : ℕ) → gap ≤ max_gap → count ≤ max_samples → gap * (count - 1) ≤ max_gap * max_samples
last_fits gap count small few = let less : count - 1 ≤ max_samples = omega arith in mul-le-mul small less

-- a count within the limit is the whole count
pub whole-count : (events : List ℕ) (count : ℕ) → count ≡ min (sample_count events) (max_samples + 1) → count ≤
    max_samples
    → count ≡ sample_count events
whole-count events count counted few = omega arith

pub drawing-fits : (events : List ℕ) (done : Bool) (count : ℕ) → done ≡ complete events → not done ≡ false
    → count ≡ sample_count events → length (drawing events) ≡ count
drawing-fits events done count e p counted = drawing-length events (sym e ∙ not-false done p) ∙ sym counted

module _ (events : List ℕ) (start gap stamp_room level_room : ℕ) (done : Bool) (e : done ≡ complete events) where
  pub incomplete : not done ≡ true → Err (refused_at 9 0) ≡ encoded events start gap stamp_room level_room
  unfolding encoded
  incomplete p = rw (← e, p)

  module _ (p : not done ≡ false) where
    pub bad-gap : eqb gap 0 || ltb max_gap gap ≡ true → Err (refused_at 10 0) ≡ encoded events start gap stamp_room level_room
    unfolding encoded
    bad-gap bad = rw (← e, p, bad)

    module _
        (count : ℕ)
        (fine : eqb gap 0 || ltb max_gap gap ≡ false)
        (counted : count ≡ min (sample_count events) (max_samples + 1))
      where
        pub too_many : max_samples < count → Err (refused_at 6 0) ≡ encoded events start gap stamp_room level_room
        unfolding encoded
        too_many many =
            let over : max_samples < sample_count events = omega arith in rw (← e, p, fine, lt-ltb _ _ over)

        module _ (few : count ≤ max_samples) where
          whole : count ≡ sample_count events
          whole = whole-count events count counted few

          pub too-late : largest_stamp < last_stamp start gap count
              → Err (refused_at 11 0) ≡ encoded events start gap stamp_room level_room
          unfolding encoded
          too-late late = rw (← e, p, fine, ← whole, le-ltb _ _ few, lt-ltb _ _ late)

          module _ (early : last_stamp start gap count ≤ largest_stamp) where
            pub no_room : ltb stamp_room count || ltb level_room count ≡ true
                → Err (refused_at 8 0) ≡ encoded events start gap stamp_room level_room
            unfolding encoded
            no_room few-entries = rw (← e, p, fine, ← whole, le-ltb _ _ few, le-ltb _ _ early, few-entries)

            pub drawn-all : ltb stamp_room count || ltb level_room count ≡ false
                → Ok count ≡ encoded events start gap stamp_room level_room
            unfolding encoded
            drawn-all room = rw (← e, p, fine, ← whole, le-ltb _ _ few, le-ltb _ _ early, room)

pub ruleset replies = (incomplete, bad-gap, too_many, too-late, no_room, drawn-all)
