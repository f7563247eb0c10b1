-- The gaps inside frames, counted one by one.
use mathlib.Core.Path.{◌≡◌, refl, sym, ap, ◌∙◌}
use mathlib.Core.Bool.{Bool, true, false, cond}
use mathlib.Core.List.{List, [], ◌∷◌}
use Prim.Native.Nat.{ℕ, suc, ◌+◌, ◌-◌, ◌*◌, ◌/◌, ◌^◌, ◌≤◌, ◌<◌, min}
use native.Mathlib.Nat.{div-eq_of_lt}
use native.Mathlib.Numerals.{add-one}
use native.Mathlib.Omega.{arith}
use lib.Dec.{ltb}
use lib.ListN.{length, get_or, drop, length-drop, drop_of_length-le}
use lib.Seq.{drop-cons}
use borrow.Author.Tests.{eq-eqb, le-leb, le-ltb}
use Rattle.decode.specs.declared.Decoder.{Decoder}
use Rattle.decode.specs.Decode.{idle, next}
use Rattle.decode.specs.Stepping.{Sound, sounded}
use Rattle.decode.proofs.Sound.{idle-sound, next-sound}
use Rattle.trace_gaps.specs.declared.Tally.{Tally}
use Rattle.trace_gaps.specs.Gaps.{gaps_inside, inside, up_to, total, tally_of, with_gap}

-- a decoder that a sample left steps as it is
is-sounded : (decoder : Decoder) → Sound decoder → sounded decoder ≡ decoder
unfolding sounded
is-sounded decoder sound =
    rw (
      le-leb decoder.pending 8 sound.few,
      eq-eqb (decoder.value / 2 ^ decoder.pending) 0 (div-eq_of_lt sound.small),
    )

-- two tallies together
abbrev joined : Tally → Tally → Tally
joined one other = record { count = one.count + other.count; sum = one.sum + other.sum }

-- the gaps from a sample on that are not above a limit
abbrev left : ℕ → Decoder → ℕ → List ℕ → List ℕ → List ℕ
left limit decoder last stamps levels = up_to limit (gaps_inside decoder last stamps levels)

module _ (stamps levels : List ℕ) (limit : ℕ) where
  -- the first i samples are passed: their gaps are in the tally, and the others are left
  pub record Counting (decoder : Decoder) (tally : Tally) (last i : ℕ) : Type 0 where
    pub within : i ≤ length stamps
    pub sound : Sound decoder
    pub few : tally.count ≤ i
    pub small : tally.sum ≤ i * 4294967296
    pub whole : tally_of (up_to limit (inside stamps levels))
        ≡ joined tally (tally_of (left limit decoder last (drop i stamps) (drop i levels)))

  pub counting-none : Counting idle (record { count = 0; sum = 0 }) 0 0
  counting-none =
      let gaps = up_to limit (inside stamps levels) in
      let one : 0 + length gaps ≡ length gaps = omega arith in
      let sum : 0 + total gaps ≡ total gaps = omega arith in
      record {
        within = omega arith;
        sound = idle-sound;
        few = omega arith;
        small = omega arith;
        whole = rw (one, sum);
      }

  -- a gap goes from what is left into the tally
  counted_next : (framed : Bool) (gap : ℕ) (tally : Tally) (gaps : List ℕ)
      → joined tally (tally_of (up_to limit (cond framed (gap ∷ gaps) gaps)))
      ≡ joined (with_gap framed gap limit tally) (tally_of (up_to limit gaps))
  unfolding up_to with_gap total
  counted_next false gap tally gaps = refl
  counted_next true gap tally gaps = by-limit (ltb limit gap)
    where
      by-limit : (above : Bool)
          → joined tally (tally_of (cond above (up_to limit gaps) (gap ∷ up_to limit gaps)))
          ≡ joined (cond above tally (record { count = tally.count + 1; sum = tally.sum + gap }))
          (tally_of (up_to limit gaps))
      by-limit true = refl
      by-limit false =
          let one : tally.count + suc (length (up_to limit gaps)) ≡ tally.count + 1 + length (up_to limit gaps)
          = omega arith in
          let sum : tally.sum + (gap + total (up_to limit gaps)) ≡ tally.sum + gap + total (up_to limit gaps)
          = omega arith in
          rw (one, sum)

  -- a gap adds at most one to the count, and itself to the sum
  few-more : (framed : Bool) (gap : ℕ) (tally : Tally) → (with_gap framed gap limit tally).count ≤ tally.count + 1
  unfolding with_gap
  few-more false gap tally = omega arith
  few-more true gap tally = by-limit (ltb limit gap)
    where
      by-limit : (above : Bool)
          → ◌≤◌ (cond {A = Tally} above tally (record { count = tally.count + 1; sum = tally.sum + gap })).count
          (tally.count + 1)
      by-limit true = omega arith
      by-limit false = omega arith

  small-more : (framed : Bool) (gap : ℕ) (tally : Tally) → (with_gap framed gap limit tally).sum ≤ tally.sum + gap
  unfolding with_gap
  small-more false gap tally = omega arith
  small-more true gap tally = by-limit (ltb limit gap)
    where
      by-limit : (above : Bool)
          → ◌≤◌ (cond {A = Tally} above tally (record { count = tally.count + 1; sum = tally.sum + gap })).sum
          (tally.sum + gap)
      by-limit true = omega arith
      by-limit false = omega arith

  module _ (decoder : Decoder) (tally : Tally) (last i : ℕ) (counting : Counting decoder tally last i) where
    left-next : i < length stamps → i < length levels
        → left limit decoder last (drop i stamps) (drop i levels)
        ≡ up_to limit
        (cond decoder.framed
        ((get_or stamps i 0 - last)
        ∷ gaps_inside (next decoder (get_or levels i 0)) (get_or stamps i 0) (drop (i + 1) stamps) (drop (i + 1) levels))
        (gaps_inside (next decoder (get_or levels i 0)) (get_or stamps i 0) (drop (i + 1) stamps) (drop (i + 1) levels)))
    unfolding gaps_inside
    left-next h k = rw (drop-cons stamps i 0 h, drop-cons levels i 0 k, add-one)

    pub counting_more : (gap : ℕ) {after : Tally} {stepped : Decoder} → i < length stamps → i < length levels
        → gap ≡ get_or stamps i 0 - last → get_or stamps i 0 < 4294967296
        → after ≡ with_gap decoder.framed gap limit tally → stepped ≡ next (sounded decoder) (get_or levels i 0)
        → Counting stepped after (get_or stamps i 0) (i + 1)
    counting_more gap {stepped = stepped} h k g fits a s =
        let sound = counting.sound in
        let step : stepped ≡ next decoder (get_or levels i 0)
        = s ∙ ap (λ (d : Decoder). next d (get_or levels i 0)) (is-sounded decoder sound) in
        rw (a, step, g)
        (record {
          within = omega arith;
          sound = next-sound decoder (get_or levels i 0) sound;
          few = omega (arith, counting.few, few-more decoder.framed (get_or stamps i 0 - last) tally);
          small = omega (arith, counting.small, small-more decoder.framed (get_or stamps i 0 - last) tally);
          whole = counting.whole
              ∙ ap (λ (l : List ℕ). joined tally (tally_of l)) (left-next h k)
              ∙ counted_next decoder.framed (get_or stamps i 0 - last) tally _;
        })

    -- where one of the lists has ended, no gap is left
    pub counting-done : left limit decoder last (drop i stamps) (drop i levels) ≡ []
        → tally ≡ tally_of (up_to limit (inside stamps levels))
    unfolding total
    counting-done none =
        let one : tally.count + 0 ≡ tally.count = omega arith in
        let sum : tally.sum + 0 ≡ tally.sum = omega arith in
        sym (counting.whole ∙ ap (λ (l : List ℕ). joined tally (tally_of l)) none ∙ rw (one, sum))

-- the shorter list has ended
pub either-end : (limit last i : ℕ) (decoder : Decoder) (stamps levels : List ℕ) → i ≡ min (length stamps) (length levels)
    → left limit decoder last (drop i stamps) (drop i levels) ≡ []
unfolding gaps_inside up_to
either-end limit last i decoder stamps levels end = by-stamps (drop i stamps) refl
  where
    by-stamps : (rest : List ℕ) → drop i stamps ≡ rest → left limit decoder last rest (drop i levels) ≡ []
    by-stamps [] is = refl
    by-stamps (stamp ∷ rest) is =
        let more : length levels ≤ i = omega (arith, length-drop i stamps, ap length is) in
        rw (drop_of_length-le levels more)

-- no gap is above a limit that no stamp is above
pub all-up-to : (limit : ℕ) (decoder : Decoder) (last : ℕ) (stamps levels : List ℕ)
    → ((i : ℕ) → get_or stamps i 0 ≤ limit)
    → up_to limit (gaps_inside decoder last stamps levels) ≡ gaps_inside decoder last stamps levels
unfolding gaps_inside up_to
all-up-to limit decoder last [] levels few = refl
all-up-to limit decoder last (stamp ∷ stamps) [] few = refl
all-up-to limit decoder last (stamp ∷ stamps) (level ∷ levels) few =
    go decoder.framed (all-up-to limit (next decoder level) stamp stamps levels (λ i. few (suc i)))
    (le-ltb limit (stamp - last) (omega (arith, few 0)))
  where
    go : (framed : Bool)
        → up_to limit (gaps_inside (next decoder level) stamp stamps levels)
        ≡ gaps_inside (next decoder level) stamp stamps levels
        → ltb limit (stamp - last) ≡ false
        → up_to limit
        (cond framed
        ((stamp - last) ∷ gaps_inside (next decoder level) stamp stamps levels)
        (gaps_inside (next decoder level) stamp stamps levels))
        ≡ cond framed
        ((stamp - last) ∷ gaps_inside (next decoder level) stamp stamps levels)
        (gaps_inside (next decoder level) stamp stamps levels)
    go false rest within = rest
    go true rest within = rw (within, rest)
