-- The refusals 12 and 13 as the code finds them, and what is gathered where neither applies.
use Prim.Native.Nat.{ℕ, ◌≤◌, ◌-◌}
use mathlib.Core.Path.{◌≡◌, refl, sym, ap, ap₂, ◌∙◌}
use mathlib.Core.Bool.{Bool, true, false, not, ◌||◌}
use mathlib.Core.List.{List, [], ◌++◌, map, zip_with}
use native.Mathlib.Omega.{arith}
use borrow.Author.Tests.{ltb-false, eqb-true, not-false}
use lib.Dec.{eqb, ltb}
use lib.ListN.{length, get_or, take, replicate, length-map}
use lib.Seq.{take_at}
use Rattle.std.specs.Prelude.{Ok, Err}
use Rattle.laws.specs.Refusals.{refused_at}
use Rattle.laws.specs.Search.{first, any}
use Rattle.laws.proofs.Bools.{neither}
use Rattle.laws.proofs.Lists.{zip_with-front, zip_with-by, zip_with-alike, zip_with-length, everyone-append}
use Rattle.laws.proofs.Search.{any-first}
use Rattle.arbitration_rules.specs.Limits.{max_masters, max_length}
use Rattle.arbitration_rules.specs.Reply.{Request, cut, total, padded, itself, bad_message, bad_messages, bad_count}
use Rattle.arbitration_rules.specs.Reply.{bad_lengths, sent_of, lengths_of, marks_after, all_marks}
use Rattle.arbitration_rules.proofs.Cut.{cut-count, lengths-count}
use Rattle.arbitration_messages.specs.Lengths.{limited, bad_length, bad_lengths_of}
use Rattle.arbitration_messages.specs.Marks.{max_sent, started, joined_of}
use Rattle.arbitration_rules.specs.Reply.{asked}
use Rattle.arbitration_messages.specs.Gathered.{sending, gathered}
use Rattle.arbitration_messages.proofs.Sums.{total-append, total-none}
use Rattle.arbitration_messages.proofs.Limited.{limited-bad}
use Rattle.arbitration_messages.proofs.Sound.{Sound, sound, sound-lengths, sound-total, sound-bound, sound-short}
use Rattle.arbitration_messages.proofs.Sound.{sound-marks, Short, Small, everyone-at, everyone-same}
use Rattle.arbitration_rules.proofs.Pieces.{all_small}
use Rattle.arbitration_messages.proofs.Sound.{sent-length, sent-joined}

-- the limited lengths say which message is bad
pub bad-lengths : (counts parts : List ℕ)
    → bad_lengths_of counts (padded 0 (map limited (cut counts parts))) ≡ zip_with bad_message counts (cut counts parts)
bad-lengths counts parts =
    let lengths = map limited (cut counts parts) in
    let enough : length counts ≤ length lengths =
    omega (arith, length-map (cut counts parts) limited, cut-count counts parts) in
    zip_with-front bad_length counts lengths (replicate (max_masters - length lengths) 0) enough
    ∙ zip_with-by bad_length limited counts (cut counts parts)
    ∙ zip_with-alike (λ count own. bad_length count (limited own)) bad_message limited-bad counts (cut counts parts)

module _ (bytes parts counts : List ℕ) where
  abbrev request : Request
  request = asked bytes parts counts []

  -- whether one of them is bad, by the place of the first
  some-bad : any itself (bad_messages request) ≡ ltb (first itself (bad_messages request)) (length counts)
  some-bad =
      let size : length (bad_messages request) ≡ length counts =
      omega (arith, zip_with-length bad_message counts (cut counts parts), cut-count counts parts) in
      any-first itself (bad_messages request) ∙ ap (ltb (first itself (bad_messages request))) size

  pub few-counts : bad_count request ≡ false → length counts ≤ max_masters
  few-counts good =
      ltb-false max_masters (length counts) (neither (eqb (length counts) 0) (ltb max_masters (length counts)) good).1

  pub gathered-12 : bad_count request ≡ true → Err (refused_at 12 0) ≡ gathered request
  unfolding gathered
  gathered-12 bad = rw bad

  module _ (count : bad_count request ≡ false) where
    gathered-13 : bad_lengths request ≡ true
        → Err (refused_at 13 (first itself (bad_messages request))) ≡ gathered request
    unfolding gathered
    gathered-13 bad = rw (count, bad)

    gathered-sound : bad_lengths request ≡ false
        → Ok (sending (sent_of request) (lengths_of request)) ≡ gathered request
    unfolding gathered
    gathered-sound good = rw (count, good)

    -- as the code finds them: the limited lengths, the first that is bad, the sum of the counts
    module _ (lengths : List ℕ) (bad sum : ℕ) (is : lengths ≡ padded 0 (map limited (cut counts parts)))
        (at : bad ≡ first itself (bad_lengths_of counts lengths)) (summed : sum ≡ total counts) where
      place : bad ≡ first itself (bad_messages request)
      place =
          at
          ∙ ap (λ (l : List ℕ). first itself (bad_lengths_of counts l)) is
          ∙ ap (first itself) (bad-lengths counts parts)

      test-is : ltb bad (length counts) || not (eqb sum (length parts))
          ≡ any itself (bad_messages request) || not (eqb (total counts) (length parts))
      test-is = rw (place, summed, some-bad) refl

      module _ (passes : ltb bad (length counts) || not (eqb sum (length parts)) ≡ false) where
        shape : any itself (bad_messages request) || not (eqb (total counts) (length parts)) ≡ false
        shape = sym test-is ∙ passes

        pub all_sound : Sound counts parts
        all_sound =
            let two = neither (any itself (bad_messages request)) (not (eqb (total counts) (length parts))) shape in
            sound counts parts two.0
            (eqb-true (total counts) (length parts) (not-false (eqb (total counts) (length parts)) two.1))

        pub lengths-are : lengths ≡ padded 0 (lengths_of request)
        lengths-are = is ∙ ap (padded 0) (sound-lengths all_sound)

        pub lengths-total : total lengths ≡ total parts
        lengths-total =
            let zeros = total-none (max_masters - length (lengths_of request)) in
            ap total lengths-are
            ∙ omega (
              arith,
              total-append (lengths_of request) (replicate (max_masters - length (lengths_of request)) 0),
              zeros,
              sound-total all_sound,
            )

        pub parts_within : total parts ≤ max_sent
        parts_within = omega (arith, sound-bound all_sound, few-counts count)

        pub lengths_short : (i : ℕ) → get_or lengths i 0 ≤ max_length
        lengths_short i =
            let none : Short 0 = omega arith in
            let left = max_masters - length (lengths_of request) in
            rw lengths-are
            (everyone-at none (everyone-append (sound-short all_sound) (everyone-same Short 0 left none)) i)

        module _ (restarts marks : List ℕ)
            (parted : restarts ≡ marks_after parts ++ replicate (max_sent - total parts) 256)
            (marked : marks ≡ started (take (length counts) lengths) restarts) where
          marks-are : marks ≡ all_marks (cut counts parts) ++ replicate (max_sent - total parts) 256
          marks-are =
              let size = lengths-count request in
              let own : take (length counts) lengths ≡ lengths_of request =
              ap (take (length counts)) lengths-are
              ∙ take_at (lengths_of request) (replicate (max_masters - length (lengths_of request)) 0) (length counts)
              size in
              marked ∙ ap₂ started own parted ∙ sound-marks (replicate (max_sent - total parts) 256) all_sound

          pub marks-within : (i : ℕ) → get_or marks i 0 ≤ 256
          marks-within i =
              let none : Small 0 = omega arith in
              let most : Small 256 = omega arith in
              rw marks-are
              (everyone-at none
              (everyone-append (all_small (cut counts parts))
              (everyone-same Small 256 (max_sent - total parts) most)) i)

      -- the code's test of 13, over the sum of the limited lengths
      module _ (size : ℕ) (sized : size ≡ total lengths) where
        abbrev fails : Bool
        fails = ltb bad (length counts) || not (eqb sum (length parts)) || not (eqb size (length bytes))

        same_test : fails ≡ bad_lengths request
        same_test = go (ltb bad (length counts) || not (eqb sum (length parts))) refl
          where
            go : (shape : Bool) → ltb bad (length counts) || not (eqb sum (length parts)) ≡ shape
                → fails ≡ bad_lengths request
            go true is =
                ap (λ (some : Bool). some || not (eqb size (length bytes))) is
                ∙ sym (ap (λ (some : Bool). some || not (eqb (total parts) (length bytes))) (sym test-is ∙ is))
            go false is =
                ap₂ (λ (some : Bool) (k : ℕ). some || not (eqb k (length bytes))) test-is (sized ∙ lengths-total is)

        pub refused-13 : fails ≡ true → Err (refused_at 13 bad) ≡ gathered request
        refused-13 applies =
            ap (λ (k : ℕ). Err (refused_at 13 k)) place ∙ gathered-13 (sym same_test ∙ applies)

        module _ (good : fails ≡ false) where
          two : (ltb bad (length counts) || not (eqb sum (length parts)) ≡ false)
              × (not (eqb size (length bytes)) ≡ false)
          two = neither (ltb bad (length counts) || not (eqb sum (length parts))) (not (eqb size (length bytes))) good

          pub shape-passes : ltb bad (length counts) || not (eqb sum (length parts)) ≡ false
          shape-passes = two.0

          pub size_is : size ≡ length bytes
          size_is = eqb-true size (length bytes) (not-false (eqb size (length bytes)) two.1)

          pub bytes-within : length bytes ≤ max_sent
          bytes-within =
              omega (arith, size_is, sized, lengths-total shape-passes, parts_within shape-passes)

          pub gathered-all : (restarts marks sent : List ℕ)
              → restarts ≡ marks_after parts ++ replicate (max_sent - total parts) 256
              → marks ≡ started (take (length counts) lengths) restarts → sent ≡ joined_of bytes marks
              → Ok (record { sent = sent; size = size; lengths = lengths; count = length counts })
              ≡ gathered request
          gathered-all restarts marks sent parted marked joined =
              let all = all_sound shape-passes in
              let fits : total parts ≡ length bytes = sym (sized ∙ lengths-total shape-passes) ∙ size_is in
              let is-sent =
              joined
              ∙ ap (joined_of bytes) (marks-are shape-passes restarts marks parted marked)
              ∙ sent-joined bytes counts parts all fits in
              let is-size = size_is ∙ sym (sent-length bytes counts parts all fits) in
              rw (is-sent, is-size, lengths-are shape-passes, ← lengths-count request)
              (gathered-sound (sym same_test ∙ good))
