-- The least message found in one pass: the best so far, and the messages still to come.
use Prim.Native.Nat.{ℕ, suc, ◌+◌, ◌-◌, ◌<◌, ◌≤◌, min}
use mathlib.Core.Path.{◌≡◌, refl, sym, ap, ap₂, ◌∙◌}
use mathlib.Core.Bool.{Bool, cond, true, false, false≢true}
use mathlib.Core.List.{List, [], ◌∷◌}
use native.Mathlib.Numerals.{add-one}
use native.Mathlib.Omega.{arith}
use lib.ListN.{length, get_or, take, drop, drop_of_length-le}
use lib.Seq.{drop-cons}
use Rattle.laws.specs.Everyone.{Everyone, also}
use Rattle.laws.specs.Search.{first}
use Rattle.arbitration_rules.specs.Outcome.{at_most, lesser, least_from, least}
use Rattle.arbitration_rules.specs.Reply.{cut}
use Rattle.arbitration_rules.proofs.Cut.{cut-count}
use Rattle.arbitration_rules.proofs.LeastMessage.{at-most, at-most-holds, at-most-refl, at-most-trans, least-at-most}
use Rattle.arbitration_checks.specs.Order.{least_index, least_among, LeastAt}
use Rattle.arbitration_checks.specs.declared.order.Located.{Located}
use Rattle.arbitration_messages.proofs.Walk.{At, at-start, at_more, in-messages, message-is, ordered, end-within}

-- where the least message stands, of a best so far at an index and the messages from an index on
abbrev stands_from : List ℕ → ℕ → ℕ → List (List ℕ) → ℕ
stands_from best index i [] = index
stands_from best index i (other ∷ others) =
    cond (at_most best other) (stands_from best index (suc i) others) (stands_from other i (suc i) others)

-- two steps up the order are one
not-both : (message other third : List ℕ) → at_most message other ≡ true → at_most other third ≡ true
    → at_most message third ≡ false → ⊥
not-both message other third one two fails =
    false≢true (sym fails ∙ at-most-holds (at-most-trans (at-most message other one) (at-most other third two)))

-- what is above a message that is not at most a third is not at most it either
above-not : (message other third : List ℕ) → at_most message other ≡ true → at_most message third ≡ false
    → at_most other third ≡ false
above-not message other third one fails = go (at_most other third) refl
  where
    go : (test : Bool) → at_most other third ≡ test → test ≡ false
    go false is = refl
    go true is = absurd (not-both message other third one is fails)

-- nor is a message at most what is below one that it is not at most
below-not : (message other third : List ℕ) → at_most other third ≡ true → at_most message third ≡ false
    → at_most message other ≡ false
below-not message other third two fails = go (at_most message other) refl
  where
    go : (test : Bool) → at_most message other ≡ test → test ≡ false
    go false is = refl
    go true is = absurd (not-both message other third is two fails)

least_first : (message : List ℕ) (messages : List (List ℕ)) → at_most (least_from message messages) message ≡ true
least_first message messages = go (least-at-most (message ∷ messages))
  where
    go : Everyone (λ own. at_most (least_from message messages) own ≡ true) (message ∷ messages)
        → at_most (least_from message messages) message ≡ true
    go (also here rest) = here

-- it is the first that is at most the least: the best, or one of those to come
stands : (best : List ℕ) (index i : ℕ) (rest : List (List ℕ))
    → stands_from best index i rest
    ≡ cond (at_most best (least_from best rest)) index (i + first (λ message. at_most message (least_from best rest)) rest)
stands best index i [] = rw (at-most-holds (at-most-refl best)) refl
stands best index i (other ∷ others) =
    go (at_most best other) refl (stands best index (suc i) others) (stands other i (suc i) others)
  where
    fore : List ℕ → ℕ
    fore lowest = first (λ message. at_most message lowest) others

    keeps : (lowest : List ℕ) (test : Bool) → at_most best lowest ≡ test → at_most best other ≡ true
        → cond test index (suc i + fore lowest)
        ≡ cond test index (i + cond (at_most other lowest) 0 (suc (fore lowest)))
    keeps lowest true is one = refl
    keeps lowest false is one = rw (above-not best other lowest one is) (omega arith)

    yields : (test : Bool) (n : ℕ) → cond test i (suc i + n) ≡ i + cond test 0 (suc n)
    yields true n = omega arith
    yields false n = omega arith

    go : (test : Bool) → at_most best other ≡ test
        → stands_from best index (suc i) others
        ≡ cond (at_most best (least_from best others)) index (suc i + fore (least_from best others))
        → stands_from other i (suc i) others
        ≡ cond (at_most other (least_from other others)) i (suc i + fore (least_from other others))
        → cond test (stands_from best index (suc i) others) (stands_from other i (suc i) others)
        ≡ cond (at_most best (least_from (cond test best other) others)) index
        (i
        + cond (at_most other (least_from (cond test best other) others)) 0
        (suc (fore (least_from (cond test best other) others))))
    go true is kept taken = kept ∙ keeps (least_from best others) (at_most best (least_from best others)) refl is
    go false is kept taken =
        let lowest = least_from other others in
        let not = below-not best lowest other (least_first other others) is in
        taken ∙ rw not (yields (at_most other lowest) (fore lowest))

-- so of all messages
index-drop : (messages : List (List ℕ)) → 0 < length messages
    → least_index messages ≡ stands_from (get_or messages 0 []) 0 1 (drop 1 messages)
index-drop [] none = absurd (omega arith)
index-drop (message ∷ messages) some =
    let lowest = least_from message messages in
    let n = first (λ own. at_most own lowest) messages in
    let one : suc n ≡ 1 + n = omega arith in
    ap (cond (at_most message lowest) 0) one ∙ sym (stands message 0 1 messages)

least-drop : (messages : List (List ℕ)) → 0 < length messages → least messages ≡ least_from (get_or messages 0 [])
    (drop 1 messages)
least-drop [] none = absurd (omega arith)
least-drop (message ∷ messages) some = refl

-- from one index to another lies the least of the first i messages, the first such, after a comparison with each but
-- the first
pub record Leading (lengths sent : List ℕ) (from index best to comparisons i : ℕ) : Type 0 where
  pub at : At lengths sent i from
  pub counted : comparisons + 1 ≡ i
  pub ordered-so : best ≤ to
  pub inside : to ≤ length sent
  pub there : get_or (cut lengths sent) index [] ≡ take (to - best) (drop best sent)
  pub foremost : least_index (cut lengths sent)
      ≡ stands_from (take (to - best) (drop best sent)) index i (drop i (cut lengths sent))
  pub same : least (cut lengths sent)
      ≡ least_from (take (to - best) (drop best sent)) (drop i (cut lengths sent))

pub no-message : (lengths sent : List ℕ) → length lengths ≡ 0
    → LeastAt lengths sent (record { index = 0; from = 0; to = 0; comparisons = 0 })
no-message [] sent none =
    record {
      there = refl;
      foremost = refl;
      counted = refl;
      ordered = omega arith;
      within = omega arith;
      same = refl;
    }
no-message (count ∷ counts) sent none = absurd (omega arith)

pub leading-start : (lengths sent : List ℕ) (to : ℕ) → 0 < length lengths
    → to ≡ min (0 + get_or lengths 0 0) (length sent) → Leading lengths sent to 0 0 to 0 1
leading-start lengths sent to some end =
    let start = at-start lengths sent in
    let own = message-is lengths sent 0 0 to start some end in
    let inside = in-messages lengths sent 0 0 to start some end in
    record {
      at = at_more lengths sent 0 0 to start some end;
      counted = refl;
      ordered-so = omega arith;
      inside = omega arith;
      there = sym own;
      foremost =
          index-drop (cut lengths sent) inside
          ∙ ap (λ (message : List ℕ). stands_from message 0 1 (drop 1 (cut lengths sent))) (sym own);
      same =
          least-drop (cut lengths sent) inside
          ∙ ap (λ (message : List ℕ). least_from message (drop 1 (cut lengths sent))) (sym own);
    }

module _ (lengths sent : List ℕ) (from index best best-end comparisons i to : ℕ)
    (leading : Leading lengths sent from index best best-end comparisons i) (less : i < length lengths)
    (end : to ≡ min (from + get_or lengths i 0) (length sent)) where
  own : take (to - from) (drop from sent) ≡ get_or (cut lengths sent) i []
  own = message-is lengths sent i from to leading.at less end

  abbrev best_message : List ℕ
  best_message = take (best-end - best) (drop best sent)

  split : drop i (cut lengths sent)
      ≡ get_or (cut lengths sent) i [] ∷ drop (suc i) (cut lengths sent)
  split = drop-cons (cut lengths sent) i [] (in-messages lengths sent i from to leading.at less end)

  next : least (cut lengths sent)
      ≡ least_from (lesser best_message (take (to - from) (drop from sent))) (drop (i + 1) (cut lengths sent))
  next =
      leading.same
      ∙ ap (least_from best_message) split
      ∙ ap₂ (λ (other : List ℕ) (k : ℕ). least_from (lesser best_message other) (drop k (cut lengths sent)))
      (sym own) (sym (add-one i))

  abbrev precedes : Bool
  precedes = at_most best_message (take (to - from) (drop from sent))

  next-index : least_index (cut lengths sent)
      ≡ cond precedes (stands_from best_message index (i + 1) (drop (i + 1) (cut lengths sent)))
      (stands_from (take (to - from) (drop from sent)) i (i + 1) (drop (i + 1) (cut lengths sent)))
  next-index =
      leading.foremost
      ∙ ap (stands_from best_message index i) split
      ∙ ap₂ (λ (other : List ℕ) (k : ℕ).
      cond (at_most best_message other) (stands_from best_message index k (drop k (cut lengths sent)))
      (stands_from other i k (drop k (cut lengths sent)))) (sym own) (sym (add-one i))

  -- the best stays, or this message takes its place
  pub leading-stays : precedes ≡ true → Leading lengths sent to index best best-end (comparisons + 1) (i + 1)
  leading-stays stays =
      record {
        at = at_more lengths sent i from to leading.at less end;
        counted = omega (arith, leading.counted);
        ordered-so = leading.ordered-so;
        inside = leading.inside;
        there = leading.there;
        foremost = rw stays at next-index;
        same = rw stays at next;
      }

  pub leading-yields : precedes ≡ false → Leading lengths sent to i from to (comparisons + 1) (i + 1)
  leading-yields yields =
      record {
        at = at_more lengths sent i from to leading.at less end;
        counted = omega (arith, leading.counted);
        ordered-so = ordered lengths sent i from to leading.at less end;
        inside = end-within lengths sent i from to leading.at less end;
        there = sym own;
        foremost = rw yields at next-index;
        same = rw yields at next;
      }

pub leading-done : (lengths sent : List ℕ) (from index best best-end comparisons i : ℕ)
    → Leading lengths sent from index best best-end comparisons i → i ≤ length lengths → length lengths ≤ i
    → LeastAt lengths sent (record { index = index; from = best; to = best-end; comparisons = comparisons })
leading-done lengths sent from index best best-end comparisons i leading within done =
    let past : length (cut lengths sent) ≤ i = omega (arith, cut-count lengths sent) in
    let none = drop_of_length-le (cut lengths sent) past in
    let is = leading.same ∙ ap (least_from (take (best-end - best) (drop best sent))) none in
    record {
      there = leading.there ∙ sym is;
      foremost =
          sym (leading.foremost ∙ ap (stands_from (take (best-end - best) (drop best sent)) index i) none);
      counted = omega (arith, leading.counted);
      ordered = leading.ordered-so;
      within = leading.inside;
      same = sym is;
    }

-- its index and the comparisons, of the messages
pub least-answer : (lengths sent : List ℕ) (found : Located) → LeastAt lengths sent found
    → record { index = found.index; comparisons = found.comparisons } ≡ least_among (cut lengths sent)
least-answer lengths sent found at =
    rw (at.foremost, at.counted, ← cut-count lengths sent) refl
