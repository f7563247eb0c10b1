-- Events cut before each START, and the frame that begins at a place.
use Prim.Native.Nat.{ℕ, suc, ◌+◌, ◌-◌, min, ◌≤◌, ◌<◌}
use native.Mathlib.Numerals.{add-one}
use native.Mathlib.Omega.{arith}
use mathlib.Core.Path.{◌≡◌, refl, sym, ap, ◌∙◌}
use mathlib.Core.Bool.{Bool, true, false, cond}
use mathlib.Core.List.{List, [], ◌∷◌}
use lib.Dec.{ltb}
use lib.ListN.{length, get_or, take, drop, drop_of_length-le}
use lib.Seq.{drop-cons, drop-drop, length-take-le, take-add, drop_at, take_all}
use borrow.Author.Tests.{ltb-true, ltb-false, eq-eqb, ne_eqb}
use Rattle.std.proofs.lemmas.List.{drop-take}
use Rattle.laws.proofs.Lists.{take-least, drop-least}
use Rattle.laws.specs.Search.{first}
use Rattle.laws.proofs.Search.{first-within}
use Rattle.frame_match.specs.Frames.{is_start, joined, cut, frame_of, later_than, frame_at}

-- a part of a list from a place on up to another, each no further than the list
pub part-is : (from to start end : ℕ) (events : List ℕ) → end ≡ min to (length events) → start ≡ min from end
    → take (end - start) (drop start events) ≡ drop from (take to events)
part-is from to start end events is-end is-start =
    let all : start + (end - start) ≡ end = omega arith in
    let long : length (take end events) ≡ end = length-take-le end events (omega arith) in
    sym (rw all at (drop-take start (end - start) events))
    ∙ ap (λ (n : ℕ). drop n (take end events)) (is-start ∙ ap (min from) (sym long))
    ∙ drop-least from (take end events)
    ∙ ap (λ (n : ℕ). drop from (take n events)) is-end
    ∙ ap (drop from) (take-least to events)

-- the first frame is an event and all up to the next START
pub cut-cons : (event : ℕ) (events : List ℕ)
    → cut (event ∷ events) ≡ (event ∷ take (first is_start events) events) ∷ cut (drop (first is_start events) events)
cut-cons event [] = refl
cut-cons event (other ∷ events) =
    ap (joined event) (cut-cons other events) ∙ go (is_start other) refl (cut-cons other events)
  where
    go : (start : Bool) → is_start other ≡ start
        → cut (other ∷ events)
        ≡ (other ∷ take (first is_start events) events) ∷ cut (drop (first is_start events) events)
        → joined event ((other ∷ take (first is_start events) events) ∷ cut (drop (first is_start events) events))
        ≡ (event ∷ take (first is_start (other ∷ events)) (other ∷ events)) ∷ cut (drop (first is_start (other ∷ events)) (other ∷ events))
    go true is whole = rw is (ap (λ (frames : List (List ℕ)). (event ∷ []) ∷ frames) (sym whole))
    go false is whole = rw is

module _ (seen : List ℕ) (from : ℕ) where
  module _ (less : from < length seen) where
    next : drop from seen ≡ get_or seen from 0 ∷ drop (from + 1) seen
    next = drop-cons seen from 0 less ∙ rw add-one

    whole : cut (drop from seen)
        ≡ (get_or seen from 0 ∷ take (first is_start (drop (from + 1) seen)) (drop (from + 1) seen))
        ∷ cut (drop (first is_start (drop (from + 1) seen)) (drop (from + 1) seen))
    whole = rw next (cut-cons (get_or seen from 0) (drop (from + 1) seen))

    frame_is : frame_at seen from
        ≡ get_or seen from 0 ∷ take (first is_start (drop (from + 1) seen)) (drop (from + 1) seen)
    frame_is = ap frame_of whole

    long : length (frame_at seen from) ≡ suc (first is_start (drop (from + 1) seen))
    long =
        ap length frame_is
        ∙ ap suc (length-take-le (first is_start (drop (from + 1) seen)) (drop (from + 1) seen)
        (first-within is_start (drop (from + 1) seen)))

    -- where it ends
    pub frame-end : from + length (frame_at seen from) ≡ from + 1 + first is_start (drop (from + 1) seen)
    frame-end = omega (arith, long)

    pub frame-some : from < from + length (frame_at seen from)
    frame-some = omega (arith, long)

    later-is : drop (first is_start (drop (from + 1) seen)) (drop (from + 1) seen)
        ≡ drop (from + length (frame_at seen from)) seen
    later-is =
        drop-drop (first is_start (drop (from + 1) seen)) (from + 1) seen
        ∙ ap (λ (n : ℕ). drop n seen) (sym frame-end)

    -- the frame that begins there, and those after it
    pub cut-here : cut (drop from seen) ≡ frame_at seen from ∷ cut (drop (from + length (frame_at seen from)) seen)
    cut-here =
        whole
        ∙ ap (λ (frame : List ℕ). frame ∷ cut (drop (first is_start (drop (from + 1) seen)) (drop (from + 1) seen))) (sym frame_is)
        ∙ ap (λ (rest : List ℕ). frame_at seen from ∷ cut rest) later-is

    front : frame_at seen from ≡ take (length (frame_at seen from)) (drop from seen)
    front =
        frame_is
        ∙ ap (λ (n : ℕ). take n (get_or seen from 0 ∷ drop (from + 1) seen)) (sym long)
        ∙ ap (take (length (frame_at seen from))) (sym next)

    here-spanned : drop from (take (from + length (frame_at seen from)) seen) ≡ frame_at seen from
    here-spanned =
        let before : length (take from seen) ≡ from = length-take-le from seen (omega arith) in
        ap (drop from) (take-add from (length (frame_at seen from)) seen)
        ∙ drop_at (take from seen) (take (length (frame_at seen from)) (drop from seen)) from before
        ∙ sym front

  module _ (past : length seen ≤ from) where
    nothing : drop from seen ≡ []
    nothing = drop_of_length-le seen past

    pub cut-past : cut (drop from seen) ≡ []
    cut-past = rw nothing

    frame_past : frame_at seen from ≡ []
    frame_past = rw nothing

    pub frame-end-past : from + length (frame_at seen from) ≡ from
    frame-end-past = rw nothing (omega arith)

    past-spanned : drop from (take (from + length (frame_at seen from)) seen) ≡ frame_at seen from
    past-spanned =
        rw (frame-end-past, take_all from seen past) (nothing ∙ sym frame_past)

    past-later : cut (drop (from + length (frame_at seen from)) seen) ≡ later_than (cut (drop from seen))
    past-later = rw (frame-end-past, nothing)

  pub frame-spanned : drop from (take (from + length (frame_at seen from)) seen) ≡ frame_at seen from
  frame-spanned = go (ltb from (length seen)) refl
    where
      go : (before : Bool) → ltb from (length seen) ≡ before
          → drop from (take (from + length (frame_at seen from)) seen) ≡ frame_at seen from
      go true is = here-spanned (ltb-true from (length seen) is)
      go false is = past-spanned (ltb-false from (length seen) is)

  pub frame-later : cut (drop (from + length (frame_at seen from)) seen) ≡ later_than (cut (drop from seen))
  frame-later = go (ltb from (length seen)) refl
    where
      go : (before : Bool) → ltb from (length seen) ≡ before
          → cut (drop (from + length (frame_at seen from)) seen) ≡ later_than (cut (drop from seen))
      go true is = sym (ap later_than (cut-here (ltb-true from (length seen) is)))
      go false is = past-later (ltb-false from (length seen) is)

-- ---- the first START from a place on
module _ (seen : List ℕ) (i : ℕ) where
  module _ (less : i < length seen) where
    from-here : i + first is_start (drop i seen)
        ≡ i + cond (is_start (get_or seen i 0)) 0 (suc (first is_start (drop (i + 1) seen)))
    from-here = rw (drop-cons seen i 0 less, add-one)

    pub start-here : get_or seen i 0 ≡ 512 → i ≡ i + first is_start (drop i seen)
    start-here is = sym (rw (eq-eqb (get_or seen i 0) 512 is) at from-here ∙ omega arith)

    pub start-passed : (get_or seen i 0 ≡ 512 → ⊥) → i + first is_start (drop i seen) ≡ i + 1 + first is_start (drop (i + 1) seen)
    start-passed other = rw (ne_eqb (get_or seen i 0) 512 other) at from-here ∙ omega arith

  pub start_none : length seen ≤ i → i ≡ i + first is_start (drop i seen)
  start_none past = rw (drop_of_length-le seen past) (omega arith)
