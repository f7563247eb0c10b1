-- Two messages compared for refusal 16: what holds at the loop's head, and what a turn finds.
use Prim.Native.Nat.{ℕ, suc, ◌+◌, ◌<◌, ◌≤◌}
use mathlib.Core.Path.{◌≡◌, refl, sym, ap, ap₂, ◌∙◌}
use mathlib.Core.Bool.{Bool, true, false, not, ◌&&◌, beq}
use mathlib.Core.List.{List, [], ◌∷◌}
use native.Mathlib.Numerals.{add-one}
use native.Mathlib.Omega.{arith}
use borrow.Author.Tests.{eq-eqb, ne_eqb, ltb-true, ltb-false}
use lib.Dec.{eqb, ltb}
use lib.ListN.{length, get_or, drop, drop_of_length-le}
use lib.Seq.{drop-cons, drop-drop, get_or-drop}
use Rattle.arbitration_rules.specs.Outcome.{restarts, ending_differs}

-- the first i of both are the same, and acknowledged
pub record Together (acknowledges message other : List ℕ) (i : ℕ) : Type 0 where
  pub within : i ≤ length message
  pub within-other : i ≤ length other
  pub same : ending_differs acknowledges message other
      ≡ ending_differs (drop i acknowledges) (drop i message) (drop i other)

pub together-start : (acknowledges message other : List ℕ) → Together acknowledges message other 0
together-start acknowledges message other =
    record { within = omega arith; within-other = omega arith; same = refl }

module _ (acknowledges message other : List ℕ) (i : ℕ) (together : Together acknowledges message other i) where
  abbrev differs : Bool
  differs = ending_differs acknowledges message other

  abbrev sent : ℕ
  sent = get_or message i 0

  abbrev its : ℕ
  its = get_or other i 0

  -- the message has ended
  pub together-end : length message ≤ i → ltb i (length other) ≡ differs
  together-end done = go (ltb i (length other)) refl
    where
      left : differs ≡ ending_differs (drop i acknowledges) [] (drop i other)
      left =
          together.same
          ∙ ap (λ (l : List ℕ). ending_differs (drop i acknowledges) l (drop i other)) (drop_of_length-le message done)

      go : (more : Bool) → ltb i (length other) ≡ more → more ≡ differs
      go true is =
          sym (left ∙ ap (ending_differs (drop i acknowledges) []) (drop-cons other i 0 (ltb-true i (length other) is)))
      go false is =
          let all = ltb-false i (length other) is in
          sym (left ∙ ap (ending_differs (drop i acknowledges) []) (drop_of_length-le other all))

  module _ (less : i < length message) where
    next : drop i message ≡ sent ∷ drop (suc i) message
    next = drop-cons message i 0 less

    pub together-other-end : i ≡ length other → true ≡ differs
    together-other-end done =
        let done-other : length other ≤ i = omega arith in
        sym
        (together.same
        ∙ ap₂ (ending_differs (drop i acknowledges)) next (drop_of_length-le other done-other))

    module _ (less_other : i < length other) where
      here : differs
          ≡ ending_differs (drop i acknowledges) (sent ∷ drop (suc i) message) (its ∷ drop (suc i) other)
      here = together.same ∙ ap₂ (ending_differs (drop i acknowledges)) next (drop-cons other i 0 less_other)

      pub together-differ : (sent ≡ its → ⊥) → not (beq (restarts sent) (restarts its)) ≡ differs
      together-differ unequal = sym (rw (ne_eqb _ _ unequal) at here)

      module _ (equal : sent ≡ its) where
        on : differs
            ≡ eqb (get_or acknowledges i 0) 0 && ending_differs (drop (i + 1) acknowledges) (drop (i + 1) message)
            (drop (i + 1) other)
        on =
            let same : i + 0 ≡ i = omega arith in
            (rw (eq-eqb _ _ equal) at here)
            ∙ ap₂ (λ (k : ℕ) (l : List ℕ).
            eqb k 0 && ending_differs l (drop (suc i) message) (drop (suc i) other))
            (get_or-drop i acknowledges 0 0 ∙ ap (λ (k : ℕ). get_or acknowledges k 0) same)
            (drop-drop 1 i acknowledges)
            ∙ ap (λ (k : ℕ).
            eqb (get_or acknowledges i 0) 0 && ending_differs (drop (i + 1) acknowledges) (drop k message) (drop k other))
            (sym (add-one i))

        pub together-refused : eqb (get_or acknowledges i 0) 0 ≡ false → false ≡ differs
        together-refused refused = sym (rw refused at on)

        pub together-more : eqb (get_or acknowledges i 0) 0 ≡ true → Together acknowledges message other (i + 1)
        together-more acknowledged =
            record { within = omega arith; within-other = omega arith; same = rw acknowledged at on }
