-- How many bytes are carried, and how many restarts stand among them, counted from the front.
use Prim.Native.Nat.{ℕ, suc, ◌+◌, ◌<◌, ◌≤◌, min}
use mathlib.Core.Path.{◌≡◌, refl, sym, ap, ap₂, ◌∙◌}
use mathlib.Core.Bool.{Bool, true, false, cond}
use mathlib.Core.List.{List, [], ◌∷◌}
use native.Mathlib.Numerals.{add-one}
use native.Mathlib.Omega.{arith}
use Rattle.std.proofs.Common.{zero-add}
use Rattle.std.specs.List.{count_by}
use Rattle.std.proofs.lemmas.List.Recursion.{is_count_by}
use borrow.Author.Tests.{eq-eqb, ne_eqb, leb-true, leb-false}
use lib.Dec.{eqb, leb}
use lib.ListN.{length, get_or, drop, drop_of_length-le, length-drop}
use lib.Seq.{drop-cons}
use Rattle.arbitration_rules.specs.Outcome.{carried_count, restarts, restart_count}

-- the first i bytes are acknowledged, and carried
pub record Carried (message acknowledges : List ℕ) (i : ℕ) : Type 0 where
  pub within : i ≤ length message
  pub same : carried_count message acknowledges ≡ i + carried_count (drop i message) (drop i acknowledges)

pub carried-start : (message acknowledges : List ℕ) → Carried message acknowledges 0
carried-start message acknowledges = record { within = omega arith; same = omega arith }

-- without an acknowledge all are carried
all-carried : (message : List ℕ) → carried_count message [] ≡ length message
all-carried [] = refl
all-carried (sent ∷ message) = ap suc (all-carried message)

module _ (message acknowledges : List ℕ) (i : ℕ) (carried : Carried message acknowledges i) where
  -- one of both has ended
  pub carried-all : min (length message) (length acknowledges) ≤ i
      → length message ≡ carried_count message acknowledges
  carried-all done = go (leb (length message) i) refl
    where
      go : (ended : Bool) → leb (length message) i ≡ ended → length message ≡ carried_count message acknowledges
      go true is =
          let all = leb-true (length message) i is in
          let none = ap (λ (l : List ℕ). carried_count l (drop i acknowledges)) (drop_of_length-le message all) in
          omega (arith, all, carried.same, none, carried.within)
      go false is =
          let some = leb-false (length message) i is in
          let all : length acknowledges ≤ i = omega (arith, some, done) in
          let rest =
          ap (carried_count (drop i message)) (drop_of_length-le acknowledges all) ∙ all-carried (drop i message) in
          omega (arith, some, carried.same, rest, length-drop i message)

  module _ (less : i < min (length message) (length acknowledges)) where
    here : carried_count message acknowledges
        ≡ i + cond (eqb (get_or acknowledges i 0) 1) 1
        (suc (carried_count (drop (suc i) message) (drop (suc i) acknowledges)))
    here =
        let one : i < length message = omega arith in
        let two : i < length acknowledges = omega arith in
        carried.same
        ∙ ap₂ (λ (l k : List ℕ). i + carried_count l k) (drop-cons message i 0 one) (drop-cons acknowledges i 0 two)

    pub carried-last : get_or acknowledges i 0 ≡ 1 → i + 1 ≡ carried_count message acknowledges
    carried-last refused = sym (rw (eq-eqb _ _ refused) at here)

    pub carried-more : (get_or acknowledges i 0 ≡ 1 → ⊥) → Carried message acknowledges (i + 1)
    carried-more accepted =
        record { within = omega arith; same = rw add-one (omega (arith, rw (ne_eqb _ _ accepted) at here)) }

-- the library's count
pub restarts-counted : (list : List ℕ) → restart_count list ≡ count_by restarts list
restarts-counted = is_count_by restart_count restarts refl (λ sent list. go (restarts sent) (restart_count list))
  where
    go : (again : Bool) (count : ℕ) → cond again 1 0 + count ≡ cond again (1 + count) count
    go true count = refl
    go false count = zero-add count

pub restarts-few : (list : List ℕ) → restart_count list ≤ length list
restarts-few [] = omega arith
restarts-few (sent ∷ list) = go (restarts sent) (restarts-few list)
  where
    go : (again : Bool) → restart_count list ≤ length list
        → cond again 1 0 + restart_count list ≤ suc (length list)
    go true rest = omega arith
    go false rest = omega arith
