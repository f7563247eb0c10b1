-- Messages searched one after the other: what holds at the loop's head.
use Prim.Native.Nat.{ℕ, ◌+◌, ◌-◌, ◌<◌, ◌≤◌, min}
use mathlib.Core.Path.{◌≡◌, refl, ap}
use mathlib.Core.Bool.{Bool, true, false, ◌||◌}
use mathlib.Core.List.{List, [], ◌∷◌}
use native.Mathlib.Omega.{arith}
use lib.ListN.{length, get_or, take, drop}
use Rattle.std.specs.List.{list_any}
use Rattle.laws.specs.Search.{first, any}
use Rattle.laws.proofs.Search.{Passed, passed_start, passed-more, found_first, found-any, none_first, none_any}
use Rattle.arbitration_rules.specs.Reply.{cut}
use Rattle.arbitration_rules.proofs.Cut.{cut-count}
use Rattle.arbitration_messages.proofs.Walk.{At, at-start, at_more, in-messages, message-is}

-- the library's test of any element
pub any-listed : {A : Type 0} (test : A → Bool) (list : List A) → any test list ≡ list_any test list
any-listed test [] = refl
any-listed test (a ∷ list) = ap (λ (found : Bool). test a || found) (any-listed test list)

-- the first i messages fail a test, and end at an index of what is sent
pub record Searched (test : List ℕ → Bool) (lengths sent : List ℕ) (i from : ℕ) : Type 0 where
  pub at : At lengths sent i from
  pub passed : Passed test (cut lengths sent) i

module _ (test : List ℕ → Bool) (lengths sent : List ℕ) where
  pub searched-start : Searched test lengths sent 0 0
  searched-start = record { at = at-start lengths sent; passed = passed_start test (cut lengths sent) }

  module _ (i from to : ℕ) (searched : Searched test lengths sent i from) (less : i < length lengths)
      (end : to ≡ min (from + get_or lengths i 0) (length sent)) where
    inside : i < length (cut lengths sent)
    inside = in-messages lengths sent i from to searched.at less end

    same : take (to - from) (drop from sent) ≡ get_or (cut lengths sent) i []
    same = message-is lengths sent i from to searched.at less end

    pub searched-more : test (take (to - from) (drop from sent)) ≡ false → Searched test lengths sent (i + 1) to
    searched-more fails =
        record {
          at = at_more lengths sent i from to searched.at less end;
          passed = passed-more test (cut lengths sent) i [] searched.passed inside (rw same at fails);
        }

    pub searched-first : test (take (to - from) (drop from sent)) ≡ true
        → i ≡ first test (cut lengths sent)
    searched-first passes =
        found_first test (cut lengths sent) i [] searched.passed inside (rw same at passes)

    pub searched-any : test (take (to - from) (drop from sent)) ≡ true
        → true ≡ any test (cut lengths sent)
    searched-any passes =
        found-any test (cut lengths sent) i [] searched.passed inside (rw same at passes)

  module _ (i from : ℕ) (searched : Searched test lengths sent i from) (done : length lengths ≤ i) where
    past : length (cut lengths sent) ≤ i
    past = omega (arith, cut-count lengths sent)

    pub searched-none : i ≡ first test (cut lengths sent)
    searched-none = none_first test (cut lengths sent) i searched.passed past

    pub searched-not : false ≡ any test (cut lengths sent)
    searched-not = none_any test (cut lengths sent) i searched.passed past
