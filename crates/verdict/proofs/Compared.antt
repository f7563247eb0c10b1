-- Messages: two compared, one acknowledged, one found by its index.
use Prim.Native.Nat.{ℕ, ◌+◌, ◌<◌, ◌≤◌, min}
use mathlib.Core.Path.{◌≡◌, refl, sym, ap}
use mathlib.Core.Bool.{Bool, ◌&&◌}
use mathlib.Core.List.{List, [], ◌∷◌}
use native.Mathlib.Omega.{arith}
use lib.Dec.{eqb}
use lib.ListN.{length, get_or, get_or-eq_default}
use Rattle.std.specs.Cmp.Lexicographic.{pointwise}
use Rattle.std.specs.List.{list_all, zip}
use Rattle.arbitration_rules.specs.Outcome.{all_acknowledged}
use Rattle.arbitration_rules.specs.Reply.{cut}
use Rattle.arbitration_rules.proofs.Cut.{cut-count}
use Rattle.arbitration_rules.proofs.Undecided.{none_left}
use Rattle.arbitration_messages.proofs.Walk as walk
use Rattle.verdict.specs.Message.{MessageAt}
use Rattle.laws.specs.Same.{same}

-- the library's comparison of two slices
pub same-pointwise : (list other : List ℕ) → pointwise eqb list other ≡ same list other
unfolding same
same-pointwise [] [] = refl
same-pointwise [] (b ∷ other) = refl
same-pointwise (a ∷ list) [] = refl
same-pointwise (a ∷ list) (b ∷ other) = ap (λ (rest : Bool). eqb a b && rest) (same-pointwise list other)

-- the library's test of all pairs
abbrev pub taken : ℕ × ℕ → Bool
taken pair = eqb pair.1 0

pub acknowledged-pairs : (message acknowledges : List ℕ)
    → list_all taken (zip message acknowledges) ≡ all_acknowledged message acknowledges
acknowledged-pairs [] acknowledges = refl
acknowledged-pairs (sent ∷ message) [] = sym (none_left message)
acknowledged-pairs (sent ∷ message) (acknowledge ∷ acknowledges) =
    ap (λ (rest : Bool). eqb acknowledge 0 && rest) (acknowledged-pairs message acknowledges)

-- a message found by its index
module _ (lengths sent : List ℕ) (index : ℕ) where
  pub message-past : length lengths ≤ index → MessageAt lengths sent index (record { from = 0; to = 0 })
  message-past past =
      let all : length (cut lengths sent) ≤ index = omega (arith, past, cut-count lengths sent) in
      record {
        ordered = omega arith;
        within = omega arith;
        same = sym (get_or-eq_default (cut lengths sent) [] all);
      }

  pub message-found : (i from to : ℕ) → walk.At lengths sent i from → i ≡ index → index < length lengths
      → to ≡ min (from + get_or lengths index 0) (length sent)
      → MessageAt lengths sent index (record { from = from; to = to })
  message-found i from to at there less end =
      let here : walk.At lengths sent index from = rw (← there) at in
      record {
        ordered = walk.ordered lengths sent index from to here less end;
        within = walk.end-within lengths sent index from to here less end;
        same = walk.message-is lengths sent index from to here less end;
      }
