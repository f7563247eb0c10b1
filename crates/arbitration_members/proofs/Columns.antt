-- Something of each message, gathered from the front into an array of the most masters.
use Prim.Native.Nat.{ℕ, ◌+◌, ◌-◌, ◌<◌, ◌≤◌, min}
use mathlib.Core.Path.{◌≡◌, refl, ap, ap₂, ◌∙◌}
use mathlib.Core.List.{List, [], ◌++◌, map}
use native.Mathlib.Omega.{arith}
use lib.ListN.{length, get_or, set, take, drop, replicate, length-replicate}
use Rattle.laws.proofs.Lists.{take_min}
use Rattle.laws.proofs.Loops.{gathered-more, drop-replicate}
use Rattle.arbitration_rules.specs.Limits.{max_masters}
use Rattle.arbitration_rules.specs.Reply.{cut}
use Rattle.arbitration_rules.proofs.Cut.{cut-count}
use Rattle.arbitration_messages.proofs.Walk.{At, at-start, at_more, in-messages, message-is}

module _ {A : Type 0} (of : List ℕ → A) (empty : A) (lengths sent : List ℕ) where
  abbrev messages : List (List ℕ)
  messages = cut lengths sent

  -- the first i are gathered, and the next message begins at an index of what is sent
  pub record Filling (out : List A) (from i : ℕ) : Type 0 where
    pub at : At lengths sent i from
    pub within : i ≤ min (length lengths) max_masters
    pub stored : out ≡ map of (take i messages) ++ drop i (replicate max_masters empty)

  pub filling-start : Filling (replicate max_masters empty) 0 0
  filling-start = record { at = at-start lengths sent; within = omega arith; stored = refl }

  module _ (out : List A) (i from : ℕ) (filling : Filling out from i) where
    pub filling-more : (to : ℕ) (value : A) → i < min (length lengths) max_masters
        → to ≡ min (from + get_or lengths i 0) (length sent) → value ≡ of (take (to - from) (drop from sent))
        → Filling (set out i value) to (i + 1)
    filling-more to value less end is =
        let here : i < length lengths = omega (arith, less) in
        let inside = in-messages lengths sent i from to filling.at here end in
        record {
          at = at_more lengths sent i from to filling.at here end;
          within = omega (arith, less);
          stored =
              ap (λ (v : A). set out i v) (is ∙ ap of (message-is lengths sent i from to filling.at here end))
              ∙ gathered-more of messages (replicate max_masters empty) out i [] filling.stored inside
              (omega (arith, less, length-replicate {A = A} max_masters empty));
        }

    pub filling-done : min (length lengths) max_masters ≤ i
        → out ≡ map of (take max_masters messages) ++ replicate (max_masters - length messages) empty
    filling-done done =
        let count = cut-count lengths sent in
        let end : i ≡ min (length messages) max_masters = omega (arith, filling.within, count) in
        let left : max_masters - i ≡ max_masters - length messages = omega (arith, end) in
        filling.stored
        ∙ ap₂ (λ (head rest : List A). head ++ rest)
        (ap (λ (k : ℕ). map of (take k messages)) end ∙ ap (map of) (take_min max_masters messages))
        (drop-replicate empty max_masters i (omega (arith, end)) ∙ ap (λ (k : ℕ). replicate k empty) left)
