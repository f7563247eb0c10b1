-- A message's length by its parts, with the limit: what a turn of its loop finds.
use Prim.Native.Nat.{ℕ, suc, ◌<◌, ◌≤◌}
use mathlib.Core.Path.{◌≡◌, refl, sym, ap, ◌∙◌}
use mathlib.Core.Bool.{Bool, true, false, ◌||◌, or-true, or_assoc}
use mathlib.Core.List.{List}
use native.Mathlib.Omega.{arith}
use borrow.Author.Tests.{lt-ltb, le-ltb, ltb-true, ltb-false}
use lib.Dec.{ltb}
use Rattle.laws.specs.Search.{any}
use Rattle.arbitration_rules.specs.Limits.{max_length}
use Rattle.arbitration_rules.specs.Reply.{is_empty, total, bad_message}
use Rattle.arbitration_messages.specs.Lengths.{limited, bad_length}

module _ (parts : List ℕ) where
  pub limited-empty : true ≡ any is_empty parts → suc max_length ≡ limited parts
  unfolding limited
  limited-empty empty = rw (← empty) refl

  pub limited-long : max_length < total parts → suc max_length ≡ limited parts
  unfolding limited
  limited-long long = rw (lt-ltb max_length (total parts) long, or-true) refl

  pub limited-all : false ≡ any is_empty parts → total parts ≤ max_length → total parts ≡ limited parts
  unfolding limited
  limited-all full short = rw (← full, le-ltb max_length (total parts) short) refl

-- the limited length says whether a message is bad
pub limited-bad : (count : ℕ) (parts : List ℕ) → bad_length count (limited parts) ≡ bad_message count parts
limited-bad count parts =
    ap (λ (bad : Bool). is_empty count || bad) (go (any is_empty parts) (ltb max_length (total parts)) refl refl)
    ∙ sym (or_assoc (is_empty count) (any is_empty parts) (ltb max_length (total parts)))
  where
    go : (empty long : Bool) → any is_empty parts ≡ empty → ltb max_length (total parts) ≡ long
        → ltb max_length (limited parts) ≡ any is_empty parts || ltb max_length (total parts)
    go true long empty? long? = rw (← limited-empty parts (sym empty?), empty?) refl
    go false true empty? long? = rw (← limited-long parts (ltb-true max_length (total parts) long?), empty?, long?) refl
    go false false empty? long? =
        let short = ltb-false max_length (total parts) long? in
        rw (← limited-all parts (sym empty?) short, empty?, long?) refl

-- and is at most one too many
pub limited-small : (parts : List ℕ) → limited parts ≤ suc max_length
limited-small parts = go (any is_empty parts) (ltb max_length (total parts)) refl refl
  where
    go : (empty long : Bool) → any is_empty parts ≡ empty → ltb max_length (total parts) ≡ long
        → limited parts ≤ suc max_length
    go true long empty? long? = omega (arith, limited-empty parts (sym empty?))
    go false true empty? long? = omega (arith, limited-long parts (ltb-true max_length (total parts) long?))
    go false false empty? long? =
        let short = ltb-false max_length (total parts) long? in
        omega (arith, short, limited-all parts (sym empty?) short)
