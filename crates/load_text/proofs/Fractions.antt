-- N/M from its two parts.
use mathlib.Core.Path.{◌≡◌, refl, sym, ap, ◌∙◌}
use mathlib.Core.Bool.{Bool, true, false, cond}
use mathlib.Core.List.{List}
use Prim.Native.Nat.{ℕ, suc, ◌+◌, ◌-◌, ◌<◌}
use native.Mathlib.Omega.{arith}
use borrow.Author.Tests.{eq-eqb, ne_eqb, ltb-true, ltb-false}
use lib.Dec.{eqb, ltb}
use lib.ListN.{length, take, drop}
use Rattle.std.specs.Prelude.{Option, Some, None, Result}
use Rattle.std.specs.List.{position, position_or_len}
use Rattle.std.proofs.lemmas.List.Recursion.{is_position_or_len}
use Rattle.std.proofs.lemmas.Option.{cond_some, none-some}
use Rattle.laws.specs.Search.{first}
use Rattle.laws.proofs.Search.{first-within}
use Rattle.text.specs.declared.numbers.NotNumber.{NotNumber}
use Rattle.text.specs.Numbers.{number_in}
use Rattle.text.proofs.Runs.{to_end}
use Rattle.load_text.specs.Words.{slash, parts_from, parts_in}

-- where the first slash stands, as the library says it
module _ (word : List ℕ) where
  first-is : first slash word ≡ position_or_len slash word
  first-is = is_position_or_len (first slash) slash refl (λ b rest. step b (first slash rest)) word
    where
      step : (b n : ℕ) → cond (slash b) 0 (suc n) ≡ cond (slash b) 0 (1 + n)
      step b n = let one : suc n ≡ 1 + n = omega arith in ap (λ (k : ℕ). cond (slash b) 0 k) one

  pub slash-found : (end : ℕ) → Some end ≡ position slash word → (end ≡ first slash word) × (end < length word)
  slash-found end is =
      let two = cond_some _ _ _ (sym is) in
      let less = ltb-true (position_or_len slash word) (length word) two.0 in
      (sym two.1 ∙ sym first-is, omega (arith, less, two.1))

  pub no-slash : None ≡ position slash word → None ≡ parts_in word
  unfolding parts_in
  no-slash is = rw (eq-eqb (first slash word) (length word) (go (ltb (position_or_len slash word) (length word)) refl is))
    where
      go : (less : Bool) → ltb (position_or_len slash word) (length word) ≡ less
          → None ≡ cond less (Some (position_or_len slash word)) None → first slash word ≡ length word
      go true so none = absurd (none-some (position_or_len slash word) none)
      go false so none =
          omega (arith, first-is, first-within slash word, ltb-false (position_or_len slash word) (length word) so)

pub parts-found : (word : List ℕ) (end : ℕ) (one other : Result ℕ NotNumber) (r : Option (ℕ × ℕ))
    → Some end ≡ position slash word
    → one ≡ number_in 10 (take end word)
    → other ≡ number_in 10 (take (length word - (end + 1)) (drop (end + 1) word))
    → r ≡ parts_from one other → r ≡ parts_in word
unfolding parts_in
parts-found word end one other r found front back made =
    let two = slash-found word end found in
    let inside : eqb end (length word) ≡ false = ne_eqb end (length word) (λ e. omega (arith, two.1, e)) in
    rw (made, front, back, to_end (end + 1) word, ← two.0, inside)
