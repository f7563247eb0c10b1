-- What is decided at each return, where nothing is refused.
use Prim.Native.Nat.{ℕ, ◌<◌, ◌≤◌, min}
use mathlib.Core.Path.{◌≡◌, refl, sym, ap, ◌∙◌}
use mathlib.Core.Bool.{Bool, cond, true, false, not, ◌&&◌, ◌||◌}
use mathlib.Core.List.{List, []}
use native.Mathlib.Omega.{arith}
use borrow.Author.Tests.{leb-true, leb-false, not-true, not-false}
use lib.Dec.{eqb, leb}
use lib.ListN.{length, get_or}
use Rattle.laws.specs.Search.{first}
use Rattle.laws.proofs.Bools.{neither}
use Rattle.arbitration_rules.specs.declared.Seat.{Seat}
use Rattle.arbitration_rules.specs.Limits.{max_masters}
use Rattle.arbitration_rules.specs.Outcome.{all_acknowledged}
use Rattle.arbitration_rules.specs.Reply.{cut}
use Rattle.arbitration_rules.proofs.Cut.{cut-count}
use Rattle.verdict.specs.declared.Verdict.{Verdict}
use Rattle.verdict.specs.declared.Verdict.TheVariants.{Undecided, Cut, Sent}
use Rattle.verdict.specs.Verdict.{still_in, contenders, ended, decided}
use Rattle.verdict.proofs.Agreeing.{agreed, nobody-in, decided-by}

-- one of two ends is passed
past_one : (i seats boards : ℕ) → leb seats i || leb boards i ≡ true → min seats boards ≤ i
past_one i seats boards test = go (leb seats i) refl
  where
    go : (past : Bool) → leb seats i ≡ past → min seats boards ≤ i
    go true is = omega (arith, leb-true seats i is)
    go false is = omega (arith, leb-true boards i (rw is at test))

module _ (seats : List Seat) (count : ℕ) (lengths sent acknowledges : List ℕ) (winner : ℕ)
    (is : winner ≡ first still_in seats) (seated : length seats ≡ max_masters) where
  abbrev messages : List (List ℕ)
  messages = cut lengths sent

  abbrev verdict : Verdict
  verdict = decided (contenders seats messages) count acknowledges

  pub judged-nobody : leb max_masters winner || leb (length lengths) winner ≡ true → Undecided ≡ verdict
  judged-nobody test =
      let past = past_one winner max_masters (length lengths) test in
      let none = nobody-in seats messages (omega (arith, past, seated, is, cut-count lengths sent)) in
      sym (ap (λ (l : List (List ℕ)). decided l count acknowledges) none)

  -- someone is in
  module _ (message : List ℕ) (agree : Bool) (same-message : message ≡ get_or messages winner [])
      (agree-is : agree ≡ agreed message seats messages)
      (led : leb max_masters winner || leb (length lengths) winner ≡ false) where
    two : (winner < max_masters) × (winner < length lengths)
    two =
        let both = neither (leb max_masters winner) (leb (length lengths) winner) led in
        (leb-false max_masters winner both.0, leb-false (length lengths) winner both.1)

    by-agreement : verdict ≡ cond agree (ended message count acknowledges) Undecided
    by-agreement =
        let less : first still_in seats < length seats = omega (arith, two.0, seated, is) in
        let less_other : first still_in seats < length messages = omega (arith, two.1, is, cut-count lengths sent) in
        decided-by seats messages message count acknowledges
        (same-message ∙ ap (λ (i : ℕ). get_or messages i []) is) less less_other
        ∙ ap (λ (b : Bool). cond b (ended message count acknowledges) Undecided) (sym agree-is)

    pub judged-apart : not agree ≡ true → Undecided ≡ verdict
    judged-apart apart = sym (rw (not-true agree apart) at by-agreement)

    module _ (all : Bool) (all-is : all ≡ all_acknowledged message acknowledges) (together : not agree ≡ false) where
      by_end : verdict ≡ cond (eqb count (length message) && all) (Sent (length message)) (Cut count)
      unfolding ended
      by_end = rw (all-is) (rw (not-false agree together) at by-agreement)

      pub judged-sent : eqb count (length message) && all ≡ true → Sent (length message) ≡ verdict
      judged-sent whole = sym (rw whole at by_end)

      pub judged-cut : eqb count (length message) && all ≡ false → Cut count ≡ verdict
      judged-cut short = sym (rw short at by_end)
