-- What is decided of those still in: all have the winner's message, or two differ.
use Prim.Native.Nat.{ℕ}
use mathlib.Core.Path.{◌≡◌, refl, sym, ap, ◌∙◌}
use mathlib.Core.Bool.{Bool, cond, true, false, false≢true}
use mathlib.Core.List.{List, [], ◌∷◌}
use native.Mathlib.Omega.{arith}
use Rattle.laws.specs.Everyone.{Everyone, nobody, also, Someone, this, another}
use Rattle.laws.specs.Search.{all}
use Rattle.laws.proofs.Lists.{everyone-so, someone-length, someone-both}
use Rattle.laws.proofs.Bools.{both}
use Rattle.verdict.specs.declared.Verdict.{Verdict}
use Rattle.verdict.specs.declared.Verdict.TheVariants.{Undecided}
use Rattle.laws.specs.Same.{same}
use Rattle.verdict.specs.Verdict.{ended, decided}
use Rattle.laws.proofs.Same.{same_self, same-equal}

-- what a test of all says of each
all_true : {A : Type 0} (test : A → Bool) (list : List A) → all test list ≡ true → Everyone (λ a. test a ≡ true) list
all_true test [] every = nobody
all_true test (a ∷ list) every =
    let two = both (test a) (all test list) every in also two.0 (all_true test list two.1)

all-false : {A : Type 0} (test : A → Bool) (list : List A) → all test list ≡ false
    → Someone (λ a. test a ≡ false) list
all-false test [] fails = absurd (false≢true (sym fails))
all-false test (a ∷ list) fails = go (test a) refl (all-false test list)
  where
    go : (passes : Bool) → test a ≡ passes → (all test list ≡ false → Someone (λ a. test a ≡ false) list)
        → Someone (λ a. test a ≡ false) (a ∷ list)
    go true is rest = another (rest (rw is at fails))
    go false is rest = this is

-- two of several messages differ
pub record Differ (messages : List (List ℕ)) : Type 0 where
  pub one : List ℕ
  pub other : List ℕ
  pub one_in : Someone (λ own. own ≡ one) messages
  pub other-in : Someone (λ own. own ≡ other) messages
  pub unequal : one ≡ other → ⊥

-- one claim of everyone, another of someone
someone-is : {message : List ℕ} {P : List ℕ → Type 0} {messages : List (List ℕ)}
    → Someone (λ own. P own × (own ≡ message)) messages → P message
someone-is {P} (this (holds, same)) = rw (← same) holds
someone-is (another rest) = someone-is rest

pub of-each : {message : List ℕ} {P : List ℕ → Type 0} {messages : List (List ℕ)} → Everyone P messages
    → Someone (λ own. own ≡ message) messages → P message
of-each every some_one = someone-is (someone-both every some_one)

pub not-both : {winner : List ℕ} {messages : List (List ℕ)} → Everyone (λ own. own ≡ winner) messages
    → Differ messages → ⊥
not-both every differ =
    differ.unequal (of-each every differ.one_in ∙ sym (of-each every differ.other-in))

-- whoever is not the same as the first differs from it
differing : (first : List ℕ) {messages : List (List ℕ)} → Someone (λ own. same first own ≡ false) messages
    → Differ (first ∷ messages)
differing first (this {a} unlike) =
    record {
      one = first;
      other = a;
      one_in = this refl;
      other-in = another (this refl);
      unequal = λ (e : first ≡ a). false≢true (sym unlike ∙ ap (same first) (sym e) ∙ same_self first);
    }
differing first (another {a} {l} rest) = go (differing first rest)
  where
    go : Differ (first ∷ l) → Differ (first ∷ a ∷ l)
    go later =
        record {
          one = later.one;
          other = later.other;
          one_in = past later.one_in;
          other-in = past later.other-in;
          unequal = later.unequal;
        }
      where
        past : {P : List ℕ → Type 0} → Someone P (first ∷ l) → Someone P (first ∷ a ∷ l)
        past (this holds) = this holds
        past (another rest) = another (another rest)

pub data Decision (winner : List ℕ) (contenders : List (List ℕ)) (verdict end : Verdict) : Type 0 where
  together : Everyone (λ own. own ≡ winner) contenders → verdict ≡ end → Decision winner contenders verdict end
  apart : Differ contenders → verdict ≡ Undecided → Decision winner contenders verdict end

pub decision : (contenders : List (List ℕ)) (winner : List ℕ) (count : ℕ) (acknowledges : List ℕ)
    → Someone (λ own. own ≡ winner) contenders
    → Decision winner contenders (decided contenders count acknowledges) (ended winner count acknowledges)
decision [] winner count acknowledges some_one = absurd (omega (arith, someone-length some_one))
decision (first ∷ others) winner count acknowledges some_one = go (all (same first) others) refl
  where
    go : (alike : Bool) → all (same first) others ≡ alike
        → Decision winner (first ∷ others) (cond alike (ended first count acknowledges) Undecided)
        (ended winner count acknowledges)
    go true is =
        let every : Everyone (λ own. own ≡ first) (first ∷ others) =
        also refl
        (everyone-so (λ own alike. sym (same-equal first own alike)) (all_true (same first) others is)) in
        let winner-is : winner ≡ first = of-each every some_one in
        together
        (everyone-so (λ own is-first. is-first ∙ sym winner-is) every)
        (ap (λ (message : List ℕ). ended message count acknowledges) (sym winner-is))
    go false is = apart (differing first (all-false (same first) others is)) refl
