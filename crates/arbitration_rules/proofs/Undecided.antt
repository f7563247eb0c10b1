-- Refusal 16 over messages and acknowledges alone: what it says of two messages; and where it does not apply, whoever is
-- still in when the least message has been sent whole has sent that very message.
use Prim.Native.Nat.{ℕ, zero, suc, ◌≤◌, ◌<◌}
use native.Mathlib.Omega.{arith}
use mathlib.Core.Path.{◌≡◌, refl, ap, ap₂, sym, ◌∙◌}
use mathlib.Core.Bool.{Bool, cond, true, false, not, ◌&&◌, beq, false≢true}
use mathlib.Core.List.{List, [], ◌∷◌}
use mathlib.Core.Logic.{◌⊎◌, inl, inr}
use mathlib.Core.Option.{none, some}
use lib.Dec.{eqb, eqb-suc-zero}
use lib.ListN.{get_or, take, drop}
use borrow.Author.Tests.{eq-eqb, eqb-true}
use Rattle.laws.specs.Everyone.{Everyone, nobody, also}
use Rattle.laws.proofs.Bools.{both}
use Rattle.laws.proofs.Lists.{everyone-so}
use Rattle.arbitration_rules.specs.Outcome.{byte_of, restarts, least, carried_count, position_in, loss_from}
use Rattle.arbitration_rules.specs.Outcome.{all_acknowledged, ending_differs}
use Rattle.arbitration_rules.proofs.Follows.{Follows, follows-end, follows-goes, follows_on}
use Rattle.arbitration_rules.proofs.Demand.{Arbitration, contest}

-- what a message does after so many bytes: 0 a restart, 1 a STOP, 2 a byte
abbrev kind : Bool → ℕ
kind again = cond again 0 2

abbrev pub next_at : ℕ → List ℕ → ℕ
next_at zero [] = 1
next_at zero (sent ∷ message) = kind (restarts sent)
next_at (suc index) [] = 1
next_at (suc index) (sent ∷ message) = next_at index message

-- two messages are alike up to some byte, every byte before it is acknowledged, and then they do not do the same: one of
-- them ends there or restarts, and the other does not
pub record Apart (acknowledges message other : List ℕ) : Type 0 where
  pub index : ℕ
  pub alike : take index message ≡ take index other
  pub acknowledged : (i : ℕ) → i < index → get_or acknowledges i 0 ≡ 0
  pub apart : next_at index message ≡ next_at index other → ⊥

first-apart : {acknowledges message other : List ℕ} → (next_at 0 message ≡ next_at 0 other → ⊥)
    → Apart acknowledges message other
first-apart apart =
    record { index = 0; alike = refl; acknowledged = λ i below. absurd (omega arith); apart = apart }

get_d-rest : (acknowledges : List ℕ) (i : ℕ) → get_or (drop 1 acknowledges) i 0 ≡ get_or acknowledges (suc i) 0
get_d-rest [] i = refl
get_d-rest (acknowledge ∷ acknowledges) i = refl

-- 16 says this of the least message and some other
pub differs-apart : (acknowledges message other : List ℕ) → ending_differs acknowledges message other ≡ true
    → Apart acknowledges message other
differs-apart acknowledges [] [] differs = absurd (false≢true differs)
differs-apart acknowledges [] (other ∷ others) differs = first-apart (λ same. go (restarts other) same)
  where
    go : (again : Bool) → ◌≡◌ {A = ℕ} 1 (kind again) → ⊥
    go true same = omega arith
    go false same = omega arith
differs-apart acknowledges (sent ∷ message) [] differs = first-apart (λ same. go (restarts sent) same)
  where
    go : (again : Bool) → kind again ≡ 1 → ⊥
    go true same = omega arith
    go false same = omega arith
differs-apart acknowledges (sent ∷ message) (other ∷ others) differs =
    go (eqb sent other) refl differs (λ rest. differs-apart (drop 1 acknowledges) message others rest)
  where
    kinds : (one two : Bool) → not (beq one two) ≡ true → kind one ≡ kind two → ⊥
    kinds true true h same = false≢true h
    kinds true false h same = omega arith
    kinds false true h same = omega arith
    kinds false false h same = false≢true h

    go : (same : Bool) → eqb sent other ≡ same
        → cond same (eqb (get_or acknowledges 0 0) 0 && ending_differs (drop 1 acknowledges) message others)
        (not (beq (restarts sent) (restarts other))) ≡ true
        → (ending_differs (drop 1 acknowledges) message others ≡ true
        → Apart (drop 1 acknowledges) message others)
        → Apart acknowledges (sent ∷ message) (other ∷ others)
    go true same differs rest =
        let two = both (eqb (get_or acknowledges 0 0) 0) (ending_differs (drop 1 acknowledges) message others) differs in
        let later = rest two.1 in
        record {
          index = suc later.index;
          alike = ap₂ ◌∷◌ (eqb-true sent other same) later.alike;
          acknowledged =
              λ i. elim i as (λ i. i < suc later.index → get_or acknowledges i 0 ≡ 0) [
                | zero ↦ λ below. eqb-true (get_or acknowledges 0 0) 0 two.0
                | suc i ↦ λ below. sym (get_d-rest acknowledges i) ∙ later.acknowledged i (omega arith)
              ];
          apart = later.apart;
        }
    go false same differs rest = first-apart (kinds (restarts sent) (restarts other) differs)

-- and of no others: messages that come apart so are refused
pub apart-differs : (acknowledges message other : List ℕ) (index : ℕ) → take index message ≡ take index other
    → ((i : ℕ) → i < index → get_or acknowledges i 0 ≡ 0) → (next_at index message ≡ next_at index other → ⊥)
    → ending_differs acknowledges message other ≡ true
apart-differs acknowledges [] [] zero alike heard apart = absurd (apart refl)
apart-differs acknowledges [] [] (suc index) alike heard apart = absurd (apart refl)
apart-differs acknowledges [] (other ∷ others) index alike heard apart = refl
apart-differs acknowledges (sent ∷ message) [] index alike heard apart = refl
apart-differs acknowledges (sent ∷ message) (other ∷ others) zero alike heard apart =
    go (eqb sent other) refl
  where
    kinds : (one two : Bool) → (kind one ≡ kind two → ⊥) → not (beq one two) ≡ true
    kinds true true h = absurd (h refl)
    kinds true false h = refl
    kinds false true h = refl
    kinds false false h = absurd (h refl)

    go : (same : Bool) → eqb sent other ≡ same
        → cond same (eqb (get_or acknowledges 0 0) 0 && ending_differs (drop 1 acknowledges) message others)
        (not (beq (restarts sent) (restarts other))) ≡ true
    go true same = absurd (apart (ap (λ (s : ℕ). kind (restarts s)) (eqb-true sent other same)))
    go false same = kinds (restarts sent) (restarts other) apart
apart-differs acknowledges (sent ∷ message) (other ∷ others) (suc index) alike heard apart =
    let first : sent ≡ other = ap (λ (l : List ℕ). get_or l 0 0) alike in
    let rest : take index message ≡ take index others = ap (drop 1) alike in
    rw (eq-eqb sent other first, eq-eqb (get_or acknowledges 0 0) 0 (heard 0 (omega arith)))
    (apart-differs (drop 1 acknowledges) message others index rest
    (λ i below. get_d-rest acknowledges i ∙ heard (suc i) (omega arith)) apart)

-- a message was cut short: the last byte carried was not acknowledged
pub record CutShort (message acknowledges : List ℕ) : Type 0 where
  pub last : ℕ
  pub count : carried_count message acknowledges ≡ suc last
  pub refused : get_or acknowledges last 0 ≡ 1

-- past the acknowledges all are acknowledged
pub none_left : (message : List ℕ) → all_acknowledged message [] ≡ true
none_left [] = refl
none_left (sent ∷ message) = none_left message

cut_short : {acknowledges : List ℕ} (message : List ℕ) → Everyone (λ acknowledge. acknowledge ≤ 1) acknowledges
    → all_acknowledged message acknowledges ≡ false → CutShort message acknowledges
cut_short [] bits refused = absurd (false≢true (sym refused))
cut_short (sent ∷ message) nobody refused = absurd (false≢true (sym refused ∙ none_left message))
cut_short (sent ∷ message) (also {a = zero} bit bits) refused =
    let later = cut_short message bits refused in
    record { last = suc later.last; count = ap suc later.count; refused = later.refused }
cut_short (sent ∷ message) (also {a = suc zero} bit bits) refused = record { last = 0; count = refl; refused = refl }
cut_short (sent ∷ message) (also {a = suc (suc acknowledge)} bit bits) refused = absurd (omega arith)

-- else it is carried whole
pub whole : (message acknowledges : List ℕ) → all_acknowledged message acknowledges ≡ true
    → take (carried_count message acknowledges) message ≡ message
whole [] acknowledges all = refl
whole (sent ∷ message) [] all = ap (λ l. sent ∷ l) (whole message [] all)
whole (sent ∷ message) (zero ∷ acknowledges) all = ap (λ l. sent ∷ l) (whole message acknowledges all)
whole (sent ∷ message) (suc acknowledge ∷ acknowledges) all =
    absurd (false≢true (rw (eqb-suc-zero acknowledge) at all))

-- a message that follows the least one, and loses nothing against it, is that message
ends_with : {acknowledges : List ℕ} (index : ℕ) (winner own : List ℕ) → all_acknowledged winner acknowledges ≡ true
    → Follows acknowledges winner own → loss_from index winner own ≡ none → own ≡ winner
ends_with index [] own all follows still = follows-end own follows
ends_with index (sent ∷ winner) [] all follows still = absurd (omega (arith, (follows-goes [] follows).some))
ends_with {acknowledges} index (sent ∷ winner) (first ∷ own) all follows still =
    go (eqb (byte_of first) (byte_of sent)) refl still
    (λ heard rest none_so. ends_with (suc index) winner own heard rest none_so)
  where
    go : (same : Bool) → eqb (byte_of first) (byte_of sent) ≡ same
        → cond same (loss_from (suc index) winner own) (some (position_in (byte_of sent) (byte_of first) index)) ≡ none
        → (all_acknowledged winner (drop 1 acknowledges) ≡ true → Follows (drop 1 acknowledges) winner own
        → loss_from (suc index) winner own ≡ none → own ≡ winner)
        → first ∷ own ≡ sent ∷ winner
    go true same none_so later =
        let heard = both (eqb (get_or acknowledges 0 0) 0) (all_acknowledged winner (drop 1 acknowledges)) all in
        let on =
        follows_on (first ∷ own) (eqb-true (get_or acknowledges 0 0) 0 heard.0) follows
        (eqb-true (byte_of first) (byte_of sent) same) in
        ap₂ ◌∷◌ on.0 (later heard.1 on.1 none_so)
    go false same lost later =
        let never : ◌≡◌ {A = ℕ} 0 1 = cc in
        absurd (omega arith)

-- so the least message was cut short, or it was sent whole and whoever is still in ends with it
pub ends-together : (messages : List (List ℕ)) (acknowledges : List ℕ) → Arbitration messages acknowledges
    → CutShort (least messages) acknowledges
    ⊎ ((all_acknowledged (least messages) acknowledges ≡ true)
    × Everyone (λ own. loss_from 0 (least messages) own ≡ none → own ≡ least messages) messages)
ends-together messages acknowledges given = go (all_acknowledged (least messages) acknowledges) refl
  where
    go : (all : Bool) → all_acknowledged (least messages) acknowledges ≡ all
        → CutShort (least messages) acknowledges
        ⊎ ((all_acknowledged (least messages) acknowledges ≡ true)
        × Everyone (λ own. loss_from 0 (least messages) own ≡ none → own ≡ least messages) messages)
    go false refused = inl (cut_short (least messages) given.bits refused)
    go true all =
        inr (
          all,
          everyone-so (λ own follows. ends_with 0 (least messages) own all (follows refl))
              (contest messages given).follows,
        )
