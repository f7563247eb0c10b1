-- The boards that are still in: whether all have one message, and the first of them.
use Prim.Native.Nat.{ℕ, suc, ◌+◌, ◌-◌, ◌<◌, ◌≤◌, min}
use mathlib.Core.Path.{◌≡◌, refl, ap, ◌∙◌}
use mathlib.Core.Bool.{Bool, cond, true, false, not, ◌&&◌}
use mathlib.Core.List.{List, [], ◌∷◌}
use native.Mathlib.Nat.{not-suc-le-zero, le_of_suc-le-suc}
use native.Mathlib.Omega.{arith}
use lib.ListN.{length, get_or, take, drop}
use Rattle.laws.specs.Search.{first, all}
use Rattle.arbitration_rules.specs.declared.Seat.{Seat}
use Rattle.arbitration_rules.specs.Limits.{max_masters}
use Rattle.arbitration_rules.specs.Reply.{cut}
use Rattle.arbitration_rules.proofs.Cut.{cut-count}
use Rattle.arbitration_messages.proofs.Walk.{At, at-start, at_more, message-is}
use Rattle.verdict.specs.declared.Verdict.TheVariants.{Undecided}
use Rattle.laws.specs.Same.{same}
use Rattle.verdict.specs.Verdict.{still_in, contenders, ended, decided}
use Rattle.verdict.proofs.Pairs.{Through, through-start, through-more, through-fails, through-one}
use Rattle.laws.proofs.Same.{same_self}

-- everyone still in has a message
abbrev pub agreed : List ℕ → List Seat → List (List ℕ) → Bool
agreed message seats messages = all (same message) (contenders seats messages)

-- a board is not in, or has it
abbrev pub agrees : List ℕ → Seat → List ℕ → Bool
agrees message seat own = not (still_in seat && not (same message own))

pub agreed-step : (message : List ℕ) (seat : Seat) (own : List ℕ) (seats : List Seat) (messages : List (List ℕ))
    → agreed message (seat ∷ seats) (own ∷ messages) ≡ agrees message seat own && agreed message seats messages
agreed-step message seat own seats messages = go (still_in seat) (same message own) refl
  where
    go : (contending alike : Bool) → same message own ≡ alike
        → all (same message) (cond contending (own ∷ contenders seats messages) (contenders seats messages))
        ≡ not (contending && not alike) && agreed message seats messages
    go true true is = rw is
    go true false is = rw is
    go false alike is = refl

none-seated : (message : List ℕ) (seats : List Seat) → agreed message seats [] ≡ true
none-seated message [] = refl
none-seated message (seat ∷ seats) = refl

module _ (message : List ℕ) (seats : List Seat) (lengths sent : List ℕ) where
  abbrev messages : List (List ℕ)
  messages = cut lengths sent

  -- the first i boards agree, and their messages end at an index of what is sent
  pub record Agreeing (i from : ℕ) : Type 0 where
    pub at : At lengths sent i from
    pub through : Through (agreed message) (agrees message) (agreed-step message) seats messages i

  pub agreeing-start : Agreeing 0 0
  agreeing-start =
      record {
        at = at-start lengths sent;
        through = through-start (agreed message) (agrees message) (agreed-step message) seats messages;
      }

  module _ (i from to : ℕ) (empty : Seat) (result : Bool) (agreeing : Agreeing i from)
      (end : to ≡ min (from + get_or lengths i 0) (length sent))
      (is : result ≡ same message (take (to - from) (drop from sent)))
      (seated : length seats ≡ max_masters) (less : i < min (length lengths) max_masters) where
    less-length : i < length lengths
    less-length = omega (arith, less)

    here : result ≡ same message (get_or messages i [])
    here = is ∙ ap (same message) (message-is lengths sent i from to agreeing.at less-length end)

    in-seats : i < length seats
    in-seats = omega (arith, less, seated)

    inside : i < length messages
    inside = omega (arith, less, cut-count lengths sent)

    pub agreeing-more : still_in (get_or seats i empty) && not result ≡ false → Agreeing (i + 1) to
    agreeing-more goes-on =
        record {
          at = at_more lengths sent i from to agreeing.at less-length end;
          through =
              through-more (agreed message) (agrees message) (agreed-step message) seats messages i empty []
              agreeing.through in-seats inside (ap not (rw here at goes-on));
        }

    pub agreeing-fails : still_in (get_or seats i empty) && not result ≡ true → false ≡ agreed message seats messages
    agreeing-fails stops =
        through-fails (agreed message) (agrees message) (agreed-step message) seats messages i empty []
        agreeing.through in-seats inside (ap not (rw here at stops))

  pub agreeing-done : (i from : ℕ) → Agreeing i from → length seats ≡ max_masters
      → min (length lengths) max_masters ≤ i → true ≡ agreed message seats messages
  agreeing-done i from agreeing seated past =
      through-one (agreed message) (agrees message) (agreed-step message) seats messages i agreeing.through
      (λ rest. refl) (none-seated message) (omega (arith, past, seated, cut-count lengths sent))

-- nobody is in where the first still in has no seat or no message
pub nobody-in : (seats : List Seat) (messages : List (List ℕ))
    → min (length seats) (length messages) ≤ first still_in seats → contenders seats messages ≡ []
nobody-in [] messages past = refl
nobody-in (seat ∷ seats) [] past = refl
nobody-in (seat ∷ seats) (message ∷ messages) past = go (still_in seat) refl (nobody-in seats messages)
  where
    go : (contending : Bool) → still_in seat ≡ contending
        → (min (length seats) (length messages) ≤ first still_in seats → contenders seats messages ≡ [])
        → cond contending (message ∷ contenders seats messages) (contenders seats messages) ≡ []
    go true is rest = absurd (omega (arith, rw is at past))
    go false is rest = rest (omega (arith, rw is at past))

-- else it leads them
pub record Led (winner : List ℕ) (messages : List (List ℕ)) : Type 0 where
  pub others : List (List ℕ)
  pub is : messages ≡ winner ∷ others

pub first-in : (seats : List Seat) (messages : List (List ℕ)) → first still_in seats < length seats
    → first still_in seats < length messages
    → Led (get_or messages (first still_in seats) []) (contenders seats messages)
first-in [] messages less less_other = absurd (not-suc-le-zero less)
first-in (seat ∷ seats) [] less less_other = absurd (not-suc-le-zero less_other)
first-in (seat ∷ seats) (message ∷ messages) less less_other =
    go (still_in seat) less less_other (first-in seats messages)
  where
    go : (contending : Bool) → cond contending 0 (suc (first still_in seats)) < suc (length seats)
        → cond contending 0 (suc (first still_in seats)) < suc (length messages)
        → (first still_in seats < length seats → first still_in seats < length messages
        → Led (get_or messages (first still_in seats) []) (contenders seats messages))
        → Led (get_or (message ∷ messages) (cond contending 0 (suc (first still_in seats))) [])
        (cond contending (message ∷ contenders seats messages) (contenders seats messages))
    go true less less_other rest = record { others = contenders seats messages; is = refl }
    go false less less_other rest = rest (le_of_suc-le-suc less) (le_of_suc-le-suc less_other)

-- so its message decides, where everyone still in has it
pub decided-by : (seats : List Seat) (messages : List (List ℕ)) (winner : List ℕ) (count : ℕ) (acknowledges : List ℕ)
    → winner ≡ get_or messages (first still_in seats) [] → first still_in seats < length seats
    → first still_in seats < length messages
    → decided (contenders seats messages) count acknowledges
    ≡ cond (agreed winner seats messages) (ended winner count acknowledges) Undecided
decided-by seats messages winner count acknowledges is less less_other =
    let led = first-in seats messages less less_other in
    rw (led.is, ← is, same_self winner)
