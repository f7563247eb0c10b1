-- The order of messages, and its least: it is at most each of them, and one of them.
use Prim.Native.Nat.{ℕ, ◌≤◌, ◌<◌}
use native.Mathlib.Omega.{arith}
use mathlib.Core.Path.{◌≡◌, refl, sym, ◌∙◌}
use mathlib.Core.Bool.{Bool, cond, true, false, false≢true}
use mathlib.Core.List.{List, [], ◌∷◌}
use lib.Dec.{eqb, ltb}
use borrow.Author.Tests.{eq-eqb, eqb-true, eqb-false, ltb-true, ltb-false, lt-ltb, le-ltb, not-true, not-false}
use Rattle.arbitration_rules.specs.Outcome.{restarts, at_most, lesser, least_from, least}
use Rattle.laws.specs.Everyone.{Everyone, nobody, also, Someone, this, another}
use Rattle.laws.proofs.Lists.{everyone-so, someone-both}

-- a message is at most another: both end; it ends where the other sends a byte; it restarts where the other ends; what
-- they send first decides, or is equal and leaves it to the rest
pub data AtMost : List ℕ → List ℕ → Type 0 where
  both_end : AtMost [] []
  ends : {other : ℕ} {others : List ℕ} → restarts other ≡ false → AtMost [] (other ∷ others)
  restarts-first : {sent : ℕ} {message : List ℕ} → restarts sent ≡ true → AtMost (sent ∷ message) []
  by_first : {sent other : ℕ} {message others : List ℕ} → sent < other → AtMost (sent ∷ message) (other ∷ others)
  by-rest : {sent other : ℕ} {message others : List ℕ} → sent ≡ other → AtMost message others
      → AtMost (sent ∷ message) (other ∷ others)

-- what the test says
pub at-most : (message other : List ℕ) → at_most message other ≡ true → AtMost message other
at-most [] [] holds = both_end
at-most [] (other ∷ others) holds = ends (not-true (restarts other) holds)
at-most (sent ∷ message) [] holds = restarts-first holds
at-most (sent ∷ message) (other ∷ others) holds =
    go (at-most message others) (ltb sent other) (eqb sent other) refl refl
  where
    go : (at_most message others ≡ true → AtMost message others) → (less same : Bool) → ltb sent other ≡ less
        → eqb sent other ≡ same → AtMost (sent ∷ message) (other ∷ others)
    go rest true same less? same? = by_first (ltb-true sent other less?)
    go rest false true less? same? = by-rest (eqb-true sent other same?) (rest (rw (less?, same?) at holds))
    go rest false false less? same? = absurd (false≢true (rw (less?, same?) at holds))

pub not-at-most : (message other : List ℕ) → at_most message other ≡ false → AtMost other message
not-at-most [] [] fails = absurd (false≢true (sym fails))
not-at-most [] (other ∷ others) fails = restarts-first (not-false (restarts other) fails)
not-at-most (sent ∷ message) [] fails = ends fails
not-at-most (sent ∷ message) (other ∷ others) fails =
    go (not-at-most message others) (ltb sent other) (eqb sent other) refl refl
  where
    go : (at_most message others ≡ false → AtMost others message) → (less same : Bool) → ltb sent other ≡ less
        → eqb sent other ≡ same → AtMost (other ∷ others) (sent ∷ message)
    go rest true same less? same? = absurd (false≢true (rw less? at (sym fails)))
    go rest false true less? same? = by-rest (sym (eqb-true sent other same?)) (rest (rw (less?, same?) at fails))
    go rest false false less? same? =
        let unequal : sent ≡ other → ⊥ = eqb-false sent other same? in
        let below : other < sent = omega (arith, ltb-false sent other less?) in
        by_first below

pub at-most-holds : {message other : List ℕ} → AtMost message other → at_most message other ≡ true
at-most-holds both_end = refl
at-most-holds (ends byte) = rw byte
at-most-holds (restarts-first again) = again
at-most-holds (by_first {sent} {other} less) = rw (lt-ltb sent other less)
at-most-holds (by-rest {sent} {other} same rest) =
    rw (le-ltb sent other (omega arith), eq-eqb sent other same) (at-most-holds rest)

pub at-most-refl : (message : List ℕ) → AtMost message message
at-most-refl [] = both_end
at-most-refl (sent ∷ message) = by-rest refl (at-most-refl message)

-- a restart is a number below 256, a byte one from 256 on
restart-below : (sent : ℕ) → restarts sent ≡ true → sent < 256
restart-below sent again = ltb-true sent 256 again

byte_above : (sent : ℕ) → restarts sent ≡ false → 256 ≤ sent
byte_above sent byte = ltb-false sent 256 byte

pub at-most-trans : {message other third : List ℕ} → AtMost message other → AtMost other third → AtMost message third
at-most-trans both_end second = second
at-most-trans (ends {other} byte) (restarts-first again) =
    absurd (omega (arith, byte_above other byte, restart-below other again))
at-most-trans (ends {other} byte) (by_first {other = third} less) =
    ends (le-ltb third 256 (omega (arith, byte_above other byte)))
at-most-trans (ends {other} byte) (by-rest {other = third} same rest) =
    ends (le-ltb third 256 (omega (arith, byte_above other byte)))
at-most-trans (restarts-first again) both_end = restarts-first again
at-most-trans (restarts-first {sent} again) (ends {other = third} byte) =
    let below : sent < third = omega (arith, restart-below sent again, byte_above third byte) in by_first below
at-most-trans (by_first {sent} {other} less) (restarts-first again) =
    restarts-first (lt-ltb sent 256 (omega (arith, restart-below other again)))
at-most-trans (by_first {sent} less) (by_first {other = third} more) =
    let below : sent < third = omega arith in by_first below
at-most-trans (by_first {sent} less) (by-rest {other = third} same rest) =
    let below : sent < third = omega arith in by_first below
at-most-trans (by-rest {sent} {other} same rest) (restarts-first again) =
    restarts-first (lt-ltb sent 256 (omega (arith, restart-below other again)))
at-most-trans (by-rest {sent} same rest) (by_first {other = third} less) =
    let below : sent < third = omega arith in by_first below
at-most-trans (by-rest same rest) (by-rest alike others) = by-rest (same ∙ alike) (at-most-trans rest others)

-- what two messages send first, of which one is at most the other, and the rest where that is equal
pub first-at-most : {sent other : ℕ} {message others : List ℕ} → AtMost (sent ∷ message) (other ∷ others)
    → sent ≤ other
first-at-most (by_first less) = omega arith
first-at-most (by-rest same rest) = omega arith

pub rest-at-most : {sent other : ℕ} {message others : List ℕ} → AtMost (sent ∷ message) (other ∷ others)
    → sent ≡ other → AtMost message others
rest-at-most (by_first less) same = absurd (omega arith)
rest-at-most (by-rest same rest) alike = rest

-- the lesser of two is at most both, and one of them
lesser-first : (message other : List ℕ) → AtMost (lesser message other) message
lesser-first message other = go (at_most message other) refl
  where
    go : (test : Bool) → at_most message other ≡ test → AtMost (cond test message other) message
    go true holds = at-most-refl message
    go false fails = not-at-most message other fails

lesser-second : (message other : List ℕ) → AtMost (lesser message other) other
lesser-second message other = go (at_most message other) refl
  where
    go : (test : Bool) → at_most message other ≡ test → AtMost (cond test message other) other
    go true holds = at-most message other holds
    go false fails = at-most-refl other

from_first : (message : List ℕ) (messages : List (List ℕ)) → AtMost (least_from message messages) message
from_first message [] = at-most-refl message
from_first message (other ∷ others) =
    at-most-trans (from_first (lesser message other) others) (lesser-first message other)

from-others : (message : List ℕ) (messages : List (List ℕ)) → Everyone (AtMost (least_from message messages)) messages
from-others message [] = nobody
from-others message (other ∷ others) =
    also (at-most-trans (from_first (lesser message other) others) (lesser-second message other))
    (from-others (lesser message other) others)

from_one : (message : List ℕ) (messages : List (List ℕ))
    → Someone (λ own. own ≡ least_from message messages) (message ∷ messages)
from_one message [] = this refl
from_one message (other ∷ others) = go (at_most message other) (from_one (lesser message other) others)
  where
    go : (test : Bool)
        → Someone (λ own. own ≡ least_from (cond test message other) others) (cond test message other ∷ others)
        → Someone (λ own. own ≡ least_from (cond test message other) others) (message ∷ other ∷ others)
    go true (this same) = this same
    go true (another some) = another (another some)
    go false some = another some

pub least-at-most : (messages : List (List ℕ)) → Everyone (λ message. at_most (least messages) message ≡ true) messages
least-at-most [] = nobody
least-at-most (message ∷ messages) =
    everyone-so (λ own. at-most-holds) (also (from_first message messages) (from-others message messages))

pub least-among : (message : List ℕ) (messages : List (List ℕ))
    → Someone (λ own. own ≡ least (message ∷ messages)) (message ∷ messages)
least-among message messages = from_one message messages

-- so what holds of every message holds of the least
pub least-too : {P : List ℕ → Type 0} (message : List ℕ) (messages : List (List ℕ)) → Everyone P (message ∷ messages)
    → P (least (message ∷ messages))
least-too {P} message messages all = go (someone-both all (least-among message messages))
  where
    go : {l : List (List ℕ)} → Someone (λ own. P own × (own ≡ least (message ∷ messages))) l
        → P (least (message ∷ messages))
    go (this both) = rw (← both.1) both.0
    go (another some) = go some
