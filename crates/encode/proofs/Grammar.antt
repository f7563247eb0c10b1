-- The test and the grammar of a complete list agree.
use Prim.Native.Nat.{ℕ}
use mathlib.Core.Logic.{◌↔◌}
use mathlib.Core.Path.{◌≡◌, refl, sym, ◌∙◌, subst}
use mathlib.Core.Bool.{Bool, true, false, cond, false≢true}
use mathlib.Core.List.{List, [], ◌∷◌}
use lib.Dec.{eqb}
use borrow.Author.Tests.{eqb-true}
use Rattle.encode.specs.declared.Position.{Position}
use Rattle.encode.specs.declared.Position.TheVariants.{Between, Opened, Within, Broken}
use Rattle.trace.specs.Events.{is_byte, start_event, repeated_start_event, stop_event}
use Rattle.encode.specs.Complete.{advance, complete_from, complete, Completes, ended, start, first, more, again}
use Rattle.encode.specs.Complete.{stop}

broken-stays : (events : List ℕ) → complete_from Broken events ≡ false
unfolding advance
broken-stays [] = refl
broken-stays (event ∷ events) = broken-stays events

-- nothing completes a broken list
pub never : {A : Type 0} (events : List ℕ) → complete_from Broken events ≡ true → A
never events whole = absurd (false≢true (sym (broken-stays events) ∙ whole))

-- a test decides from which position the rest completes the list
by-test : {A : Type 0} (test : Bool) (one other : Position) (events : List ℕ)
    → complete_from (cond test one other) events ≡ true
    → (test ≡ true → complete_from one events ≡ true → A) → (complete_from other events ≡ true → A) → A
by-test true one other events whole yes-then no-then = yes-then refl whole
by-test false one other events whole yes-then no-then = no-then whole

-- the event is the one of that number
named : {position : Position} {events : List ℕ} (event number : ℕ) → eqb event number ≡ true
    → Completes position (number ∷ events) → Completes position (event ∷ events)
named {position} {events} event number same =
    subst (λ (n : ℕ). Completes position (n ∷ events)) (sym (eqb-true event number same))

-- what `complete_from` accepts is in the grammar
pub completes : (position : Position) (events : List ℕ) → complete_from position events ≡ true
    → Completes position events
unfolding advance
completes Between [] whole = ended
completes Opened [] whole = absurd (false≢true whole)
completes Within [] whole = absurd (false≢true whole)
completes Broken [] whole = absurd (false≢true whole)
completes Between (event ∷ events) whole =
    by-test (eqb event start_event) Opened Broken events whole
    (λ same rest. named event start_event same (start (completes Opened events rest)))
    (never events)
completes Opened (event ∷ events) whole =
    by-test (is_byte event) Within Broken events whole
    (λ byte rest. first byte (completes Within events rest))
    (never events)
completes Within (event ∷ events) whole =
    by-test (is_byte event) Within _ events whole
    (λ byte rest. more byte (completes Within events rest))
    (λ no_byte. by-test (eqb event repeated_start_event) Opened _ events no_byte
    (λ same rest. named event repeated_start_event same (again (completes Opened events rest)))
    (λ no_start. by-test (eqb event stop_event) Between Broken events no_start
    (λ same rest. named event stop_event same (stop (completes Between events rest)))
    (never events)))
completes Broken (event ∷ events) whole = never events whole

-- and what is in the grammar is accepted
pub accepts : {position : Position} {events : List ℕ} → Completes position events
    → complete_from position events ≡ true
unfolding advance
accepts ended = refl
accepts (start rest) = accepts rest
accepts (first byte rest) = rw byte (accepts rest)
accepts (more byte rest) = rw byte (accepts rest)
accepts (again rest) = accepts rest
accepts (stop rest) = accepts rest

-- so a list is complete exactly when the grammar derives it
pub complete-grammar : (events : List ℕ) → complete events ≡ true ↔ Completes Between events
complete-grammar events = (completes Between events, accepts)
