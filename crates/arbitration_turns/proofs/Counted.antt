-- Who is through with its message, or restarts: by what the masters know, and by the messages.
use Prim.Native.Nat.{ℕ, zero, suc, ◌≤◌}
use mathlib.Core.Path.{◌≡◌, refl, ap}
use mathlib.Core.Bool.{Bool, true, false, not, ◌&&◌, ◌||◌, false≢true}
use mathlib.Core.List.{List, [], ◌∷◌, ◌++◌, map, zip_with}
use native.Mathlib.Nat.{not-suc-le-zero, le_of_suc-le-suc}
use native.Mathlib.Omega.{arith}
use lib.ListN.{length, drop, replicate}
use Rattle.laws.specs.Search.{any}
use Rattle.usi.specs.declared.Usi.{Usi}
use Rattle.arbitration_rules.specs.Masters.{Master}
use Rattle.arbitration_pass.specs.declared.instants.Effect.{Effect}
use Rattle.arbitration_pass.specs.declared.instants.Effect.TheVariants.{Nothing, Begin, Release, Acknowledge, Record}
use Rattle.arbitration_pass.specs.declared.instants.Effect.TheVariants.{Bit, Settle}
use Rattle.arbitration_members.specs.declared.members.Members.{Members}
use Rattle.arbitration_members.specs.Members as members
use Rattle.arbitration_turns.proofs.View.{masters_from}

-- nobody past a count contends
abbrev pub Quiet : ℕ → List Bool → Type 0
Quiet count contending = any (λ (still : Bool). still) (drop count contending) ≡ false

pub quiet-start : (some count : ℕ) → Quiet some (replicate some true ++ replicate count false)
quiet-start zero zero = refl
quiet-start zero (suc count) = quiet-start zero count
quiet-start (suc some) count = quiet-start some count

quiet-judged : (count : ℕ) (contending al : List Bool) → Quiet count contending
    → Quiet count (zip_with (λ still set. still && not set) contending al)
unfolding zip_with
quiet-judged zero [] al quiet = refl
quiet-judged zero (still ∷ contending) [] quiet = refl
quiet-judged zero (true ∷ contending) (set ∷ al) quiet = absurd (false≢true (rw (quiet) refl))
quiet-judged zero (false ∷ contending) (set ∷ al) quiet = quiet-judged zero contending al quiet
quiet-judged (suc count) [] al quiet = refl
quiet-judged (suc count) (still ∷ contending) [] quiet = refl
quiet-judged (suc count) (still ∷ contending) (set ∷ al) quiet = quiet-judged count contending al quiet

-- what each has to send stays, and nobody past the messages contends
pub record Counted (count : ℕ) (sizes₀ : List ℕ) (stood : Members) : Type 0 where
  pub sizes : stood.sizes ≡ sizes₀
  pub quiet : Quiet count stood.contending

pub counted-after : (count : ℕ) (sizes : List ℕ) (effect : Effect) (al : List Bool) (index : ℕ) (stood : Members)
    → Counted count sizes stood → Counted count sizes (members.affected effect al index stood)
unfolding members.judged members.settled
counted-after count sizes Nothing al index stood counted = counted
counted-after count sizes Begin al index stood counted = counted
counted-after count sizes Release al index stood counted = counted
counted-after count sizes Acknowledge al index stood counted = counted
counted-after count sizes Record al index stood counted = counted
counted-after count sizes (Bit bit) al index stood counted =
    record { sizes = counted.sizes; quiet = quiet-judged count stood.contending al counted.quiet }
counted-after count sizes Settle al index stood counted = record { sizes = counted.sizes; quiet = counted.quiet }

-- who doesn't contend is not asked
module _ (test : ℕ → Bool) where
  nobody : (contending : List Bool) (values : List ℕ) → Quiet 0 contending
      → members.someone test contending values ≡ false
  unfolding zip_with
  nobody [] values quiet = refl
  nobody (still ∷ contending) [] quiet = refl
  nobody (true ∷ contending) (value ∷ values) quiet = absurd (false≢true (rw (quiet) refl))
  nobody (false ∷ contending) (value ∷ values) quiet = nobody contending values quiet

  -- someone still in passes a test of something of its message
  abbrev pub someone_of : (List ℕ → ℕ) → List (List ℕ) → List Master → Bool
  someone_of of messages masters =
      any (λ (passes : Bool). passes)
      (zip_with (λ (master : Master) message. master.contending && test (of message)) masters messages)

  pub someone-view : (of : List ℕ → ℕ) (table : List Usi) (contending lost : List Bool) (positions more : List ℕ)
      (messages : List (List ℕ)) → length table ≡ length messages → length messages ≤ length contending
      → length messages ≤ length lost → length messages ≤ length positions → Quiet (length messages) contending
      → members.someone test contending (map of messages ++ more)
      ≡ someone_of of messages (masters_from table contending lost positions)
  unfolding zip_with
  someone-view of [] contending lost positions more [] many c l p quiet = nobody contending more quiet
  someone-view of [] contending lost positions more (message ∷ messages) many c l p quiet = absurd (omega arith)
  someone-view of (usi ∷ table) contending lost positions more [] many c l p quiet = absurd (omega arith)
  someone-view of (usi ∷ table) [] lost positions more (message ∷ messages) many c l p quiet =
      absurd (not-suc-le-zero c)
  someone-view of (usi ∷ table) (still ∷ contending) [] positions more (message ∷ messages) many c l p quiet =
      absurd (not-suc-le-zero l)
  someone-view of (usi ∷ table) (still ∷ contending) (out ∷ lost) [] more (message ∷ messages) many c l p quiet =
      absurd (not-suc-le-zero p)
  someone-view of (usi ∷ table) (still ∷ contending) (out ∷ lost) (position ∷ positions) more (message ∷ messages)
      many c l p quiet =
      ap (λ (rest : Bool). still && test (of message) || rest)
      (someone-view of table contending lost positions more messages (omega arith) (le_of_suc-le-suc c)
      (le_of_suc-le-suc l) (le_of_suc-le-suc p) quiet)
