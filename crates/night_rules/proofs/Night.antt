-- The night run (02: Ask 14) of messages that none of its refusals turns down: each round carries the next larger of
-- the different messages, equal ones finish together, and none is left.
use Prim.Native.Nat.{ℕ, ◌≤◌, ◌<◌}
use native.Mathlib.Omega.{arith}
use mathlib.Core.Path.{◌≡◌, refl, ap, sym, subst, ◌∙◌}
use mathlib.Core.Bool.{Bool, cond, true, false}
use mathlib.Core.List.{List, [], ◌++◌, map}
use mathlib.Core.Option.{Option, none, some}
use lib.ListN.{length, get_or, drop, replicate, length-replicate}
use borrow.Author.Tests.{le-leb, ne_eqb}
use Rattle.usi.specs.declared.Usi.{Usi}
use Rattle.laws.specs.Buffer.{filled}
use Rattle.laws.specs.Same.{same}
use Rattle.laws.specs.Search.{any}
use Rattle.laws.proofs.Lists.{everyone, everyone-so, everyone-map, map-alike, map-map, any_none}
use Rattle.laws.proofs.Same.{same_self, same-equal}
use Rattle.arbitration_rules.specs.Masters.{Master}
use Rattle.arbitration_rules.specs.Outcome.{byte_of, least, loss_from, outcome}
use Rattle.arbitration_rules.specs.Run.{observed}
use Rattle.arbitration_rules.specs.Final.{final_as, final_master}
use Rattle.arbitration_rules.proofs.Demand.{Arbitration, run-shows-outcome}
use Rattle.night_rules.specs.Different.{different, round_of}
use Rattle.night_rules.specs.Night.{Night, waiting, needed, arbitration, entered, waits, night_after, night_of}
use Rattle.night_rules.proofs.Different.{different-length}
use Rattle.night_rules.proofs.Round.{Admitted, carried_usi, Carries, loss-itself}
use Rattle.night_rules.proofs.Waiting.{entered_all}
use Rattle.night_rules.proofs.Rounds.{reached, night_at, winner-least, contenders-arbitration}
use Rattle.night_rules.proofs.Rounds.{contenders-carry, round-within, night-at, night-over}

-- who takes part in the round to come
abbrev pub contenders_in : List (List ℕ) → Night → List (List ℕ)
contenders_in messages night = waiting night.rounds messages

-- the round to come carries this message
pub record Next (messages : List (List ℕ)) (acknowledges : List ℕ) (night : Night) (next : List ℕ) : Type 0 where
  -- it is an arbitration that no refusal turns down, 16 neither
  pub unrefused : Arbitration (contenders_in messages night) (needed (contenders_in messages night) acknowledges)
  -- so demand 3 describes it
  pub shown : observed (arbitration messages acknowledges night)
      ≡ outcome (contenders_in messages night) (needed (contenders_in messages night) acknowledges)
  -- the message is the least of those that wait
  pub smallest : least (contenders_in messages night) ≡ next
  -- it is carried whole
  pub whole : (arbitration messages acknowledges night).carried ≡ map byte_of next
  -- and those who have it, and no others, are still in at the end
  pub together : map (λ (master : Master). master.contending) (arbitration messages acknowledges night).masters
      ≡ map (same next) (contenders_in messages night)

module _ (messages : List (List ℕ)) (acknowledges : List ℕ) (given : Admitted messages acknowledges) where
  -- who is still in at the end of a round is told by its message
  finishes : (next message : List ℕ) → (loss_from 0 next message ≡ none → message ≡ next)
      → (final_master next message).contending ≡ same next message
  finishes next message still = go (loss_from 0 next message) refl
    where
      go : (loss : Option ℕ) → loss_from 0 next message ≡ loss
          → (final_as next message loss).contending ≡ same next message
      go none is = sym (ap (same next) (still is) ∙ same_self next)
      go (some position) is = differs (same next message) refl
        where
          differs : (equal : Bool) → same next message ≡ equal → false ≡ same next message
          differs true equal =
              let lost : none ≡ some position =
              sym (loss-itself 0 next) ∙ ap (loss_from 0 next) (same-equal next message equal) ∙ is in
              let never : ◌≡◌ {A = ℕ} 0 1 = cc in
              absurd (omega arith)
          differs false equal = sym equal

  -- each round carries the next larger of the different messages, from the least to the largest
  pub each-round : (table : List Usi) (k : ℕ) → k < length (different messages)
      → Next messages acknowledges (night_after k messages acknowledges table) (get_or (different messages) k [])
  unfolding arbitration
  each-round table k inside =
      subst (λ (night : Night). Next messages acknowledges night next)
      (sym (night-at messages acknowledges given table k (omega arith)))
      (record {
        unrefused = arbitrates;
        shown = run-shows-outcome contenders heard arbitrates;
        smallest = winner-least messages acknowledges given k inside;
        whole = carries.carried;
        together =
            ap (map (λ (master : Master). master.contending)) carries.masters
            ∙ map-map (λ (master : Master). master.contending) (final_master next) contenders
            ∙ map-alike (everyone-so (finishes next) carries.together);
      })
    where
      next : List ℕ
      next = get_or (different messages) k []

      contenders : List (List ℕ)
      contenders = waiting (map (reached messages k) messages) messages

      heard : List ℕ
      heard = needed contenders acknowledges

      arbitrates : Arbitration contenders heard
      arbitrates = contenders-arbitration messages acknowledges given k inside

      carries : Carries contenders heard next
      carries = contenders-carry messages acknowledges given k inside

  -- the whole night
  night-is : (table : List Usi)
      → night_of messages acknowledges table ≡ night_at messages table (length (different messages))
  unfolding night_of
  night-is table = night-over messages acknowledges given table (length messages) (different-length messages)

  -- each message's round: one more than the different messages that are smaller
  pub night-rounds : (table : List Usi) → (night_of messages acknowledges table).rounds ≡ map (round_of messages) messages
  night-rounds table =
      ap (λ (night : Night). night.rounds) (night-is table)
      ∙ map-alike
      (everyone-so
      (λ message within. ap (λ past. cond past (round_of messages message) 0)
      (le-leb (round_of messages message) (length (different messages)) within))
      (round-within messages acknowledges given))

  -- there are as many rounds as different messages
  pub night-count : (table : List Usi) → (night_of messages acknowledges table).count ≡ length (different messages)
  night-count table = ap (λ (night : Night). night.count) (night-is table)

  -- none is left
  pub night-none-left : (table : List Usi) → any waits (night_of messages acknowledges table).rounds ≡ false
  night-none-left table =
      ap (any waits) (night-rounds table)
      ∙ any_none {f = waits}
      (everyone-map (round_of messages)
      (everyone (λ message. ne_eqb (round_of messages message) 0 (λ e. omega arith)) messages))

  -- every message's module reads C8 45 22 00 FF 00 after the STOP, the entries past the messages are as they were
  pub night-table : (table : List Usi) → length messages ≤ length table
      → (night_of messages acknowledges table).table ≡ filled (replicate (length messages) carried_usi) table
  night-table table enough =
      ap (λ (night : Night). night.table) (night-is table)
      ∙ ap (λ l. entered l table)
      (map-alike
      (everyone-so
      (λ message within. ap (λ past. cond past (some carried_usi) none)
      (le-leb (round_of messages message) (length (different messages)) within))
      (round-within messages acknowledges given)))
      ∙ entered_all carried_usi messages table enough
      ∙ ap (λ (n : ℕ). replicate (length messages) carried_usi ++ drop n table)
      (sym (length-replicate (length messages) carried_usi))
