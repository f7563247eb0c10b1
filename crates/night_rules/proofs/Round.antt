-- One round of messages that no refusal of a night turns down: it is an arbitration that 16 does not turn down either,
-- the least message is carried whole, and who is still in has that message.
use Prim.Native.Nat.{ℕ, zero, suc, ◌≤◌, ◌<◌}
use native.Mathlib.Omega.{arith}
use mathlib.Core.Path.{◌≡◌, refl, ap, ◌∙◌}
use mathlib.Core.Bool.{Bool, cond, true, false, not, ◌&&◌, beq}
use mathlib.Core.List.{List, [], ◌∷◌, map}
use mathlib.Core.Logic.{◌⊎◌, inl, inr}
use mathlib.Core.Option.{Option, none, some}
use lib.Dec.{eqb}
use lib.ListN.{length, get_or, take, drop, length-take}
use borrow.Author.Tests.{eq-eqb}
use Rattle.usi.specs.declared.Usi.{Usi}
use Rattle.laws.specs.Everyone.{Everyone, nobody, also}
use Rattle.laws.proofs.Lists.{everyone-so, everyone-both, any_none}
use Rattle.arbitration_rules.specs.Outcome.{byte_of, restarts, least, carried_of, loss_from, ending_differs}
use Rattle.arbitration_rules.specs.Outcome.{all_acknowledged, undecided}
use Rattle.arbitration_rules.specs.Run.{run}
use Rattle.arbitration_rules.specs.Reply.{longest}
use Rattle.arbitration_rules.specs.Final.{after_stop, final_as, final_master}
use Rattle.arbitration_rules.proofs.LeastMessage.{least-too}
use Rattle.arbitration_rules.proofs.Pieces.{taken}
use Rattle.arbitration_rules.proofs.Demand.{Sendable, Arbitration, ended}
use Rattle.arbitration_rules.proofs.FinalMasters.{final-masters}
use Rattle.arbitration_rules.proofs.Undecided.{CutShort, whole, ends-together}
use Rattle.night_rules.specs.Night.{waiting, needed, left_by}

-- messages that can be sent, every acknowledge 0, and no two of them apart at an ending
pub record Admitted (messages : List (List ℕ)) (acknowledges : List ℕ) : Type 0 where
  pub sendable : Everyone (Sendable acknowledges) messages
  pub acknowledged : Everyone (λ acknowledge. acknowledge ≡ 0) acknowledges
  pub decided : Everyone (λ message. Everyone (λ other. ending_differs [] message other ≡ false) messages) messages

-- what holds of all messages holds of those that wait
pub waiting-so : {P : List ℕ → Type 0} {messages : List (List ℕ)} (rounds : List ℕ) → Everyone P messages
    → Everyone P (waiting rounds messages)
waiting-so [] all = nobody
waiting-so (round ∷ rounds) nobody = nobody
waiting-so (zero ∷ rounds) (also p more) = also p (waiting-so rounds more)
waiting-so (suc round ∷ rounds) (also p more) = waiting-so rounds more

pub waiting-admitted : {messages : List (List ℕ)} {acknowledges : List ℕ} (rounds : List ℕ)
    → Admitted messages acknowledges → Admitted (waiting rounds messages) acknowledges
waiting-admitted rounds given =
    record {
      sendable = waiting-so rounds given.sendable;
      acknowledged = given.acknowledged;
      decided = everyone-so (λ message. waiting-so rounds) (waiting-so rounds given.decided);
    }

-- each is within the longest
longest-all : (messages : List (List ℕ))
    → Everyone (λ message. length message ≤ longest (map length messages)) messages
longest-all [] = nobody
longest-all (message ∷ messages) =
    also {a = message} (omega arith) (everyone-so (λ own within. omega arith) (longest-all messages))

-- two messages that never differ at an ending do not where some byte is not acknowledged
ending-heard : (acknowledges message other : List ℕ) → ending_differs [] message other ≡ false
    → ending_differs acknowledges message other ≡ false
ending-heard acknowledges [] [] apart = refl
ending-heard acknowledges [] (other ∷ others) apart = apart
ending-heard acknowledges (sent ∷ message) [] apart = apart
ending-heard acknowledges (sent ∷ message) (other ∷ others) apart =
    go (eqb sent other) apart (ending-heard (drop 1 acknowledges) message others)
  where
    heard : (acknowledged rest : Bool) → rest ≡ false → acknowledged && rest ≡ false
    heard true rest ends = ends
    heard false rest ends = refl

    go : (same : Bool)
        → cond same (ending_differs [] message others) (not (beq (restarts sent) (restarts other))) ≡ false
        → (ending_differs [] message others ≡ false → ending_differs (drop 1 acknowledges) message others ≡ false)
        → cond same (eqb (get_or acknowledges 0 0) 0 && ending_differs (drop 1 acknowledges) message others)
        (not (beq (restarts sent) (restarts other))) ≡ false
    go true ends rest =
        heard (eqb (get_or acknowledges 0 0) 0) (ending_differs (drop 1 acknowledges) message others) (rest ends)
    go false ends rest = ends

-- so 16 applies to no arbitration of them
pub none_apart : (messages : List (List ℕ)) (acknowledges : List ℕ)
    → Everyone (λ message. Everyone (λ other. ending_differs [] message other ≡ false) messages) messages
    → undecided messages acknowledges ≡ false
unfolding undecided
none_apart [] acknowledges decided = refl
none_apart (message ∷ messages) acknowledges decided =
    any_none
    (everyone-so (λ own. ending-heard acknowledges (least (message ∷ messages)) own)
    (least-too message messages decided))

-- no round is refused
pub round-arbitration : (messages : List (List ℕ)) (acknowledges : List ℕ) → Admitted messages acknowledges
    → 0 < length messages → Arbitration messages (needed messages acknowledges)
round-arbitration messages acknowledges given someone =
    let most : ℕ = longest (map length messages) in
    record {
      someone = someone;
      sendable =
          everyone-so
          (λ own both. record {
            bytes = both.0.bytes;
            some = both.0.some;
            first = both.0.first;
            answered = omega (arith, both.0.answered, both.1, length-take most acknowledges);
          })
          (everyone-both given.sendable (longest-all messages));
      bits = everyone-so (λ acknowledge is. omega arith) (taken given.acknowledged most);
      decided = none_apart messages (take most acknowledges) given.decided;
    }

heard-at : {acknowledges : List ℕ} → Everyone (λ acknowledge. acknowledge ≡ 0) acknowledges → (i : ℕ)
    → get_or acknowledges i 0 ≡ 0
heard-at nobody i = refl
heard-at (also is more) zero = is
heard-at (also is more) (suc i) = heard-at more i

-- the module of a message as its round leaves it: C8 45 22 00 FF 00 after the STOP
abbrev pub carried_usi : Usi
carried_usi = after_stop 0xc8 0x45 0x00 0xff true true

-- what a round leaves of a message: nothing, unless it is the one carried
pub loss-itself : (index : ℕ) (message : List ℕ) → loss_from index message message ≡ none
loss-itself index [] = refl
loss-itself index (sent ∷ message) = rw (eq-eqb (byte_of sent) (byte_of sent) refl) (loss-itself (suc index) message)

pub left-itself : (message : List ℕ) → left_by (final_master message message) ≡ some carried_usi
left-itself message = ap (λ loss. left_by (final_as message message loss)) (loss-itself 0 message)

pub left_other : (winner message : List ℕ) → (loss_from 0 winner message ≡ none → ⊥)
    → left_by (final_master winner message) ≡ none
left_other winner message out = go (loss_from 0 winner message) refl
  where
    go : (loss : Option ℕ) → loss_from 0 winner message ≡ loss → left_by (final_as winner message loss) ≡ none
    go none is = absurd (out is)
    go (some position) is = refl

-- what a round shows
pub record Carries (messages : List (List ℕ)) (acknowledges winner : List ℕ) : Type 0 where
  pub masters : (run messages acknowledges).masters ≡ map (final_master winner) messages
  pub carried : (run messages acknowledges).carried ≡ map byte_of winner
  pub together : Everyone (λ message. loss_from 0 winner message ≡ none → message ≡ winner) messages

-- the least message is carried, whole, and who is still in has it
pub round-carries : (messages : List (List ℕ)) (acknowledges : List ℕ) → Arbitration messages acknowledges
    → Everyone (λ acknowledge. acknowledge ≡ 0) acknowledges → Carries messages acknowledges (least messages)
unfolding carried_of
round-carries messages acknowledges given heard = go (ends-together messages acknowledges given)
  where
    go : CutShort (least messages) acknowledges
        ⊎ ((all_acknowledged (least messages) acknowledges ≡ true)
        × Everyone (λ own. loss_from 0 (least messages) own ≡ none → own ≡ least messages) messages)
        → Carries messages acknowledges (least messages)
    go (inl cut) = absurd (omega (arith, cut.refused, heard-at heard cut.last))
    go (inr both) =
        let sent : carried_of messages acknowledges ≡ least messages = whole (least messages) acknowledges both.0 in
        record {
          masters =
              final-masters messages acknowledges given ∙ ap (λ carried. map (final_master carried) messages) sent;
          carried = (ended messages acknowledges given).bytes ∙ ap (map byte_of) sent;
          together = both.1;
        }
