-- What each verdict says, exactly, of every reply of arbitrate: refused-exactly, sent-exactly, cut-exactly and
-- undecided-exactly. Those still in are the messages that lose nothing against the carried bytes (those-in of
-- Answered.antt), and the winner's message is the least: someone still in always has it (winner-in there).
use Prim.Native.Nat.{ℕ}
use mathlib.Core.Path.{◌≡◌, refl, sym, ap, ◌∙◌}
use mathlib.Core.Bool.{Bool, cond, true, false, ◌&&◌, and-false, false≢true}
use mathlib.Core.List.{List, [], ◌∷◌}
use mathlib.Core.Logic.{◌⊎◌, inl, inr}
use mathlib.Core.Option.{none}
use native.Mathlib.Omega.{arith}
use borrow.Author.Tests.{eq-eqb, ne_eqb, eqb-false}
use lib.Dec.{eqb}
use lib.ListN.{length}
use Rattle.laws.specs.Everyone.{Everyone}
use Rattle.laws.specs.Search.{all}
use Rattle.arbitration_rules.specs.declared.Arbitrated.{Arbitrated}
use Rattle.arbitration_rules.specs.Outcome.{least, carried_count, carried_of, loss_from, all_acknowledged}
use Rattle.arbitration_rules.specs.Reply.{Request, messages_of, arbitrated}
use Rattle.arbitration_rules.proofs.Carried.{carried-count}
use Rattle.arbitration_rules.proofs.Demand.{least-sendable}
use Rattle.arbitration_rules.proofs.Pieces.{Bytes}
use Rattle.arbitration_rules.proofs.Undecided.{CutShort, whole, ends-together}
use Rattle.verdict.specs.declared.Verdict.{Verdict}
use Rattle.verdict.specs.declared.Verdict.TheVariants.{Refused, Undecided, Cut, Sent}
use Rattle.laws.specs.Same.{same}
use Rattle.verdict.specs.Verdict.{contenders, ended, decided, verdict_of, verdict_for}
use Rattle.verdict.proofs.Acknowledged.{Whole, FirstRefused, each-acknowledged, all-acknowledged, not-cut}
use Rattle.verdict.proofs.Acknowledged.{some-refused, first-refused}
use Rattle.verdict.proofs.Answered.{unbeaten-every, given, all_there, those-in, count-is, winner-in}
use Rattle.verdict.proofs.Decision.{Differ, Decision, together, apart, decision, not-both}

-- one claim holds exactly when another does
abbrev pub Exactly : Type 0 → Type 0 → Type 0
Exactly one other = (one → other) × (other → one)

-- verdicts told apart, and their numbers
abbrev kind : Verdict → ℕ
kind (Refused number) = 0
kind Undecided = 1
kind (Cut count) = 2
kind (Sent size) = 3

abbrev told : Verdict → ℕ
told (Refused number) = number
told Undecided = 0
told (Cut count) = count
told (Sent size) = size

-- what is decided is no refusal
unrefused-kind : (messages : List (List ℕ)) (count : ℕ) (acknowledges : List ℕ)
    → kind (decided messages count acknowledges) ≡ 0 → ⊥
unfolding ended
unrefused-kind [] count acknowledges none_so = omega (arith, none_so)
unrefused-kind (winner ∷ others) count acknowledges none_so =
    go (all (same winner) others) (eqb count (length winner) && all_acknowledged winner acknowledges) none_so
  where
    go : (alike ends : Bool) → kind (cond alike (cond ends (Sent (length winner)) (Cut count)) Undecided) ≡ 0 → ⊥
    go true true none_so = omega (arith, none_so)
    go true false none_so = omega (arith, none_so)
    go false ends none_so = omega (arith, none_so)

-- any reply: Refused with the refusal's number, exactly where there is one
pub refused-exactly : (reply : Arbitrated) (messages : List (List ℕ)) (acknowledges : List ℕ) (number : ℕ)
    → Exactly (verdict_of reply messages acknowledges ≡ Refused number)
    ((reply.refusal.number ≡ number) × (number ≡ 0 → ⊥))
unfolding verdict_of
refused-exactly reply messages acknowledges number = (to, from)
  where
    to : verdict_of reply messages acknowledges ≡ Refused number
        → (reply.refusal.number ≡ number) × (number ≡ 0 → ⊥)
    to says = go (eqb reply.refusal.number 0) refl
      where
        go : (unrefused : Bool) → eqb reply.refusal.number 0 ≡ unrefused
            → (reply.refusal.number ≡ number) × (number ≡ 0 → ⊥)
        go true is =
            absurd
            (unrefused-kind (contenders reply.seats messages) reply.count acknowledges
            (ap kind (rw is at says)))
        go false is =
            let number_is : reply.refusal.number ≡ number = ap told (rw is at says) in
            (number_is, λ zero. eqb-false reply.refusal.number 0 is (number_is ∙ zero))

    from : (reply.refusal.number ≡ number) × (number ≡ 0 → ⊥)
        → verdict_of reply messages acknowledges ≡ Refused number
    from (is, some) = rw (ne_eqb reply.refusal.number 0 (λ zero. some (sym is ∙ zero))) (ap Refused is)

-- a reply of arbitrate that is not refused; the bytes lent are bytes
module _ (request : Request) (table_room carried_room level_room : ℕ) (small : Bytes request.bytes)
    (unrefused : (arbitrated request table_room carried_room level_room).refusal.number ≡ 0) where
  abbrev reply : Arbitrated
  reply = arbitrated request table_room carried_room level_room

  abbrev acknowledges : List ℕ
  acknowledges = request.acknowledges

  abbrev messages : List (List ℕ)
  messages = messages_of request

  -- the winner's message, and the messages of those still in
  abbrev winner : List ℕ
  winner = least messages

  abbrev remaining : List (List ℕ)
  remaining = contenders reply.seats messages

  abbrev verdict : Verdict
  verdict = verdict_for reply request

  -- where every byte is acknowledged every byte is carried, and all of those still in end together
  count-whole : all_acknowledged winner acknowledges ≡ true → reply.count ≡ length winner
  count-whole every =
      count-is request table_room carried_room level_room small unrefused
      ∙ sym (carried-count winner acknowledges)
      ∙ ap length (whole winner acknowledges every)

  all-together : all_acknowledged winner acknowledges ≡ true → Everyone (λ own. own ≡ winner) remaining
  unfolding carried_of
  all-together every =
      go
      (ends-together messages acknowledges (given request table_room carried_room level_room small unrefused))
    where
      go : CutShort winner acknowledges
          ⊎ ((all_acknowledged winner acknowledges ≡ true)
          × Everyone (λ own. loss_from 0 winner own ≡ none → own ≡ winner) messages)
          → Everyone (λ own. own ≡ winner) remaining
      go (inl cut) = absurd (not-cut winner acknowledges cut.last every cut.count cut.refused)
      go (inr (all_so, ends)) =
          rw (
            those-in request table_room carried_room level_room small unrefused,
            whole winner acknowledges every,
          )
          (unbeaten-every winner ends)

  -- the ways to a verdict
  data Way : Type 0 where
    sent : all_acknowledged winner acknowledges ≡ true → verdict ≡ Sent (length winner) → Way
    cut : Everyone (λ own. own ≡ winner) remaining → all_acknowledged winner acknowledges ≡ false
        → verdict ≡ Cut reply.count → Way
    differs : Differ remaining → verdict ≡ Undecided → Way

  by_end : Everyone (λ own. own ≡ winner) remaining → verdict ≡ ended winner reply.count acknowledges → Way
  unfolding ended
  by_end every is = go (all_acknowledged winner acknowledges) refl
    where
      go : (all_so : Bool) → all_acknowledged winner acknowledges ≡ all_so → Way
      go true all_so =
          sent all_so (rw (eq-eqb reply.count (length winner) (count-whole all_so), all_so) at is)
      go false all_so = cut every all_so (rw (all_so, and-false (eqb reply.count (length winner))) at is)

  way : Way
  unfolding verdict_of
  way =
      go
      (rw (
        all_there request table_room carried_room level_room small unrefused,
        eq-eqb reply.refusal.number 0 unrefused,
      )
      (decision remaining winner reply.count acknowledges
      (winner-in request table_room carried_room level_room small unrefused)))
    where
      go : Decision winner remaining verdict (ended winner reply.count acknowledges) → Way
      go (together every is) = by_end every is
      go (apart differ is) = differs differ is

  -- Sent m: every byte of the winner's message was carried and acknowledged, and m is its length
  pub sent-exactly : (m : ℕ)
      → Exactly (verdict ≡ Sent m) (Whole winner acknowledges reply.count × (m ≡ length winner))
  sent-exactly m = (to way, from way)
    where
      to : Way → verdict ≡ Sent m → Whole winner acknowledges reply.count × (m ≡ length winner)
      to (sent all_so is) says =
          let sendable = least-sendable messages
          (given request table_room carried_room level_room small unrefused) in (
            record {
              carried = count-whole all_so;
              acknowledged = each-acknowledged winner acknowledges all_so sendable.answered;
            },
            ap told (sym says ∙ is),
          )
      to (cut every some-so is) says = absurd (omega (arith, ap kind (sym is ∙ says)))
      to (differs differ is) says = absurd (omega (arith, ap kind (sym is ∙ says)))

      from : Way → Whole winner acknowledges reply.count × (m ≡ length winner) → verdict ≡ Sent m
      from (sent all_so is) (all-sent, size) = is ∙ ap Sent (sym size)
      from (cut every some-so is) (all-sent, size) =
          absurd (false≢true (sym some-so ∙ all-acknowledged winner acknowledges all-sent.acknowledged))
      from (differs differ is) (all-sent, size) =
          absurd (not-both (all-together (all-acknowledged winner acknowledges all-sent.acknowledged)) differ)

  -- Cut k: all of those still in have the winner's message, and its byte k-1 was the first not acknowledged
  pub cut-exactly : (k : ℕ)
      → Exactly (verdict ≡ Cut k)
      (Everyone (λ own. own ≡ winner) remaining × FirstRefused winner acknowledges k)
  cut-exactly k = (to way, from way)
    where
      counted : reply.count ≡ carried_count winner acknowledges
      counted = count-is request table_room carried_room level_room small unrefused

      to : Way → verdict ≡ Cut k → Everyone (λ own. own ≡ winner) remaining × FirstRefused winner acknowledges k
      to (sent all_so is) says = absurd (omega (arith, ap kind (sym is ∙ says)))
      to (cut every some-so is) says =
          let k-is : carried_count winner acknowledges ≡ k = sym counted ∙ ap told (sym is ∙ says) in (
            every,
            rw (← k-is)
                (some-refused winner
                (given request table_room carried_room level_room small unrefused).bits some-so),
          )
      to (differs differ is) says = absurd (omega (arith, ap kind (sym is ∙ says)))

      from : Way → Everyone (λ own. own ≡ winner) remaining × FirstRefused winner acknowledges k → verdict ≡ Cut k
      from (sent all_so is) (every, found) =
          absurd (false≢true (sym (first-refused winner acknowledges k found).1 ∙ all_so))
      from (cut every-so some-so is) (every, found) =
          is ∙ ap Cut (counted ∙ (first-refused winner acknowledges k found).0)
      from (differs differ is) (every, found) = absurd (not-both every differ)

  -- Undecided: two of those still in have different messages
  pub undecided-exactly : Exactly (verdict ≡ Undecided) (Differ remaining)
  undecided-exactly = (to way, from way)
    where
      to : Way → verdict ≡ Undecided → Differ remaining
      to (sent all_so is) says = absurd (omega (arith, ap kind (sym is ∙ says)))
      to (cut every some-so is) says = absurd (omega (arith, ap kind (sym is ∙ says)))
      to (differs differ is) says = differ

      from : Way → Differ remaining → verdict ≡ Undecided
      from (sent all_so is) differ = absurd (not-both (all-together all_so) differ)
      from (cut every some-so is) differ = absurd (not-both every differ)
      from (differs differ-so is) differ = is
