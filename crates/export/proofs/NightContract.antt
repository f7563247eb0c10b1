-- What the night's call promises, at each of its returns; and what follows from the messages alone.
use Prim.Native.Nat.{ℕ, ◌≤◌, ◌<◌}
use native.Mathlib.Omega.{arith}
use mathlib.Core.Path.{◌≡◌, sym, ap, ◌∙◌}
use mathlib.Core.Bool.{true, false}
use mathlib.Core.List.{List, map}
use lib.Dec.{eqb}
use lib.ListN.{length, take, drop, replicate, length-map, length-replicate}
use lib.Seq.{take_at}
use borrow.Author.Tests.{eq-eqb, ne_eqb}
use Rattle.laws.specs.declared.Refusal.{Refusal}
use Rattle.laws.specs.Buffer.{filled}
use Rattle.laws.proofs.Refusals.{placed}
use Rattle.arbitration_rules.specs.Limits.{max_masters}
use Rattle.arbitration_rules.specs.Reply.{messages_of}
use Rattle.arbitration_rules.proofs.Cut.{messages-count}
use Rattle.arbitration_rules.proofs.Pieces.{Bytes}
use Rattle.night_rules.specs.Different.{different, round_of}
use Rattle.night_rules.specs.Night.{night_refusal, night_checks, night_for, rounds_counted, rounds_after, table_after}
use Rattle.night_rules.proofs.Different.{different-length}
use Rattle.night_rules.proofs.Round.{Admitted, carried_usi}
use Rattle.night_rules.proofs.Night.{night-rounds, night-count, night-table}
use Rattle.night_rules.proofs.Accepted.{admitted, room}
use Rattle.night.specs.declared.NightRun.{NightRun}
use Rattle.night.specs.Rehearsal.{Rehearses}
use Rattle.night.proofs.Rehearsed.{any-room}
use Rattle.export.specs.Night.{Lent, gave, refusal_of, powered_up, packed_night, modules_after, returned}
use Rattle.export.specs.Packed.{packed}
use Rattle.export.proofs.Placed.{night-placed}

abbrev pub masters : Lent → ℕ
masters lent = length lent.request.counts

-- a night that nothing refuses has no more masters than modules, and room for each
module _ (lent : Lent) (small : Bytes lent.request.bytes) (passes : (refusal_of lent).number ≡ 0) where
  few : masters lent ≤ max_masters
  few =
      omega (
        arith,
        messages-count lent.request,
        (room lent.request max_masters max_masters small
            (any-room lent.request (length lent.rounds) (length lent.modules) passes)).0,
      )

  enough : (masters lent ≤ length lent.rounds) × (masters lent ≤ length lent.modules)
  enough =
      let both = room lent.request (length lent.rounds) (length lent.modules) small passes in
      (omega (arith, messages-count lent.request, both.0), omega (arith, messages-count lent.request, both.1))

  -- each message has a round
  rounds-many : length (night_for lent.request powered_up).rounds ≡ masters lent
  rounds-many =
      ap length
      (night-rounds (messages_of lent.request) lent.request.acknowledges
      (admitted lent.request (length lent.rounds) (length lent.modules) small passes) powered_up)
      ∙ length-map (messages_of lent.request) (round_of (messages_of lent.request))
      ∙ messages-count lent.request

module _ (lent : Lent) (done : NightRun)
    (promise : Rehearses lent.request (length lent.rounds) (length lent.modules) powered_up done) where
  -- no place is cut
  pub place-small : done.refusal.place < 65536
  unfolding night_refusal
  place-small =
      omega (
        arith,
        ap (λ (found : Refusal). found.place) promise.refuses,
        placed max_masters (night_checks lent.request (length lent.rounds) (length lent.modules))
            (night-placed lent.request (length lent.rounds) (length lent.modules)),
      )

  -- a refused call leaves all that was lent as it was
  pub refused-so : (answer : ℕ) → (done.refusal.number ≡ 0 → ⊥) → answer ≡ packed_night done.refusal 0
      → gave answer lent.rounds lent.modules ≡ returned lent
  unfolding returned rounds_counted rounds_after modules_after
  refused-so answer some is =
      let stops : eqb (refusal_of lent).number 0 ≡ false =
      ne_eqb (refusal_of lent).number 0
      (λ zero. some (ap (λ (found : Refusal). found.number) promise.refuses ∙ zero)) in
      rw (is, promise.refuses, stops)

  module _ (small : Bytes lent.request.bytes) (zero : done.refusal.number ≡ 0) where
    abbrev passes : (refusal_of lent).number ≡ 0
    passes = ap (λ (found : Refusal). found.number) (sym promise.refuses) ∙ zero

    pub put-few : masters lent ≤ max_masters
    put-few = few lent small passes

    pub put-room : (masters lent ≤ length lent.rounds) × (masters lent ≤ length lent.modules)
    put-room = enough lent small passes

    -- no count is cut
    pub count_small : done.count < 65536
    count_small =
        omega (
          arith,
          promise.different_rounds zero,
          different-length (messages_of lent.request),
          messages-count lent.request,
          few lent small passes,
        )

    runs : eqb done.refusal.number 0 ≡ true
    runs = eq-eqb done.refusal.number 0 zero

    rounds-are : take (masters lent) done.rounds ≡ (night_for lent.request powered_up).rounds
    unfolding rounds_after
    rounds-are =
        let own = (night_for lent.request powered_up).rounds in
        let rest = drop {A = ℕ} (length own) (replicate max_masters 0) in
        let whole : done.rounds ≡ filled own (replicate max_masters 0) = promise.rounds ∙ rw runs in
        ap (take (masters lent)) whole ∙ take_at own rest (masters lent) (rounds-many lent small passes)

    table_is : done.modules ≡ (night_for lent.request powered_up).table
    unfolding table_after
    table_is = promise.stepped ∙ rw runs

    count-is : done.count ≡ (night_for lent.request powered_up).count
    unfolding rounds_counted
    count-is = promise.counts ∙ rw runs

    -- its rounds leave in each table what they give, and the rest as it was
    pub ran-so : (answer : ℕ) (rounds modules : List ℕ) → answer ≡ packed_night done.refusal done.count
        → rounds ≡ filled (take (masters lent) done.rounds) lent.rounds
        → modules ≡ filled (map packed (take (masters lent) done.modules)) lent.modules
        → gave answer rounds modules ≡ returned lent
    unfolding returned rounds_counted rounds_after modules_after
    ran-so answer rounds modules is rounds-put modules-put =
        rw (
          is,
          rounds-put,
          modules-put,
          rounds-are,
          table_is,
          count-is,
          promise.refuses,
          eq-eqb (refusal_of lent).number 0 passes,
        )

-- what a night that nothing refuses leaves, from the messages alone
module _ (lent : Lent) (small : Bytes lent.request.bytes) (passes : (refusal_of lent).number ≡ 0) where
  abbrev messages : List (List ℕ)
  messages = messages_of lent.request

  abbrev given : Admitted messages lent.request.acknowledges
  given = admitted lent.request (length lent.rounds) (length lent.modules) small passes

  unrefused : eqb (refusal_of lent).number 0 ≡ true
  unrefused = eq-eqb (refusal_of lent).number 0 passes

  -- it counts as many rounds as there are different messages
  pub counts-different : (returned lent).answer ≡ packed_night (refusal_of lent) (length (different messages))
  unfolding returned rounds_counted
  counts-different =
      ap (packed_night (refusal_of lent))
      (rw unrefused (night-count messages lent.request.acknowledges given powered_up))

  -- each message's round is one more than the different ones that are smaller
  pub rounds-in-order : (returned lent).rounds ≡ filled (map (round_of messages) messages) lent.rounds
  unfolding returned rounds_after
  rounds-in-order =
      rw unrefused
      (ap (λ own. filled own lent.rounds) (night-rounds messages lent.request.acknowledges given powered_up))

  -- each message's module reads C8 45 22 00 FF 00 after the STOP
  pub modules-alike : (returned lent).modules
      ≡ filled (map packed (replicate (length messages) carried_usi)) lent.modules
  unfolding returned modules_after
  modules-alike =
      let own = replicate (length messages) carried_usi in
      let within : length messages ≤ length powered_up =
      omega (arith, messages-count lent.request, few lent small passes) in
      let table : (night_for lent.request powered_up).table ≡ filled own powered_up =
      night-table messages lent.request.acknowledges given powered_up within in
      let front : take (masters lent) (night_for lent.request powered_up).table ≡ own =
      ap (take (masters lent)) table
      ∙ take_at own (drop (length own) powered_up) (masters lent)
      (length-replicate (length messages) carried_usi ∙ messages-count lent.request) in
      rw (unrefused, front)
