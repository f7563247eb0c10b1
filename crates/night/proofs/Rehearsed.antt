-- The reply of a night: of a refusal, and of its rounds.
use Prim.Native.Nat.{ℕ, ◌≤◌}
use mathlib.Core.Path.{◌≡◌, sym, ap, ◌∙◌}
use mathlib.Core.Bool.{false}
use mathlib.Core.List.{List, ◌++◌, map}
use lib.Dec.{eqb, ltb}
use lib.ListN.{length, drop, replicate, length-map}
use borrow.Author.Tests.{eq-eqb, ne_eqb, le-ltb, ltb-false}
use Rattle.laws.specs.declared.Refusal.{Refusal}
use Rattle.laws.specs.Buffer.{filled}
use Rattle.laws.proofs.Bools.{neither}
use Rattle.laws.proofs.Refusals.{Passed, passed, unrefused}
use Rattle.usi.specs.declared.Usi.{Usi}
use Rattle.arbitration_rules.specs.Limits.{max_masters}
use Rattle.arbitration_rules.specs.Reply.{Request, messages_of}
use Rattle.arbitration_rules.proofs.Cut.{messages-count}
use Rattle.arbitration_rules.proofs.Pieces.{Bytes}
use Rattle.night_rules.specs.Different.{round_of}
use Rattle.night_rules.specs.Night.{Night, short_room, night_checks, night_refusal, night_for, rounds_counted, rounds_after}
use Rattle.night_rules.specs.Night.{table_after}
use Rattle.night_rules.proofs.Night.{night-rounds, night-count}
use Rattle.night_rules.proofs.Accepted.{night-numbered, admitted}
use Rattle.night.specs.declared.carried.Standing.{Standing}
use Rattle.night.specs.Carried.{standing_of}
use Rattle.night.specs.Rehearsal.{Rehearses}

module _ (request : Request) (rounds_room table_room : ℕ) where
  -- where nothing refuses a night, the caller's room plays no part any more
  module _ (passes : (night_refusal request rounds_room table_room).number ≡ 0) where
    all-passed : Passed (night_checks request rounds_room table_room)
    unfolding night_refusal
    all-passed = passed (night_checks request rounds_room table_room) (night-numbered request rounds_room table_room) passes

    pub count-few : length request.counts ≤ max_masters
    count-few =
        ltb-false max_masters (length request.counts)
        (neither (eqb (length request.counts) 0) (ltb max_masters (length request.counts)) all-passed.0).1

    pub any-room : (night_refusal request max_masters max_masters).number ≡ 0
    unfolding night_refusal
    any-room =
        let few = le-ltb max_masters (length request.counts) count-few in
        let enough : short_room request max_masters max_masters ≡ false = rw few in
        let all = all-passed in
        ap (λ (found : Refusal). found.number)
        (unrefused (night_checks request max_masters max_masters) (
          all.0,
          (all.1.0, (all.1.1.0, (all.1.1.1.0, (all.1.1.1.1.0, (all.1.1.1.1.1.0, (enough, tt)))))),
        ))

  module _ (found : Refusal) (is : found ≡ night_refusal request rounds_room table_room) (modules : List Usi) where
    -- a refusal
    pub refused-so : (found.number ≡ 0 → ⊥)
        → Rehearses request rounds_room table_room modules
        (record { refusal = found; count = 0; rounds = replicate max_masters 0; modules = modules })
    unfolding rounds_counted rounds_after table_after
    refused-so some =
        let stops = ne_eqb found.number 0 some in
        record {
          refuses = is;
          counts = rw stops;
          rounds = rw stops;
          stepped = rw stops;
          different_rounds = λ none. absurd (some none);
          next_larger = λ none. absurd (some none);
        }

    -- its rounds
    module _ (small : Bytes request.bytes) (zero : found.number ≡ 0) where
      abbrev passes : (night_refusal request rounds_room table_room).number ≡ 0
      passes = ap (λ (one : Refusal). one.number) (sym is) ∙ zero

      abbrev night : Night
      night = night_for request modules

      rounds-are : night.rounds ≡ map (round_of (messages_of request)) (messages_of request)
      rounds-are =
          night-rounds (messages_of request) request.acknowledges
          (admitted request rounds_room table_room small passes) modules

      long : length night.rounds ≡ length request.counts
      long =
          ap length rounds-are ∙ length-map (messages_of request) (round_of (messages_of request))
          ∙ messages-count request

      filled_is : night.rounds ++ drop (length request.counts) (replicate max_masters 0)
          ≡ filled night.rounds (replicate max_masters 0)
      filled_is = ap (λ (n : ℕ). night.rounds ++ drop n (replicate max_masters 0)) (sym long)

      pub ran-so : (ended : Standing) → ended ≡ standing_of request (replicate max_masters 0) night
          → Rehearses request rounds_room table_room modules
          (record { refusal = found; count = ended.count; rounds = ended.rounds; modules = ended.modules })
      unfolding rounds_counted rounds_after table_after
      ran-so ended stands =
          let runs = eq-eqb found.number 0 zero in
          let rounded = ap (λ (s : Standing). s.rounds) stands ∙ filled_is in
          record {
            refuses = is;
            counts = rw runs (ap (λ (s : Standing). s.count) stands);
            rounds = rw runs rounded;
            stepped = rw runs (ap (λ (s : Standing). s.modules) stands);
            different_rounds =
                λ none. ap (λ (s : Standing). s.count) stands
                ∙ night-count (messages_of request) request.acknowledges
                (admitted request rounds_room table_room small passes) modules;
            next_larger = λ none. rounded ∙ ap (λ (l : List ℕ). filled l (replicate max_masters 0)) rounds-are;
          }
