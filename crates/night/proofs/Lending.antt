-- A night over fresh modules gives what is to be put into a lent slice and a lent table, whatever they hold: of a refusal,
-- and of its rounds.
use Prim.Native.Nat.{ℕ, ◌≤◌}
use native.Mathlib.Omega.{arith}
use mathlib.Core.Path.{◌≡◌, sym, ap, ◌∙◌}
use mathlib.Core.List.{List, ◌++◌, map}
use lib.ListN.{length, take, drop, replicate, length-map, length-replicate, length-append}
use lib.Seq.{take-append_seam}
use borrow.Author.Tests.{eq-eqb, ne_eqb}
use Rattle.laws.specs.declared.Refusal.{Refusal}
use Rattle.laws.specs.Buffer.{filled}
use Rattle.usi.specs.declared.Usi.{Usi}
use Rattle.arbitration_rules.specs.Limits.{max_masters}
use Rattle.arbitration_rules.specs.Reply.{Request, messages_of}
use Rattle.arbitration_rules.proofs.Cut.{messages-count}
use Rattle.arbitration_rules.proofs.Pieces.{Bytes}
use Rattle.night_rules.specs.Different.{round_of}
use Rattle.night_rules.specs.Night.{night_refusal, rounds_counted, rounds_after, table_after}
use Rattle.night_rules.proofs.Round.{Admitted, carried_usi}
use Rattle.night_rules.proofs.Night.{night-rounds, night-count, night-table}
use Rattle.night_rules.proofs.Accepted.{admitted, room}
use Rattle.night.specs.declared.NightRun.{NightRun}
use Rattle.night.specs.Rehearsal.{Rehearses}
use Rattle.night.specs.Lent.{Settles, placed}
use Rattle.night.proofs.Placed.{placed-is}
use Rattle.night.proofs.Rehearsed.{count-few}

module _ (request : Request) (rounds : List ℕ) (table_room : ℕ) (fresh : List Usi) (run : NightRun)
    (rehearses : Rehearses request (length rounds) table_room fresh run) where
  -- a refusal
  pub refused-leaves : (run.refusal.number ≡ 0 → ⊥)
      → Settles request table_room rounds rounds
      (record {
        reply = record { refusal = run.refusal; count = run.count };
        entries = 0;
        modules = run.modules;
      })
  unfolding rounds_counted rounds_after table_after
  refused-leaves some =
      let stops = ne_eqb run.refusal.number 0 some in
      record {
        within = omega arith;
        leaves =
            λ table long.
            record {
              refuses = rehearses.refuses ∙ ap (night_refusal request (length rounds)) (sym long);
              counts = rw stops (rw stops at rehearses.counts);
              rounded = rw stops;
              stepped = rw stops;
              different_rounds = λ none. absurd (some none);
              next_larger = λ none. absurd (some none);
            };
      }

  -- its rounds
  module _ (small : Bytes request.bytes) (none_so : run.refusal.number ≡ 0) (fresh-long : length fresh ≡ max_masters) where
    abbrev messages : List (List ℕ)
    messages = messages_of request

    abbrev count : ℕ
    count = length request.counts

    passes : (night_refusal request (length rounds) table_room).number ≡ 0
    passes = ap (λ (found : Refusal). found.number) (sym rehearses.refuses) ∙ none_so

    given_so : Admitted messages request.acknowledges
    given_so = admitted request (length rounds) table_room small passes

    pub rounds-room : count ≤ length rounds
    rounds-room = omega (arith, messages-count request, (room request (length rounds) table_room small passes).0)

    table-enough : count ≤ table_room
    table-enough = omega (arith, messages-count request, (room request (length rounds) table_room small passes).1)

    pub masters-few : count ≤ max_masters
    masters-few = count-few request (length rounds) table_room passes

    abbrev numbers : List ℕ
    numbers = map (round_of messages) messages

    numbers-long : count ≡ length numbers
    numbers-long = sym (length-map messages (round_of messages) ∙ messages-count request)

    front : take count run.rounds ≡ numbers
    front =
        ap (take count) (rehearses.next_larger none_so)
        ∙ ap (λ (n : ℕ). take n (filled numbers (replicate max_masters 0))) numbers-long
        ∙ take-append_seam numbers (drop (length numbers) (replicate max_masters 0))

    abbrev carried : List Usi
    carried = replicate (length messages) carried_usi

    carried-long : count ≡ length carried
    carried-long = sym (length-replicate (length messages) carried_usi ∙ messages-count request)

    modules-are : run.modules ≡ filled carried fresh
    unfolding table_after
    modules-are =
        let runs = eq-eqb run.refusal.number 0 none_so in
        let enough : length messages ≤ length fresh = omega (arith, messages-count request, masters-few, fresh-long) in
        (rw runs at rehearses.stepped) ∙ night-table messages request.acknowledges given_so fresh enough

    placed-are : (table : List Usi) → length table ≡ table_room → placed count run.modules table ≡ filled carried table
    placed-are table long =
        let rest : List Usi = drop (length carried) fresh in
        let within : count ≤ length (carried ++ rest) = omega (arith, length-append carried rest, carried-long) in
        let enough : count ≤ length table = omega (arith, long, table-enough) in
        ap (λ (l : List Usi). placed count l table) modules-are
        ∙ placed-is count (carried ++ rest) table within enough
        ∙ ap (λ (n : ℕ). take n (carried ++ rest) ++ drop n table) carried-long
        ∙ ap (λ (l : List Usi). l ++ drop (length carried) table) (take-append_seam carried rest)

    pub ran-leaves : Settles request table_room rounds (filled (take count run.rounds) rounds)
        (record {
          reply = record { refusal = run.refusal; count = run.count };
          entries = count;
          modules = run.modules;
        })
    unfolding rounds_counted rounds_after table_after
    ran-leaves =
        let runs = eq-eqb run.refusal.number 0 none_so in
        let acknowledges = request.acknowledges in
        record {
          within = table-enough;
          leaves =
              λ table long.
              let enough : length messages ≤ length table = omega (arith, messages-count request, long, table-enough) in
              record {
                refuses = rehearses.refuses ∙ ap (night_refusal request (length rounds)) (sym long);
                counts =
                    rw runs
                    (rehearses.different_rounds none_so ∙ sym (night-count messages acknowledges given_so table));
                rounded =
                    rw runs
                    (ap (λ (l : List ℕ). filled l rounds)
                    (front ∙ sym (night-rounds messages acknowledges given_so table)));
                stepped =
                    rw runs
                    (placed-are table long ∙ sym (night-table messages acknowledges given_so table enough));
                different_rounds = rehearses.different_rounds;
                next_larger = λ none. ap (λ (l : List ℕ). filled l rounds) front;
              };
        }
