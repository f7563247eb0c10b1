-- A turn of a run goes from one standing to the next, or ends the run.
use Prim.Native.Nat.{ℕ, suc, ◌+◌, ◌-◌, ◌<◌, ◌≤◌}
use mathlib.Core.Path.{◌≡◌, refl, sym, ap, ap₂, ◌∙◌}
use mathlib.Core.Bool.{Bool, true, false, cond, ◌||◌}
use mathlib.Core.Logic.{◌⊎◌, inl, inr}
use mathlib.Core.List.{List, ◌++◌, map}
use native.Mathlib.Omega.{arith}
use borrow.Author.Tests.{lt-ltb, ltb-true, ltb-false, leb-true}
use lib.Dec.{eqb, ltb, leb}
use lib.ListN.{length, replicate, drop_of_length-le}
use lib.Seq.{length-take-le, take_all}
use Rattle.usi.specs.declared.Usi.{Usi}
use Rattle.arbitration_rules.specs.Limits.{max_masters}
use Rattle.arbitration_rules.specs.Outcome.{byte_at}
use Rattle.arbitration_rules.specs.Run as script
use Rattle.arbitration_rules.specs.Run.{Bus, perform, restart, stop, through, run}
use Rattle.arbitration_pass.specs.declared.instants.Effect.{Effect}
use Rattle.arbitration_pass.specs.declared.instants.Instant.{Instant}
use Rattle.arbitration_pass.specs.declared.instants.Part.{Part}
use Rattle.arbitration_pass.specs.declared.instants.Part.TheVariants.{Entry, Opening, Restart, Byte, Closing}
use Rattle.arbitration_run.specs.declared.sequencer.Sequencer.{Sequencer}
use Rattle.arbitration_pass.specs.Instants.{turn, byte, instant, last}
use Rattle.arbitration_members.specs.Members as members
use Rattle.arbitration_members.specs.Rows.{rows_of}
use Rattle.arbitration_pass.specs.Pass.{passed, seen}
use Rattle.arbitration_run.specs.Wire as wires
use Rattle.arbitration_run.specs.Sequence as sequence
use Rattle.arbitration_run.specs.Sequence.{acknowledge_at}
use Rattle.arbitration_turns.specs.Turns.{Turn, turn_after}
use Rattle.arbitration_turns.proofs.Scripts.{spelled, spells-byte, spells-stop}
use Rattle.arbitration_turns.proofs.Allowed.{Inside, Allowed, writing, releasing, acknowledging, recording}
use Rattle.arbitration_turns.proofs.Allowed.{taking, loading, heeding, letting_go, allowed, Ready, turned-is}
use Rattle.arbitration_turns.proofs.Growth.{Grows, record-grows, bit-grows, byte-grows}
use Rattle.arbitration_turns.proofs.Kept.{bytes-stay, kept-turned}
use Rattle.arbitration_turns.proofs.Bits.{bound, bits, bits_of, steps, bits_fit, byte-after}
use Rattle.arbitration_turns.proofs.Bits.{byte_fits}
use Rattle.arbitration_turns.proofs.Standing.{bytes_from, ends, finished, rest_at, rest-next, rest-last}
use Rattle.arbitration_turns.proofs.Standing.{instant-grows}
use Rattle.arbitration_turns.proofs.Columns.{column}
use Rattle.arbitration_turns.proofs.Taking.{Given, messages_of, many, bus_of, KeptOf, Early, Loaded, Standing}
use Rattle.arbitration_turns.proofs.Taking.{On, Finished, asked, prepared, prepare}
use Rattle.arbitration_turns.proofs.Asks.{Extra, extra}

module _ (given : Given) where
  abbrev messages : List (List ℕ)
  messages = messages_of given

  abbrev acknowledges : List ℕ
  acknowledges = given.acknowledges

  abbrev count : ℕ
  count = length given.lengths

  abbrev rows : List (List ℕ)
  rows = rows_of messages

  module _ (room : length (run messages acknowledges).carried ≤ length given.carried₀)
      (level-room : length (run messages acknowledges).levels ≤ length given.levels₀) (t : Turn)
      (standing : Standing given t)
    where
      abbrev s : Sequencer
      s = t.sequencer

      abbrev here : Instant
      here = instant s.part s.at

      abbrev acknowledge : ℕ
      acknowledge = acknowledge_at acknowledges s.index

      abbrev next : Bus
      next = perform messages (spelled here s.index acknowledge) (bus_of given t)

      grown : Grows next (run messages acknowledges)
      grown =
          rw (← standing.same)
          (instant-grows messages acknowledges s.part s.at s.index (bus_of given t) standing.within)

      -- room for what the instant records and carries
      abbrev ReadyHere : Effect → Type 0
      ReadyHere effect =
          Ready messages count given.few (many given) s.members standing.kept.sized s.wire t.table
          standing.kept.fresh
          s.index s.sent t.carried t.levels effect

      recorded-is : length (bus_of given t).levels ≡ s.wire.recorded
      recorded-is = length-take-le s.wire.recorded t.levels standing.kept.of-levels.within

      sent_is : length (bus_of given t).carried ≡ s.sent
      sent_is = length-take-le s.sent t.carried standing.kept.of-carried.within

      ready : (i : Instant) → Allowed i → Extra given s.index s.members s.wire i.effect
          → Grows (perform messages (spelled i s.index acknowledge) (bus_of given t)) (run messages acknowledges)
          → ReadyHere i.effect
      ready i (writing operation ticks so) more grows = tt
      ready i (releasing ticks) more grows = tt
      ready i (acknowledging ticks) more grows = tt
      ready i (recording ticks) more grows =
          omega (
            arith,
            recorded-is,
            record-grows messages s.index acknowledge ticks (bus_of given t),
            grows.of-levels,
            level-room,
            standing.kept.of-levels.long,
          )
      ready i (taking bit ticks) more grows = (
        omega (
          arith,
          recorded-is,
          bit-grows messages s.index acknowledge bit ticks (bus_of given t),
          grows.of-levels,
          level-room,
          standing.kept.of-levels.long,
        ),
        more.0,
        more.1,
        λ last.
            omega (
              arith,
              sent_is,
              byte-grows messages s.index acknowledge bit ticks (bus_of given t) last,
              grows.of-carried,
              room,
              standing.kept.of-carried.long,
            ),
      )
      ready i (loading ticks) more grows = more
      ready i (heeding ticks) more grows = tt
      ready i (letting_go ticks) more grows = tt

      -- the turn, up to where the sequencer goes from here
      abbrev after : List Usi
      after = passed count (sequence.pass_of s) t.table

      abbrev acted : Sequencer
      acted = sequence.affected (length t.carried) (length t.levels) acknowledges (seen count after) s

      abbrev arriving : Sequencer → Turn
      arriving sequencer =
          record {
            sequencer = sequencer;
            table = after;
            carried = sequence.carried_after acknowledges (seen count after) s t.carried;
            levels = sequence.levels_after (seen count after) s t.levels;
          }

      acted-kept : KeptOf given (arriving acted)
      unfolding sequence.pass_of sequence.affected sequence.carried_after sequence.levels_after
      acted-kept =
          kept-turned count given.table₀ given.few given.enough (members.sizes_of given.lengths)
          given.carried₀ given.levels₀ (sequence.pass_of s) here.effect here.operation s.index
          (eqb acknowledge 0) s.members s.wire s.sent t.table t.carried t.levels
          (sequence.wire_after 0 acknowledges (seen count after) s).byte standing.kept.long standing.kept.rest
          standing.kept.sized standing.kept.counted standing.kept.of-carried standing.kept.of-levels

      acted-bus : bus_of given (arriving acted) ≡ next
      unfolding sequence.pass_of sequence.affected sequence.carried_after sequence.levels_after
      acted-bus =
          turned-is messages count given.few (many given) s.members standing.kept.sized s.wire t.table
          standing.kept.fresh s.index s.sent t.carried t.levels acknowledge here
          (allowed s.part standing.inside s.at)
          (ready here (allowed s.part standing.inside s.at)
          (extra given s.index s.members s.wire s.part standing.inside s.at standing.within
          standing.early standing.loaded standing.small)
          grown)

      -- where the sequencer goes from here
      abbrev Outcome : Turn → Type 0
      Outcome turn = On given turn ⊎ Finished given turn

      acted-fits : (sequence.affected (length t.carried) (length t.levels) acknowledges (seen count after)
          s).wire.byte
          < 256
      unfolding sequence.affected
      acted-fits =
          byte_fits (length t.levels) (eqb acknowledge 0) (wires.saw here.operation (seen count after) s.wire)
          s.at here.effect (fits s.part s.at standing.within standing.small)
        where
          fits : (part : Part) (at : ℕ) → at ≤ last part → s.wire.byte < bound (bits_of part at) → s.wire.byte < 256
          fits Entry at within small = small
          fits Opening at within small = small
          fits Restart at within small = small
          fits Byte at within small = omega (arith, small, leb-true (bound (bits at)) 256 (bits_fit at within))
          fits Closing at within small = small

      -- within a part
      small-on : (part : Part) (at : ℕ) → at < last part → instant part at ≡ here
          → s.wire.byte < bound (bits_of part at) → acted.wire.byte < bound (bits_of part (at + 1))
      unfolding sequence.affected
      small-on Entry at less is small = acted-fits
      small-on Opening at less is small = acted-fits
      small-on Restart at less is small = acted-fits
      small-on Byte at less is small =
          let one : at + 1 ≡ suc at = omega arith in
          rw (one, ← is)
          (byte-after (length t.levels) (eqb acknowledge 0)
          (wires.saw (byte at).operation (seen count after) s.wire) at (byte at).effect
          (steps at (omega (arith, less))) small)
      small-on Closing at less is small = acted-fits

      -- what is taken from the rows stays
      acted-bytes : acted.members.bytes ≡ s.members.bytes
      unfolding sequence.affected
      acted-bytes = bytes-stay here.effect (seen count after).al s.index s.members

      loaded_on : (part : Part) → Loaded given part s.index s.members
          → Loaded given part s.index acted.members
      loaded_on Entry load = tt
      loaded_on Opening load = tt
      loaded_on Restart load = acted-bytes ∙ load
      loaded_on Byte load = acted-bytes ∙ load
      loaded_on Closing load = tt

      moved_on : s.at < last s.part
          → Standing given (arriving (sequence.placed s.part (s.at + 1) s.loading s.index acted))
      unfolding sequence.affected
      moved_on less =
          record {
            running = standing.running;
            ready = standing.ready;
            inside = standing.inside;
            within = omega arith;
            early = standing.early;
            loaded = loaded_on s.part standing.loaded;
            small = small-on s.part s.at less refl standing.small;
            kept = acted-kept;
            same =
                ap (rest_at messages acknowledges s.part (s.at + 1) s.index) acted-bus
                ∙ sym (rest-next messages acknowledges s.part s.at s.index (bus_of given t) less)
                ∙ standing.same;
          }

      -- the next part
      module _ (q : Sequencer) (running : q.running ≡ true) (kept : KeptOf given (arriving q))
          (byte_small : q.wire.byte < 256)
        where
          -- step 4
          closing : perform messages stop (bus_of given (arriving q)) ≡ run messages acknowledges
              → Standing given (arriving (sequence.entering Closing false q))
          closing same =
              record {
                running = running;
                ready = refl;
                inside = tt;
                within = omega arith;
                early = tt;
                loaded = tt;
                small = byte_small;
                kept = kept;
                same =
                    ap (λ (left : List script.Instant). perform messages left (bus_of given (arriving q)))
                    (spells-stop q.index (acknowledge_at acknowledges q.index))
                    ∙ same;
              }

          -- the byte at the index, or step 4
          opening : perform messages stop (bytes_from messages acknowledges q.index (bus_of given (arriving q)))
              ≡ run messages acknowledges
              → On given (arriving (sequence.opened acknowledges q))
          unfolding sequence.opened
          opening same = go (ltb q.index (length acknowledges)) refl
            where
              go : (more : Bool) → ltb q.index (length acknowledges) ≡ more
                  → On given (arriving (cond more (sequence.entering Byte true q) (sequence.entering Closing false q)))
              go true is =
                  inr
                  (record {
                    running = running;
                    loading = refl;
                    of_part = refl;
                    at_first = refl;
                    early = ltb-true q.index (length acknowledges) is;
                    small = byte_small;
                    kept = kept;
                    same = same;
                  })
              go false is =
                  let past = ltb-false q.index (length acknowledges) is in
                  inl (closing (rw (drop_of_length-le acknowledges past) at same))

          -- the byte after its restart
          restarted : q.index < length acknowledges → q.members.bytes ≡ column (byte_at q.index) 0 messages
              → finished messages acknowledges Restart q.index (bus_of given (arriving q)) ≡ run messages acknowledges
              → Standing given (arriving (sequence.entering Byte false q))
          restarted early load same =
              record {
                running = running;
                ready = refl;
                inside = tt;
                within = omega arith;
                early = early;
                loaded = load;
                small = byte_small;
                kept = kept;
                same =
                    ap (λ (left : List script.Instant).
                    finished messages acknowledges Byte q.index (perform messages left (bus_of given (arriving q))))
                    (spells-byte q.index (acknowledge_at acknowledges q.index))
                    ∙ same;
              }

      -- past the last instant of a part
      module _ (end : s.at ≡ last s.part) where
        over : finished messages acknowledges s.part s.index next ≡ run messages acknowledges
        over =
            sym (rest-last messages acknowledges s.part s.at s.index (bus_of given t) end) ∙ standing.same

        abbrev later : Sequencer
        later = sequence.placed s.part s.at s.loading (s.index + 1) acted

        -- someone is through with this byte
        ends-here : eqb acknowledge 1 || members.through (s.index + 1) acted.members
            ≡ ends messages acknowledges s.index next.masters
        unfolding through
        ends-here =
            let one : s.index + 1 ≡ suc s.index = omega arith in
            let sizes : acted.members.sizes ≡ column length 0 messages =
            acted-kept.counted.sizes
            ∙ ap₂ (λ (list : List ℕ) (k : ℕ). list ++ replicate (max_masters - k) 0)
            (take_all max_masters given.lengths given.few
            ∙ sym given.whole
            ∙ ap (map length) (sym (take_all max_masters messages (omega (arith, many given, given.few)))))
            (sym (many given)) in
            ap (λ (through-now : Bool). eqb acknowledge 1 || through-now)
            (ap₂ (λ (counts : List ℕ) (k : ℕ). members.any_through acted.members.contending counts k) sizes one
            ∙ asked given (arriving acted) acted-kept (λ size. leb size (suc s.index)) length 0
            ∙ ap (λ (bus : Bus). through messages (suc s.index) bus.masters) acted-bus)

        decided-on : s.index < length acknowledges
            → perform messages stop
            (cond (ends messages acknowledges s.index next.masters) next
            (bytes_from messages acknowledges (suc s.index) next))
            ≡ run messages acknowledges
            → On given (arriving (sequence.decided acknowledges acted))
        unfolding sequence.decided sequence.affected
        decided-on early same =
            rw (lt-ltb s.index (length acknowledges) early, ends-here)
            (go (ends messages acknowledges s.index next.masters) same)
          where
            go : (last : Bool)
                → perform messages stop (cond last next (bytes_from messages acknowledges (suc s.index) next))
                ≡ run messages acknowledges
                → On given
                (arriving (cond last (sequence.entering Closing false later) (sequence.opened acknowledges later)))
            go true same =
                inl
                (closing later standing.running acted-kept acted-fits (ap (perform messages stop) acted-bus ∙ same))
            go false same =
                let one : s.index + 1 ≡ suc s.index = omega arith in
                opening later standing.running acted-kept acted-fits
                (ap (λ (bus : Bus). perform messages stop (bytes_from messages acknowledges (s.index + 1) bus))
                acted-bus
                ∙ rw one same)

        parted-on : (part : Part) → Inside part → Early given part s.index
            → Loaded given part s.index s.members
            → finished messages acknowledges part s.index next ≡ run messages acknowledges
            → Outcome (arriving (sequence.parted_from part acknowledges acted))
        unfolding sequence.affected
        parted-on Entry inside early load same = absurd inside
        parted-on Opening inside early load same =
            inl
            (opening acted standing.running acted-kept acted-fits
            (ap (λ (bus : Bus). perform messages stop (bytes_from messages acknowledges s.index bus)) acted-bus
            ∙ same))
        parted-on Restart inside early load same =
            inl
            (inl
            (restarted acted standing.running acted-kept acted-fits early (acted-bytes ∙ load)
            (ap (finished messages acknowledges Restart s.index) acted-bus ∙ same)))
        parted-on Byte inside early load same = inl (decided-on early same)
        parted-on Closing inside early load same =
            inr (record { stopped = refl; kept = acted-kept; same = acted-bus ∙ same })

      go_on : Outcome
          (arriving (sequence.turned (length t.carried) (length t.levels) acknowledges (seen count after) s))
      unfolding sequence.turned sequence.advanced sequence.parted sequence.affected
      go_on = go (ltb s.at (last s.part)) refl
        where
          go : (more : Bool) → ltb s.at (last s.part) ≡ more
              → Outcome
              (arriving
              (cond more (sequence.placed s.part (s.at + 1) s.loading s.index acted)
              (sequence.parted_from s.part acknowledges acted)))
          go true is = inl (inl (moved_on (ltb-true s.at (last s.part) is)))
          go false is =
              let end : s.at ≡ last s.part = omega (arith, standing.within, ltb-false s.at (last s.part) is)
              in
              parted-on end s.part standing.inside standing.early standing.loaded (over end)

  pub step : length (run messages acknowledges).carried ≤ length given.carried₀
      → length (run messages acknowledges).levels ≤ length given.levels₀ → (t : Turn) → On given t
      → let after = turn_after count rows acknowledges t in
      On given after ⊎ Finished given after
  unfolding turn_after
  step room level-room t on = go_on room level-room (prepared given t) (prepare given t on)
