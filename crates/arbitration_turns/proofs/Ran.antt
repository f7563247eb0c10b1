-- The turns of a run, from before power-up to the end, are the run of 01's steps 1 to 4.
use Prim.Native.Nat.{ℕ, zero, suc, ◌-◌, ◌≤◌, min}
use mathlib.Core.Path.{◌≡◌, refl, sym, ap, ap₂, ◌∙◌}
use mathlib.Core.Bool.{Bool, true, false, cond, false≢true}
use mathlib.Core.Logic.{◌⊎◌, inl, inr}
use mathlib.Core.List.{List, [], ◌∷◌, ◌++◌, map, zip_with}
use native.Mathlib.Nat.{not-suc-le-zero, le_of_suc-le-suc}
use native.Mathlib.Omega.{arith}
use lib.ListN.{length, take, drop, replicate, length-take, length-append, length-replicate}
use lib.ListN.{take-append-drop}
use lib.Seq.{length-take-le}
use Rattle.laws.specs.Buffer.{filled}
use Rattle.laws.proofs.Lists.{map-map}
use Rattle.usi.specs.declared.Usi.{Usi}
use Rattle.usi.specs.Module.{power_up}
use Rattle.arbitration_rules.specs.Limits.{max_masters, max_length}
use Rattle.arbitration_rules.specs.Masters.{Master, entering, with_usi, still_in}
use Rattle.arbitration_rules.specs.declared.Seat.{Seat}
use Rattle.arbitration_rules.specs.Reply.{cut, absent, seat_of}
use Rattle.arbitration_rules.specs.Run.{Bus, Instant, perform, powered, set_up, start, stop, bytes as steps, run}
use Rattle.arbitration_rules.proofs.Cut.{cut-count}
use Rattle.arbitration_rules.proofs.Phases.{perform-append}
use Rattle.arbitration_pass.specs.declared.instants.Operation.TheVariants.{Enter}
use Rattle.arbitration_pass.specs.declared.instants.Effect.TheVariants.{Nothing}
use Rattle.arbitration_pass.specs.declared.instants.Part.TheVariants.{Opening}
use Rattle.arbitration_members.specs.declared.members.Members.{Members}
use Rattle.arbitration_members.specs.Members as members
use Rattle.arbitration_pass.specs.Pass.{registers, written_all, passed, seen}
use Rattle.arbitration_members.specs.Rows.{rows_of}
use Rattle.arbitration_run.specs.Sequence as sequence
use Rattle.arbitration_turns.specs.Turns.{Turn, ready, turn_after, Reached, ended, more}
use Rattle.arbitration_turns.proofs.View.{join, masters_from, stepped, Treats}
use Rattle.arbitration_turns.proofs.Scripts.{spells-start}
use Rattle.arbitration_turns.proofs.Treatment.{written_by, writes_are, passing}
use Rattle.arbitration_turns.proofs.Pieces.{Sized, as_many, pass_alone}
use Rattle.arbitration_turns.proofs.Turned.{same-bus}
use Rattle.arbitration_turns.proofs.Kept.{written_none, kept-turned}
use Rattle.arbitration_turns.proofs.Standing.{rest_at}
use Rattle.arbitration_turns.proofs.Counted.{Counted, quiet-start}
use Rattle.arbitration_turns.proofs.Steps.{step}
use Rattle.arbitration_turns.proofs.Taking.{Given, bus_of, On, Finished}

-- a module after set-up, and the master whose it is
abbrev set_up_module : Usi
set_up_module = written_all (registers Enter 0) (power_up 0 0)

abbrev enters_as : Master → Master
enters_as master = cond master.contending (with_usi set_up_module master) master

treats-enter : (level : ℕ) (contending lost : List Bool) (bytes : List ℕ)
    → Treats (passing false level contending lost bytes Enter) (λ master byte. enters_as master)
treats-enter level contending lost bytes = record { as-pass = cases }
  where
    cases : (usi : Usi) (still out : Bool) (position byte : ℕ)
        → enters_as (join usi still out position)
        ≡ join (stepped (passing false level contending lost bytes Enter) still out byte usi) still out position
    cases usi true true position byte = refl
    cases usi true false position byte = refl
    cases usi false true position byte = refl
    cases usi false false position byte = refl

-- everyone with a message enters
everyone-enters : (table : List Usi) (messages : List (List ℕ)) (others : List Bool) (places : ℕ)
    → length table ≡ length messages → length messages ≤ places
    → map enters_as
    (masters_from table (replicate (length messages) true ++ others) (replicate places false) (replicate places 0))
    ≡ map (λ (message : List ℕ). written_by still_in (registers Enter 0) entering) messages
everyone-enters [] [] others places many room = refl
everyone-enters [] (message ∷ messages) others places many room = absurd (omega arith)
everyone-enters (usi ∷ table) [] others places many room = absurd (omega arith)
everyone-enters (usi ∷ table) (message ∷ messages) others zero many room = absurd (omega arith)
everyone-enters (usi ∷ table) (message ∷ messages) others (suc places) many room =
    ap (λ (ms : List Master). join set_up_module true false 0 ∷ ms)
    (everyone-enters table messages others places (omega arith) (omega arith))

-- the modules of the masters, and their seats
modules-of : (table : List Usi) (contending lost : List Bool) (positions : List ℕ) → length table ≤ length contending
    → length table ≤ length lost → length table ≤ length positions
    → map (λ (m : Master). m.usi) (masters_from table contending lost positions) ≡ table
modules-of [] contending lost positions c l p = refl
modules-of (usi ∷ table) [] lost positions c l p = absurd (not-suc-le-zero c)
modules-of (usi ∷ table) (still ∷ contending) [] positions c l p = absurd (not-suc-le-zero l)
modules-of (usi ∷ table) (still ∷ contending) (out ∷ lost) [] c l p = absurd (not-suc-le-zero p)
modules-of (usi ∷ table) (still ∷ contending) (out ∷ lost) (position ∷ positions) c l p =
    ap (λ (us : List Usi). usi ∷ us)
    (modules-of table contending lost positions (le_of_suc-le-suc c) (le_of_suc-le-suc l) (le_of_suc-le-suc p))

seats-of : (table : List Usi) (contending lost : List Bool) (positions : List ℕ) → length table ≤ length contending
    → length table ≤ length lost → length table ≤ length positions
    → zip_with (members.seat_of members.writes_clear) (take (length table) contending) (take (length table) positions)
    ≡ map (seat_of members.writes_clear) (masters_from table contending lost positions)
unfolding zip_with
seats-of [] contending lost positions c l p = refl
seats-of (usi ∷ table) [] lost positions c l p = absurd (not-suc-le-zero c)
seats-of (usi ∷ table) (still ∷ contending) [] positions c l p = absurd (not-suc-le-zero l)
seats-of (usi ∷ table) (still ∷ contending) (out ∷ lost) [] c l p = absurd (not-suc-le-zero p)
seats-of (usi ∷ table) (still ∷ contending) (out ∷ lost) (position ∷ positions) c l p =
    ap (λ (seats : List Seat). members.seat_of members.writes_clear still position ∷ seats)
    (seats-of table contending lost positions (le_of_suc-le-suc c) (le_of_suc-le-suc l) (le_of_suc-le-suc p))

module _ (sent lengths acknowledges : List ℕ) (few : length lengths ≤ max_masters)
    (short : length acknowledges ≤ max_length) (whole : map length (cut lengths sent) ≡ lengths)
    (table₀ : List Usi) (enough : length lengths ≤ length table₀) (carried₀ levels₀ : List ℕ)
    (room : length (run (cut lengths sent) acknowledges).carried ≤ length carried₀)
    (level-room : length (run (cut lengths sent) acknowledges).levels ≤ length levels₀) where
  abbrev messages : List (List ℕ)
  messages = cut lengths sent

  abbrev count : ℕ
  count = length lengths

  abbrev given : Given
  given =
      record {
        sent = sent;
        lengths = lengths;
        acknowledges = acknowledges;
        few = few;
        short = short;
        whole = whole;
        table₀ = table₀;
        enough = enough;
        carried₀ = carried₀;
        levels₀ = levels₀;
      }

  abbrev pub rows : List (List ℕ)
  rows = rows_of messages

  abbrev pub before : Turn
  before =
      record { sequencer = sequence.first lengths; table = table₀; carried = carried₀; levels = levels₀ }

  abbrev Stands : Turn → Type 0
  Stands t = On given t

  abbrev Ends : Turn → Type 0
  Ends t = Finished given t

  sized : Sized (members.entered lengths)
  unfolding members.entered
  sized =
      record {
        of-contending =
            omega (
              arith,
              length-append (replicate (min count max_masters) true) (replicate (max_masters - count) false),
              length-replicate {A = Bool} (min count max_masters) true,
              length-replicate {A = Bool} (max_masters - count) false,
              few,
            );
        of-lost = length-replicate {A = Bool} max_masters false;
        of-positions = length-replicate {A = ℕ} max_masters 0;
        of-bytes = length-replicate {A = ℕ} max_masters 0;
      }

  -- after set-up
  abbrev after : List Usi
  after = passed count (sequence.pass_of (sequence.first lengths)) table₀

  abbrev opening : Turn
  opening =
      record {
        sequencer =
            sequence.entering Opening false
            (sequence.affected (length carried₀) (length levels₀) acknowledges (seen count after)
            (sequence.first lengths));
        table = after;
        carried = carried₀;
        levels = levels₀;
      }

  entered-bus : bus_of given opening
      ≡ perform messages set_up (powered messages)
  unfolding sequence.affected sequence.pass_of sequence.first members.entered
  entered-bus =
      let all : min count max_masters ≡ length messages = omega (arith, few, cut-count lengths sent) in
      let size = length-take count table₀ in
      same-bus
      (pass_alone count few (replicate max_masters 0) (length-replicate {A = ℕ} max_masters 0)
      (sequence.pass_of (sequence.first lengths)) enters_as
      (treats-enter 3 (members.with_message count) members.nobody (replicate max_masters 0)) table₀
      sized.of-contending sized.of-lost sized.of-bytes
      ∙ ap (λ (n : ℕ).
      map enters_as
      (masters_from (take count table₀) (replicate n true ++ replicate (max_masters - count) false)
      (replicate max_masters false) (replicate max_masters 0))) all
      ∙ everyone-enters (take count table₀) messages (replicate (max_masters - count) false) max_masters
      (omega (arith, size, cut-count lengths sent, enough)) (omega (arith, cut-count lengths sent, few))
      ∙ sym (map-map (written_by still_in (registers Enter 0)) (λ (message : List ℕ). entering) messages))
      refl refl refl refl refl
      ∙ sym (writes_are messages still_in (registers Enter 0) (powered messages))

  counted : Counted count (members.sizes_of lengths) (members.entered lengths)
  unfolding members.entered
  counted =
      let all : min count max_masters ≡ count = omega (arith, few) in
      record { sizes = refl; quiet = rw all (quiet-start count (max_masters - count)) }

  entered : Stands opening
  unfolding sequence.affected sequence.pass_of sequence.first run
  entered =
      inl
      (record {
        running = refl;
        ready = refl;
        inside = tt;
        within = omega arith;
        early = tt;
        loaded = tt;
        small = omega arith;
        kept =
            kept-turned count table₀ few enough (members.sizes_of lengths) carried₀ levels₀
            (sequence.pass_of (sequence.first lengths)) Nothing Enter 0 true (members.entered lengths)
            (sequence.first lengths).wire 0 table₀ carried₀ levels₀ 0 refl refl sized counted (written_none carried₀)
            (written_none levels₀);
        same =
            ap (λ (bus : Bus).
            rest_at messages acknowledges Opening 0 0 bus) entered-bus
            ∙ ap (λ (script : List Instant).
            perform messages stop (steps messages acknowledges 0
            (perform messages script (perform messages set_up (powered messages)))))
            (spells-start 0 (sequence.acknowledge_at acknowledges 0))
            ∙ ap (λ (bus : Bus). perform messages stop (steps messages acknowledges 0 bus))
            (sym (perform-append messages set_up start (powered messages)));
      })

  -- turn after turn
  stays : (t final : Turn) → Reached count rows acknowledges t final → Ends t → Ends final
  stays t final (ended turn is) over = over
  stays t final (more turn last is rest) over = absurd (false≢true (sym over.stopped ∙ is))

  ends : (t final : Turn) → Reached count rows acknowledges t final → Stands t → Ends final
  ends t final (ended turn is) stands = absurd (false≢true (sym is ∙ runs stands))
    where
      runs : Stands turn → turn.sequencer.running ≡ true
      runs (inl standing) = standing.running
      runs (inr waiting) = waiting.running
  ends t final (more turn last is rest) stands =
      go (step given room level-room turn stands)
      (ends (turn_after count rows acknowledges turn) last rest)
      (stays (turn_after count rows acknowledges turn) last rest)
    where
      go : Stands (turn_after count rows acknowledges turn)
          ⊎ Ends (turn_after count rows acknowledges turn)
          → (Stands (turn_after count rows acknowledges turn) → Ends last)
          → (Ends (turn_after count rows acknowledges turn) → Ends last) → Ends last
      go (inl on) first second = first on
      go (inr over) first second = second over

  first-turn : turn_after count rows acknowledges before ≡ opening
  unfolding turn_after ready sequence.turned sequence.advanced sequence.parted sequence.affected sequence.pass_of
      sequence.first sequence.carried_after sequence.levels_after
  first-turn = refl

  module _ (final : Turn) (reached : Reached count rows acknowledges before final) where
    over : Ends final
    unfolding sequence.first
    over = go before reached refl
      where
        go : (t : Turn) → Reached count rows acknowledges t final → before ≡ t → Ends final
        go t (ended turn is) same =
            absurd (false≢true (sym is ∙ ap (λ (u : Turn). u.sequencer.running) (sym same)))
        go t (more turn last is rest) same =
            ends (turn_after count rows acknowledges turn) last rest
            (rw (← same, first-turn) entered)

    abbrev bus : Bus
    bus = run messages acknowledges

    -- how many bytes are carried, the two buffers, the table, and what became of each master
    pub sent_is : final.sequencer.sent ≡ length bus.carried
    sent_is =
        sym (length-take-le final.sequencer.sent final.carried over.kept.of-carried.within)
        ∙ ap (λ (b : Bus). length b.carried) over.same

    recorded-is : final.sequencer.wire.recorded ≡ length bus.levels
    recorded-is =
        sym (length-take-le final.sequencer.wire.recorded final.levels over.kept.of-levels.within)
        ∙ ap (λ (b : Bus). length b.levels) over.same

    pub carried-is : final.carried ≡ filled bus.carried carried₀
    carried-is =
        sym (take-append-drop final.sequencer.sent final.carried)
        ∙ ap₂ (λ (head rest : List ℕ). head ++ rest) (ap (λ (b : Bus). b.carried) over.same)
        (over.kept.of-carried.rest ∙ ap (λ (n : ℕ). drop n carried₀) sent_is)

    pub levels_are : final.levels ≡ filled bus.levels levels₀
    levels_are =
        sym (take-append-drop final.sequencer.wire.recorded final.levels)
        ∙ ap₂ (λ (head rest : List ℕ). head ++ rest) (ap (λ (b : Bus). b.levels) over.same)
        (over.kept.of-levels.rest ∙ ap (λ (n : ℕ). drop n levels₀) recorded-is)

    size : length (take count final.table) ≡ count
    size = omega (arith, length-take count final.table, over.kept.long, enough)

    abbrev stood : Members
    stood = final.sequencer.members

    c-room : length (take count final.table) ≤ length stood.contending
    c-room = omega (arith, size, few, over.kept.sized.of-contending)

    l-room : length (take count final.table) ≤ length stood.lost
    l-room = omega (arith, size, few, over.kept.sized.of-lost)

    p-room : length (take count final.table) ≤ length stood.positions
    p-room = omega (arith, size, few, over.kept.sized.of-positions)

    pub table_is : final.table ≡ map (λ (m : Master). m.usi) bus.masters ++ drop count table₀
    table_is =
        sym (take-append-drop count final.table)
        ∙ ap₂ (λ (head rest : List Usi). head ++ rest)
        (sym
        (modules-of (take count final.table) stood.contending stood.lost stood.positions c-room l-room
        p-room)
        ∙ ap (λ (b : Bus). map (λ (m : Master). m.usi) b.masters) over.same)
        over.kept.rest

    pub seats-are : members.seats stood.contending stood.positions count
        ≡ map (seat_of members.writes_clear) bus.masters ++ replicate (max_masters - count) absent
    seats-are =
        ap (λ (list : List Seat). list ++ replicate (max_masters - count) absent)
        (ap (λ (n : ℕ).
        zip_with (members.seat_of members.writes_clear) (take n stood.contending) (take n stood.positions))
        (sym size)
        ∙ seats-of (take count final.table) stood.contending stood.lost stood.positions c-room l-room
        p-room
        ∙ ap (λ (b : Bus). map (seat_of members.writes_clear) b.masters) over.same)

    pub as-many-masters : length bus.masters ≡ count
    as-many-masters =
        ap (λ (b : Bus). length b.masters) (sym over.same)
        ∙ as_many (take count final.table) stood.contending stood.lost stood.positions c-room l-room
        p-room
        ∙ size
