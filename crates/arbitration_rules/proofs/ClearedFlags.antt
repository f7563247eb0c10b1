-- What the writes of each master clear over a run: STTIFG after the START, and IFG with each count above 0 that it
-- writes; never AL or STP (02: Ask 12).
use Prim.Native.Nat.{ℕ, zero, suc, ◌≤◌, ◌<◌}
use native.Mathlib.Omega.{arith}
use mathlib.Core.Path.{◌≡◌, refl, ap, sym, ◌∙◌}
use mathlib.Core.Bool.{Bool, cond, true, false, not, ◌||◌, false≢true}
use mathlib.Core.List.{List, [], ◌∷◌, ◌++◌, map, append-nil}
use mir.Val.{bool_byte}
use lib.Bits.{bit_or, or_comm}
use lib.Dec.{eqb}
use lib.ListN.{length, take}
use Rattle.laws.specs.Everyone.{Everyone, also}
use Rattle.laws.proofs.Lists.{everyone, everyone-so}
use Rattle.encode.specs.Encode.{draw_events}
use Rattle.arbitration_rules.specs.Outcome.{byte_of, restarts, sent_at, least, carried_count}
use Rattle.arbitration_rules.specs.Outcome.{sent_events, carried_events}
use Rattle.arbitration_rules.specs.Run.{Bus, Instant, perform, powered, set_up, start, byte_turn, stop, turn_of}
use Rattle.arbitration_rules.specs.Run.{restart, through, restarting, bytes, bytes_script, script}
use Rattle.arbitration_rules.specs.Cleared.{cleared_over, cleared_by}
use Rattle.arbitration_rules.proofs.Phases as phases
use Rattle.arbitration_rules.proofs.Phases.{perform-append}
use Rattle.arbitration_rules.proofs.Standing.{Standing}
use Rattle.arbitration_rules.proofs.Pause.{Pause, after_start, after_byte, is_in, pull_at, level_at, taken_at}
use Rattle.arbitration_rules.proofs.Round.{waits, ninth_bit}
use Rattle.arbitration_rules.proofs.Against.{against, out_at}
use Rattle.arbitration_rules.proofs.Carry.{Contest, Between, byte-below, paused, leader-in, all-go-on, leader}
use Rattle.arbitration_rules.proofs.Carry.{agreed, carry-at, contest-on, all-sent, more-to-send}
use Rattle.arbitration_rules.proofs.Loop as loop
use Rattle.arbitration_rules.proofs.Loop.{Carried, longer}
use Rattle.arbitration_rules.proofs.Demand.{Sendable, Arbitration, winner-in, contest, least-sendable}
use Rattle.arbitration_rules.proofs.Clearing.{joined-assoc, Clears, then}
use Rattle.arbitration_rules.proofs.ClearedSteps.{started, joined, byte-clears, stop-clears, restart_flags}
use Rattle.arbitration_rules.proofs.ClearedSteps.{restart-clears}

-- who is in after more bytes was in before
still-in : (index : ℕ) (carried more message : List ℕ)
    → is_in (against index carried message) || is_in (against index (carried ++ more) message)
    ≡ is_in (against index carried message)
still-in index [] more message = refl
still-in index (sent ∷ carried) more [] = refl
still-in index (sent ∷ carried) more (own ∷ message) =
    go (eqb (byte_of own) (byte_of sent)) (against (suc index) carried message)
    (against (suc index) (carried ++ more) message)
    (still-in (suc index) carried more message)
  where
    go : (same : Bool) (one other : Standing) → is_in one || is_in other ≡ is_in one
        → is_in (cond same one (out_at index sent own)) || is_in (cond same other (out_at index sent own))
        ≡ is_in (cond same one (out_at index sent own))
    go true one other rest = rest
    go false one other rest = refl

-- IFG of those that are still in after carried bytes
abbrev ifg_of : List ℕ → List ℕ → ℕ
ifg_of carried message = bool_byte (is_in (against 0 carried message))

-- flags are as good as others beside STTIFG, which everybody's first START has
abbrev Worth : ℕ → ℕ → Type 0
Worth flags others = bit_or 0x02 flags ≡ bit_or 0x02 others

worth-both : (flags others more rest : ℕ) → Worth flags others → Worth more rest
    → Worth (bit_or flags more) (bit_or others rest)
worth-both flags others more rest one two =
    sym (joined-assoc 0x02 flags more)
    ∙ ap (λ (x : ℕ). bit_or x more) one
    ∙ ap (λ (x : ℕ). bit_or x more) (or_comm 0x02 others)
    ∙ joined-assoc others 0x02 more
    ∙ ap (bit_or others) two
    ∙ sym (joined-assoc others 0x02 rest)
    ∙ ap (λ (x : ℕ). bit_or x rest) (or_comm others 0x02)
    ∙ joined-assoc 0x02 others rest

-- a restart clears IFG of those still in, and STTIFG
restart-worth : (in-it : Bool) → Worth (cond in-it 0x03 0x02) (bool_byte in-it)
restart-worth true = refl
restart-worth false = refl

-- a script from one bus to another, and what its flags are worth
record Worthy (messages : List (List ℕ)) (instants : List Instant) (bus next : Bus) (others : List ℕ → ℕ) : Type 0
  where
    flags : List ℕ → ℕ
    clears : Clears messages instants bus next flags
    worth : (message : List ℕ) → Worth (flags message) (others message)

plain : {messages : List (List ℕ)} {instants : List Instant} {bus next : Bus} {flags : List ℕ → ℕ}
    → Clears messages instants bus next flags → Worthy messages instants bus next flags
plain {flags = flags} clears = record { flags = flags; clears = clears; worth = λ message. refl }

both : {messages : List (List ℕ)} {instants more : List Instant} {bus next end : Bus}
    {first second others : List ℕ → ℕ}
    → Worthy messages instants bus next first → Worthy messages more next end second
    → ((message : List ℕ) → bit_or (first message) (second message) ≡ others message)
    → Worthy messages (instants ++ more) bus end others
both {messages} {first = first} {second = second} one two joins =
    record {
      flags = λ message. bit_or (one.flags message) (two.flags message);
      clears = then messages one.clears two.clears (λ message. refl);
      worth =
          λ message. worth-both (one.flags message) (first message) (two.flags message) (second message)
          (one.worth message) (two.worth message)
          ∙ ap (bit_or 0x02) (joins message);
    }

again : (a : Bool) → bit_or (bool_byte a) (bool_byte a) ≡ bool_byte a
again true = refl
again false = refl

-- a byte of the least message, with the restart before it
module _ (messages : List (List ℕ)) (carried : List ℕ) (sent : ℕ) (more : List ℕ) {acknowledges : List ℕ}
    (fought : Contest messages carried (sent ∷ more) acknowledges) where
  byte-so : (acknowledge : ℕ) (pause : Pause) (levels : List ℕ)
      → Clears messages (byte_turn (length carried) acknowledge) (paused messages pause carried levels)
      (perform messages (byte_turn (length carried) acknowledge) (paused messages pause carried levels))
      (ifg_of carried)
  byte-so acknowledge pause levels =
      record {
        leads = refl;
        is =
            byte-clears messages (against 0 carried) (length carried) (byte_of sent) acknowledge pause (pull_at pause)
            (level_at pause) (taken_at pause) levels (map byte_of carried) (byte-below sent)
            (everyone (λ message. byte-below (sent_at (length carried) message)) messages)
            (everyone-so (λ message goes still. (goes still).no_less) (all-go-on messages carried sent more fought))
            (leader messages carried sent more fought);
      }

  turn-so : (again? : Bool) → restarts sent ≡ again? → (acknowledge : ℕ) (pause : Pause)
      → Between messages carried sent more fought pause → (levels : List ℕ)
      → Worthy messages (turn_of again? (length carried) acknowledge) (paused messages pause carried levels)
      (perform messages (turn_of again? (length carried) acknowledge) (paused messages pause carried levels))
      (ifg_of carried)
  turn-so true test acknowledge (after_start taken) first levels = absurd (false≢true (sym first ∙ test))
  turn-so true test acknowledge (after_byte byte ninth) first levels =
      let restarted =
      restart-clears messages (against 0 carried) byte ninth (not ninth) (level_at (after_byte byte ninth)) byte levels
      (map byte_of carried) (leader-in messages carried (sent ∷ more) fought.sent) in
      let opens : Worthy messages restart (paused messages (after_byte byte ninth) carried levels)
      (paused messages (after_start byte) carried (levels ++ 2 ∷ 3 ∷ [] ++ 1 ∷ [])) (ifg_of carried) =
      record {
        flags = λ message. restart_flags (against 0 carried message);
        clears = restarted;
        worth = λ message. restart-worth (is_in (against 0 carried message));
      } in
      let whole =
      both opens (plain (byte-so acknowledge (after_start byte) (levels ++ 2 ∷ 3 ∷ [] ++ 1 ∷ [])))
      (λ message. again (is_in (against 0 carried message))) in
      record {
        flags = whole.flags;
        clears = record { leads = refl; is = whole.clears.is };
        worth = whole.worth;
      }
  turn-so false test acknowledge pause first levels = plain (byte-so acknowledge pause levels)

  carried-clears : (index acknowledge : ℕ) → length carried ≡ index → acknowledge ≤ 1 → (pause : Pause)
      → Between messages carried sent more fought pause → (levels : List ℕ)
      → Worthy messages (turn_of (restarting messages index (waits pause (against 0 carried) messages)) index acknowledge)
      (paused messages pause carried levels)
      (paused messages (after_byte (byte_of sent) (ninth_bit acknowledge)) (carried ++ sent ∷ [])
      (levels ++ draw_events (sent_events sent acknowledge)))
      (ifg_of carried)
  carried-clears index acknowledge at one pause between levels =
      let here = turn-so (restarts sent) refl acknowledge pause between levels in
      record {
        flags = here.flags;
        clears =
            record {
              leads =
                  phases.turn_is messages (restarting messages index (waits pause (against 0 carried) messages)) index
                  acknowledge (paused messages pause carried levels)
                  ∙ carry-at messages carried sent more fought index acknowledge at one pause between levels;
              is =
                  ap (λ (i : ℕ). cleared_over messages
                  (turn_of (restarting messages i (waits pause (against 0 carried) messages)) i acknowledge)
                  (paused messages pause carried levels)) (sym at)
                  ∙ ap (λ (t : Bool). cleared_over messages (turn_of t (length carried) acknowledge)
                  (paused messages pause carried levels)) (agreed messages carried sent more fought pause)
                  ∙ here.clears.is;
            };
        worth = here.worth;
      }

-- one turn of the loop
module _ (messages : List (List ℕ)) (acknowledge : ℕ) (acknowledges : List ℕ) (index : ℕ) {bus after : Bus}
    {others : List ℕ → ℕ}
    (here : Worthy messages (turn_of (restarting messages index bus.masters) index acknowledge) bus after others) where
  abbrev turn : List Instant
  turn = turn_of (restarting messages index bus.masters) index acknowledge

  abbrev rest : List Instant
  rest = bytes_script messages acknowledges (suc index) after

  unrolled : (last : Bool) → eqb acknowledge 1 || through messages (suc index) after.masters ≡ last
      → bytes_script messages (acknowledge ∷ acknowledges) index bus ≡ turn ++ cond last [] rest
  unrolled last test =
      ap (λ (b : Bus). turn
      ++ cond (eqb acknowledge 1 || through messages (suc index) b.masters) []
      (bytes_script messages acknowledges (suc index) b))
      here.clears.leads
      ∙ ap (λ t. turn ++ cond t [] rest) test

  stops-here : eqb acknowledge 1 || through messages (suc index) after.masters ≡ true
      → Worthy messages (bytes_script messages (acknowledge ∷ acknowledges) index bus) bus after others
  stops-here test =
      let same : bytes_script messages (acknowledge ∷ acknowledges) index bus ≡ turn =
      unrolled true test ∙ append-nil turn in
      record {
        flags = here.flags;
        clears =
            record {
              leads = ap (λ instants. perform messages instants bus) same ∙ here.clears.leads;
              is = ap (λ instants. cleared_over messages instants bus) same ∙ here.clears.is;
            };
        worth = here.worth;
      }

  goes-on : eqb acknowledge 1 || through messages (suc index) after.masters ≡ false → {end : Bus}
      {later : List ℕ → ℕ} → Worthy messages rest after end later
      → ((message : List ℕ) → bit_or (others message) (later message) ≡ others message)
      → Worthy messages (bytes_script messages (acknowledge ∷ acknowledges) index bus) bus end others
  goes-on test {end} next joins =
      let whole = both here next joins in
      record {
        flags = whole.flags;
        clears =
            record {
              leads = ap (λ instants. perform messages instants bus) (unrolled false test) ∙ whole.clears.leads;
              is = ap (λ instants. cleared_over messages instants bus) (unrolled false test) ∙ whole.clears.is;
            };
        worth = whole.worth;
      }

-- all bytes: IFG of those that are in before the first of them
record BytesClear (messages : List (List ℕ)) (acknowledges : List ℕ) (index : ℕ) (bus : Bus) (carried : List ℕ)
    : Type 0 where
  end : Bus
  worthy : Worthy messages (bytes_script messages acknowledges index bus) bus end (ifg_of carried)

bytes-clear : (messages : List (List ℕ)) (acknowledges : List ℕ) (index : ℕ) (carried : List ℕ) (sent : ℕ)
    (more : List ℕ) (pause : Pause) (levels : List ℕ)
    → (fought : Contest messages carried (sent ∷ more) acknowledges) → length carried ≡ index
    → Between messages carried sent more fought pause
    → Everyone (λ acknowledge. acknowledge ≤ 1) acknowledges → length more < length acknowledges
    → BytesClear messages acknowledges index (paused messages pause carried levels) carried
bytes-clear messages [] index carried sent more pause levels fought at between ones enough = absurd (omega arith)
bytes-clear messages (zero ∷ acknowledges) index carried sent [] pause levels fought at between (also one ones)
    enough =
    record {
      end = _;
      worthy =
          stops-here messages 0 acknowledges index
          (carried-clears messages carried sent [] fought index 0 at one pause between levels)
          (all-sent messages (carried ++ sent ∷ []) (suc index) (after_byte (byte_of sent) false)
          (contest-on messages carried sent [] fought) (longer carried sent index at));
    }
bytes-clear messages (zero ∷ acknowledges) index carried sent (next ∷ more) pause levels fought at between
    (also one ones) enough =
    let fought-on = contest-on messages carried sent (next ∷ more) fought in
    let counted = longer carried sent index at in
    let later =
    bytes-clear messages acknowledges (suc index) (carried ++ sent ∷ []) next more (after_byte (byte_of sent) false)
    (levels ++ draw_events (sent_events sent 0)) fought-on counted tt ones (omega arith) in
    record {
      end = later.end;
      worthy =
          goes-on messages 0 acknowledges index
          (carried-clears messages carried sent (next ∷ more) fought index 0 at one pause between levels)
          (more-to-send messages (carried ++ sent ∷ []) (suc index) next more (after_byte (byte_of sent) false) fought-on
          counted)
          later.worthy
          (λ message. joined (is_in (against 0 carried message)) (is_in (against 0 (carried ++ sent ∷ []) message))
          ∙ ap bool_byte (still-in 0 carried (sent ∷ []) message));
    }
bytes-clear messages (suc zero ∷ acknowledges) index carried sent more pause levels fought at between (also one ones)
    enough =
    record {
      end = _;
      worthy =
          stops-here messages 1 acknowledges index
          (carried-clears messages carried sent more fought index 1 at one pause between levels) refl;
    }
bytes-clear messages (suc (suc acknowledge) ∷ acknowledges) index carried sent more pause levels fought at between
    (also one ones) enough =
    absurd (omega arith)

-- the script of the bytes performs them
bytes-performed : (messages : List (List ℕ)) (acknowledges : List ℕ) (index : ℕ) (bus : Bus)
    → perform messages (bytes_script messages acknowledges index bus) bus ≡ bytes messages acknowledges index bus
bytes-performed messages [] index bus = refl
bytes-performed messages (acknowledge ∷ acknowledges) index bus =
    perform-append messages turn (cond last [] rest) bus
    ∙ go last (bytes-performed messages acknowledges (suc index) after)
  where
    turn : List Instant
    turn = turn_of (restarting messages index bus.masters) index acknowledge

    after : Bus
    after = perform messages turn bus

    rest : List Instant
    rest = bytes_script messages acknowledges (suc index) after

    last : Bool
    last = eqb acknowledge 1 || through messages (suc index) after.masters

    go : (last : Bool) → perform messages rest after ≡ bytes messages acknowledges (suc index) after
        → perform messages (cond last [] rest) after ≡ cond last after (bytes messages acknowledges (suc index) after)
    go true later = refl
    go false later = later

-- both flags, and IFG again or not
all-along : (again : Bool) → bit_or 0x03 (bool_byte again) ≡ 0x03
all-along true = refl
all-along false = refl

-- the whole script
script-clears : (messages : List (List ℕ)) (acknowledges winner : List ℕ) → Contest messages [] winner acknowledges
    → Sendable acknowledges winner
    → Everyone (λ acknowledge. acknowledge ≤ 1) acknowledges
    → cleared_over messages (script messages acknowledges) (powered messages) ≡ map (λ message. 0x03) messages
script-clears messages acknowledges [] fought sendable bits = absurd (omega (arith, sendable.some))
script-clears messages acknowledges (sent ∷ more) fought sendable bits =
    ap (λ (bus : Bus). cleared_over messages
    (set_up ++ start ++ bytes_script messages acknowledges 0 bus ++ stop) (powered messages)) opens-with.leads
    ∙ (then messages
    (then messages opens-with sends (λ message. sending.worthy.worth message))
    (record {
      leads = refl;
      is =
          stop-clears messages (against 0 carried) ends_at.last ends_at.ninth (not ends_at.ninth)
          (level_at (after_byte ends_at.last ends_at.ninth)) ends_at.last levels (map byte_of carried)
          (winner-in messages (sent ∷ more) (carried_count (sent ∷ more) acknowledges) fought.sent);
    })
    (λ message. all-along (is_in (against 0 carried message)))
    ).is
  where
    carried : List ℕ
    carried = take (carried_count (sent ∷ more) acknowledges) (sent ∷ more)

    levels : List ℕ
    levels = 3 ∷ 1 ∷ draw_events (carried_events carried acknowledges)

    first : Bus
    first = paused messages (after_start 0) [] (3 ∷ 1 ∷ [])

    opens-with : Clears messages (set_up ++ start) (powered messages) first (λ message. 0x02)
    opens-with = started messages fought.sent

    ends_at : Carried (phases.bytes_turn messages acknowledges 0 first) messages carried levels
    ends_at =
        loop.carries messages acknowledges 0 [] sent more (after_start 0) (3 ∷ 1 ∷ []) fought refl sendable.first bits
        (omega (arith, sendable.answered))

    sending : BytesClear messages acknowledges 0 first []
    sending =
        bytes-clear messages acknowledges 0 [] sent more (after_start 0) (3 ∷ 1 ∷ []) fought refl sendable.first bits
        (omega (arith, sendable.answered))

    sends : Clears messages (bytes_script messages acknowledges 0 first) first
        (paused messages (after_byte ends_at.last ends_at.ninth) carried levels) sending.worthy.flags
    sends =
        record {
          leads =
              bytes-performed messages acknowledges 0 first ∙ phases.bytes-is messages acknowledges 0 first
              ∙ ends_at.is;
          is = sending.worthy.clears.is;
        }

-- over a run each master's writes clear STTIFG and IFG, and neither AL nor STP
pub run-clears : (messages : List (List ℕ)) (acknowledges : List ℕ) → Arbitration messages acknowledges
    → cleared_by messages acknowledges ≡ map (λ message. 0x03) messages
unfolding cleared_by
run-clears messages acknowledges given =
    script-clears messages acknowledges (least messages) (contest messages given) (least-sendable messages given)
    given.bits
