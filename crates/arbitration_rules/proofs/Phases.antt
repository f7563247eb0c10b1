-- The scripts of a run as functions on the bus, and the run as these.
use Prim.Native.Nat.{ℕ, zero, suc, ◌+◌, ◌*◌}
use mathlib.Core.Path.{◌≡◌, refl, ap, ◌∙◌}
use mathlib.Core.Bool.{Bool, cond, true, false, ◌||◌}
use mathlib.Core.List.{List, [], ◌∷◌, ◌++◌, map, zip_with}
use mir.Val.{bool_byte}
use lib.Dec.{eqb}
use Rattle.levels.specs.Levels.{sda}
use Rattle.usi_registers.specs.Registers.{USICTL0, USICTL1, USICKCTL, USICNT, USISRL}
use Rattle.arbitration_rules.specs.Masters.{Master, Who, everybody, still_in, beaten, losers, Operation}
use Rattle.arbitration_rules.specs.Masters.{Tick, Write, applied, judged, settled}
use Rattle.arbitration_rules.specs.Outcome.{byte_at}
use Rattle.arbitration_rules.specs.Run as script
use Rattle.arbitration_rules.specs.Run.{Bus, Instant, wire, with_masters, sampled_at, performed, perform, powered}
use Rattle.arbitration_rules.specs.Run.{through, restarting, bytes, run}

-- one operation of those meant
abbrev pub every : Who → Operation → Bus → Bus
every who operation bus = with_masters (map (applied who operation) bus.masters) bus

-- a register written by a master still in, and registers written one after the other
abbrev pub written : ℕ → ℕ → Master → Master
written address value master = applied still_in (Write address value) master

abbrev pub writes_by : Who → List (ℕ × ℕ) → Bus → Bus
writes_by who [] bus = bus
writes_by who (write ∷ more) bus = writes_by who more (every who (Write write.0 write.1) bus)

abbrev pub writes : List (ℕ × ℕ) → Bus → Bus
writes list bus = writes_by still_in list bus

unfoldable pub sampled : Bus → Bus
sampled bus = sampled_at (wire bus.pull bus.masters) bus

abbrev pub noted : Bus → Bus
noted bus =
    record {
      masters = bus.masters;
      pull = bus.pull;
      level = bus.level;
      byte = bus.byte;
      levels = bus.levels ++ bus.level ∷ [];
      carried = bus.carried;
    }

unfoldable pub recorded : Bus → Bus
recorded bus = noted (sampled bus)

abbrev pub pulled : Bool → Bus → Bus
pulled pull bus =
    record {
      masters = bus.masters;
      pull = pull;
      level = bus.level;
      byte = bus.byte;
      levels = bus.levels;
      carried = bus.carried;
    }

unfoldable pub bit_turn : Bool → Bus → Bus
bit_turn pull bus = recorded (every everybody Tick (recorded (pulled pull (sampled (every everybody Tick bus)))))

abbrev pub taken : Bus → Bus
taken bus =
    record {
      masters = bus.masters;
      pull = bus.pull;
      level = bus.level;
      byte = 2 * bus.byte + bool_byte (sda bus.level);
      levels = bus.levels;
      carried = bus.carried;
    }

unfoldable pub data_turn : ℕ → Bus → Bus
data_turn position bus = taken (with_masters (map (judged position) (bit_turn false bus).masters) (bit_turn false bus))

abbrev pub data_turns : ℕ → ℕ → Bus → Bus
data_turns zero position bus = bus
data_turns (suc count) position bus = data_turns count (suc position) (data_turn position bus)

unfoldable pub loaded : List (List ℕ) → ℕ → Bus → Bus
loaded messages index bus =
    record {
      masters = zip_with (λ master message. written USISRL (byte_at index message) master) bus.masters messages;
      pull = bus.pull;
      level = bus.level;
      byte = 0;
      levels = bus.levels;
      carried = bus.carried;
    }

unfoldable pub opened : List (List ℕ) → ℕ → Bus → Bus
opened messages index bus = writes ((USICTL0, 0xca) ∷ (USICNT, 0x08) ∷ []) (loaded messages index bus)

-- who lost in a byte withdraws after it
abbrev pub withdrawn : Master → Master
withdrawn master = settled (applied beaten (Write USICNT 0x80) (applied beaten (Write USICTL0 0xc0) master))

abbrev pub byte_taken : Bus → Bus
byte_taken bus =
    record {
      masters = bus.masters;
      pull = bus.pull;
      level = bus.level;
      byte = bus.byte;
      levels = bus.levels;
      carried = bus.carried ++ bus.byte ∷ [];
    }

abbrev withdraws : Bus → Bus
withdraws bus =
    with_masters
    (map settled
    (map (applied beaten (Write USICNT 0x80)) (map (applied beaten (Write USICTL0 0xc0)) bus.masters)))
    bus

unfoldable pub closed : Bus → Bus
closed bus = writes ((USICTL0, 0xc8) ∷ (USICNT, 0x01) ∷ []) (withdraws (byte_taken bus))

unfoldable pub byte_turn : List (List ℕ) → ℕ → ℕ → Bus → Bus
byte_turn messages index acknowledge bus =
    bit_turn (eqb acknowledge 0) (closed (data_turns 8 (9 * index) (opened messages index bus)))

-- a restart, and a byte with the restart before it
unfoldable pub restarted : Bus → Bus
restarted bus =
    writes_by losers ((USICTL1, 0x49) ∷ (USICNT, 0x80) ∷ [])
    (writes ((USICTL1, 0x41) ∷ [])
    (recorded
    (writes ((USISRL, 0x00) ∷ (USICTL0, 0xce) ∷ (USICTL0, 0xca) ∷ [])
    (bit_turn false (writes ((USISRL, 0xff) ∷ (USICTL0, 0xca) ∷ (USICNT, 0x01) ∷ []) bus)))))

abbrev pub turn_of : Bool → List (List ℕ) → ℕ → ℕ → Bus → Bus
turn_of again messages index acknowledge bus =
    byte_turn messages index acknowledge (cond again (restarted bus) bus)

abbrev pub bytes_turn : List (List ℕ) → List ℕ → ℕ → Bus → Bus
bytes_turn messages [] index bus = bus
bytes_turn messages (acknowledge ∷ acknowledges) index bus =
    let after = turn_of (restarting messages index bus.masters) messages index acknowledge bus in
    let rest = bytes_turn messages acknowledges (suc index) after in
    cond (eqb acknowledge 1 || through messages (suc index) after.masters) after rest

unfoldable pub prepared : List (List ℕ) → Bus
prepared messages = writes ((USICKCTL, 0x22) ∷ (USICTL1, 0x41) ∷ (USICTL0, 0xc8) ∷ []) (powered messages)

unfoldable pub started : Bus → Bus
started bus =
    writes ((USICTL1, 0x41) ∷ [])
    (recorded (writes ((USISRL, 0x00) ∷ (USICTL0, 0xce) ∷ (USICTL0, 0xca) ∷ []) (recorded bus)))

unfoldable pub stopped : Bus → Bus
stopped bus =
    writes ((USICTL0, 0xc8) ∷ [])
    (recorded
    (writes ((USISRL, 0xff) ∷ (USICTL0, 0xce) ∷ [])
    (bit_turn false (writes ((USICTL0, 0xca) ∷ (USISRL, 0x00) ∷ (USICNT, 0x01) ∷ []) bus))))

-- one script after another
pub perform-append : (messages : List (List ℕ)) (instants more : List Instant) (bus : Bus)
    → perform messages (instants ++ more) bus ≡ perform messages more (perform messages instants bus)
perform-append messages [] more bus = refl
perform-append messages (instant ∷ instants) more bus =
    perform-append messages instants more (performed messages instant bus)

module _ (messages : List (List ℕ)) where
  pub bit-turn-is : (pull : Bool) (bus : Bus) → perform messages (script.bit_turn pull) bus ≡ bit_turn pull bus
  unfolding performed bit_turn recorded sampled
  bit-turn-is pull bus = refl

  pub data-turns-is : (count position : ℕ) (bus : Bus)
      → perform messages (script.data_turns count position) bus ≡ data_turns count position bus
  unfolding performed bit_turn recorded sampled data_turn
  data-turns-is zero position bus = refl
  data-turns-is (suc count) position bus = data-turns-is count (suc position) (data_turn position bus)

  pub start_is : perform messages (script.set_up ++ script.start) (powered messages) ≡ started (prepared messages)
  unfolding performed recorded sampled started prepared
  start_is = refl

  pub stop_is : (bus : Bus) → perform messages script.stop bus ≡ stopped bus
  unfolding performed bit_turn recorded sampled stopped
  stop_is bus = refl

  pub byte-turn-is : (index acknowledge : ℕ) (bus : Bus)
      → perform messages (script.byte_turn index acknowledge) bus ≡ byte_turn messages index acknowledge bus
  unfolding performed bit_turn recorded sampled data_turn loaded opened closed byte_turn
  byte-turn-is index acknowledge bus = refl

  pub restart-is : (bus : Bus) → perform messages script.restart bus ≡ restarted bus
  unfolding performed bit_turn recorded sampled restarted
  restart-is bus = refl

  pub turn_is : (again : Bool) (index acknowledge : ℕ) (bus : Bus)
      → perform messages (script.turn_of again index acknowledge) bus ≡ turn_of again messages index acknowledge bus
  turn_is true index acknowledge bus =
      perform-append messages script.restart (script.byte_turn index acknowledge) bus
      ∙ ap (perform messages (script.byte_turn index acknowledge)) (restart-is bus)
      ∙ byte-turn-is index acknowledge (restarted bus)
  turn_is false index acknowledge bus = byte-turn-is index acknowledge bus

  pub bytes-is : (acknowledges : List ℕ) (index : ℕ) (bus : Bus)
      → bytes messages acknowledges index bus ≡ bytes_turn messages acknowledges index bus
  bytes-is [] index bus = refl
  bytes-is (acknowledge ∷ acknowledges) index bus =
      ap (λ (after : Bus).
      cond (eqb acknowledge 1 || through messages (suc index) after.masters) after
      (bytes messages acknowledges (suc index) after)) (turn_is again index acknowledge bus)
      ∙ ap (λ (rest : Bus).
      cond (eqb acknowledge 1 || through messages (suc index) next.masters) next rest)
      (bytes-is acknowledges (suc index) next)
    where
      again : Bool
      again = restarting messages index bus.masters

      next : Bus
      next = turn_of again messages index acknowledge bus

  pub run_is : (acknowledges : List ℕ)
      → run messages acknowledges ≡ stopped (bytes_turn messages acknowledges 0 (started (prepared messages)))
  unfolding run
  run_is acknowledges =
      stop_is (bytes messages acknowledges 0 (perform messages (script.set_up ++ script.start) (powered messages)))
      ∙ ap stopped
      (ap (bytes messages acknowledges 0) start_is ∙ bytes-is acknowledges 0 (started (prepared messages)))
