-- The run by 01's steps 1 to 4: each step is a script of instants, and the bus performs them one after the other.
use Rattle.std.specs.Prelude.{ℕ, zero, suc, ◌+◌, ◌*◌, Bool, cond, false, not, ◌&&◌, ◌||◌, eqb, leb, length}
use mathlib.Core.List.{List, [], ◌∷◌, ◌++◌, map, zip_with}
use mir.Val.{bool_byte}
use Rattle.bits.specs.Positions.{on}
use Rattle.laws.specs.Search.{any}
use Rattle.levels.specs.Levels.{level_of, sda}
use Rattle.usi_registers.specs.Registers.{USICTL0, USICTL1, USICKCTL, USICNT, USISRL, USIAL}
use Rattle.usi.specs.Module.{pulls_scl, pulls_sda}
use Rattle.arbitration_rules.specs.Masters.{Master, entering, Who, everybody, still_in, beaten, losers}
use Rattle.arbitration_rules.specs.Masters.{Operation, Tick, Sample, Write, applied, refused_at, judged, settled}
use Rattle.arbitration_rules.specs.Outcome.{Fate, Outcome, restarts, sent_at, byte_at}

-- The bus in a run: its masters, whether the acknowledge pulls SDA, the level sampled last, what of a byte has been
-- taken, the recorded levels and the carried bytes.
pub record Bus : Type 0 where
  pub masters : List Master
  pub pull : Bool
  pub level : ℕ
  pub byte : ℕ
  pub levels : List ℕ
  pub carried : List ℕ

-- What happens at one instant.
pub data Instant : Type 0 where
  -- those meant make one step of their module
  does : Who → Operation → Instant
  -- those still in write USISRL, each the byte of its message at an index
  loads : ℕ → Instant
  -- a sample: every module is given the level of the wire
  samples : Instant
  -- that level is recorded
  records : Instant
  -- the acknowledge's pull begins or ends
  pulls : Bool → Instant
  -- who has AL set has lost, at this position
  judges : ℕ → Instant
  -- the bit on the wire joins the byte
  takes : Instant
  -- the byte is carried
  carries : Instant
  -- the byte in which someone lost is over
  settles : Instant

-- The wire is high unless someone pulls it. A level byte is SCL + 2·SDA.
unfoldable pub wire : Bool → List Master → ℕ
wire pull masters =
    level_of
    (not (any (λ (master : Master). pulls_scl master.usi) masters))
    (not (pull || any (λ (master : Master). pulls_sda master.usi) masters))

-- The bus with other masters, and with the level that they were given.
abbrev pub with_masters : List Master → Bus → Bus
with_masters masters bus =
    record {
      masters = masters;
      pull = bus.pull;
      level = bus.level;
      byte = bus.byte;
      levels = bus.levels;
      carried = bus.carried;
    }

abbrev pub sampled_at : ℕ → Bus → Bus
sampled_at level bus =
    record {
      masters = map (applied everybody (Sample level)) bus.masters;
      pull = bus.pull;
      level = level;
      byte = bus.byte;
      levels = bus.levels;
      carried = bus.carried;
    }

-- Each instant. A carried byte's bits, most significant first, are SDA in the second recorded sample of each of its
-- eight bit turns.
unfoldable pub performed : List (List ℕ) → Instant → Bus → Bus
performed messages (does who operation) bus = with_masters (map (applied who operation) bus.masters) bus
performed messages (loads index) bus =
    record {
      masters =
          zip_with (λ master message. applied still_in (Write USISRL (byte_at index message)) master) bus.masters
          messages;
      pull = bus.pull;
      level = bus.level;
      byte = 0;
      levels = bus.levels;
      carried = bus.carried;
    }
performed messages samples bus = sampled_at (wire bus.pull bus.masters) bus
performed messages records bus =
    record {
      masters = bus.masters;
      pull = bus.pull;
      level = bus.level;
      byte = bus.byte;
      levels = bus.levels ++ bus.level ∷ [];
      carried = bus.carried;
    }
performed messages (pulls pull) bus =
    record {
      masters = bus.masters;
      pull = pull;
      level = bus.level;
      byte = bus.byte;
      levels = bus.levels;
      carried = bus.carried;
    }
performed messages (judges position) bus = with_masters (map (judged position) bus.masters) bus
performed messages takes bus =
    record {
      masters = bus.masters;
      pull = bus.pull;
      level = bus.level;
      byte = 2 * bus.byte + bool_byte (sda bus.level);
      levels = bus.levels;
      carried = bus.carried;
    }
performed messages carries bus =
    record {
      masters = bus.masters;
      pull = bus.pull;
      level = bus.level;
      byte = bus.byte;
      levels = bus.levels;
      carried = bus.carried ++ bus.byte ∷ [];
    }
performed messages settles bus = with_masters (map settled bus.masters) bus

-- A script: one instant after the other.
abbrev pub perform : List (List ℕ) → List Instant → Bus → Bus
perform messages [] bus = bus
perform messages (instant ∷ instants) bus = perform messages instants (performed messages instant bus)

-- Registers written by those meant, each as address and value.
abbrev pub writes : Who → List (ℕ × ℕ) → List Instant
writes who [] = []
writes who (write ∷ more) = does who (Write write.0 write.1) ∷ writes who more

-- All modules start from power-up, then write USICKCTL=22h, USICTL1=41h, USICTL0=C8h. Nothing is pulled or recorded
-- yet.
abbrev pub powered : List (List ℕ) → Bus
powered messages =
    record {
      masters = map (λ message. entering) messages;
      pull = false;
      level = 0;
      byte = 0;
      levels = [];
      carried = [];
    }

abbrev pub set_up : List Instant
set_up = writes still_in ((USICKCTL, 0x22) ∷ (USICTL1, 0x41) ∷ (USICTL0, 0xc8) ∷ [])

-- Step 1: sample (recorded). All write USISRL=0, USICTL0=CEh, CAh; sample (recorded: START); write USICTL1=41h.
abbrev pub start : List Instant
start =
    samples ∷ records ∷ []
    ++ writes still_in ((USISRL, 0x00) ∷ (USICTL0, 0xce) ∷ (USICTL0, 0xca) ∷ [])
    ++ samples ∷ records ∷ []
    ++ writes still_in ((USICTL1, 0x41) ∷ [])

-- Step 3, a bit turn: all tick; sample; sample again (recorded); all tick; sample (recorded). The pull starts
-- between the two low samples of its own bit turn and ends between those of the next one.
abbrev pub bit_turn : Bool → List Instant
bit_turn pull =
    does everybody Tick ∷ samples ∷ pulls pull ∷ samples ∷ records ∷ does everybody Tick ∷ samples ∷ records ∷ []

-- Step 2, each byte: masters still in write USISRL (the message's byte at that index), USICTL0=CAh, USICNT=08h,
-- then eight bit turns.
abbrev pub data_turns : ℕ → ℕ → List Instant
data_turns zero position = []
data_turns (suc count) position = bit_turn false ++ judges position ∷ takes ∷ data_turns count (suc position)

-- A master with AL set then writes USICTL0=C0h, USICNT=80h. The rest write USICTL0=C8h, USICNT=01h; one bit turn in
-- which the acknowledge is pulled (0) or left high (1).
abbrev pub byte_turn : ℕ → ℕ → List Instant
byte_turn index acknowledge =
    loads index ∷ writes still_in ((USICTL0, 0xca) ∷ (USICNT, 0x08) ∷ [])
    ++ data_turns 8 (9 * index)
    ++ carries ∷ writes beaten ((USICTL0, 0xc0) ∷ (USICNT, 0x80) ∷ [])
    ++ settles ∷ writes still_in ((USICTL0, 0xc8) ∷ (USICNT, 0x01) ∷ [])
    ++ bit_turn (eqb acknowledge 0)

-- Step 4: those still in write USICTL0=CAh, USISRL=00h, USICNT=01h; a bit turn; USISRL=FFh, USICTL0=CEh; sample
-- (recorded: STOP); USICTL0=C8h.
abbrev pub stop : List Instant
stop =
    writes still_in ((USICTL0, 0xca) ∷ (USISRL, 0x00) ∷ (USICNT, 0x01) ∷ [])
    ++ bit_turn false
    ++ writes still_in ((USISRL, 0xff) ∷ (USICTL0, 0xce) ∷ [])
    ++ samples ∷ records ∷ []
    ++ writes still_in ((USICTL0, 0xc8) ∷ [])

-- A restart (02: Ask 4): those still in write USISRL=FFh, USICTL0=CAh, USICNT=01h; a bit turn; USISRL=0, USICTL0=CEh,
-- CAh; sample (recorded: START); USICTL1=41h. Each loser then writes USICTL1=49h, USICNT=80h.
abbrev pub restart : List Instant
restart =
    writes still_in ((USISRL, 0xff) ∷ (USICTL0, 0xca) ∷ (USICNT, 0x01) ∷ [])
    ++ bit_turn false
    ++ writes still_in ((USISRL, 0x00) ∷ (USICTL0, 0xce) ∷ (USICTL0, 0xca) ∷ [])
    ++ samples ∷ records ∷ []
    ++ writes still_in ((USICTL1, 0x41) ∷ [])
    ++ writes losers ((USICTL1, 0x49) ∷ (USICNT, 0x80) ∷ [])

-- Someone still in has sent all of its message; someone still in has a restart next.
unfoldable pub through : List (List ℕ) → ℕ → List Master → Bool
through messages sent masters =
    any (λ (done : Bool). done)
    (zip_with (λ (master : Master) message. master.contending && leb (length message) sent) masters messages)

unfoldable pub restarting : List (List ℕ) → ℕ → List Master → Bool
restarting messages sent masters =
    any (λ (next : Bool). next)
    (zip_with (λ (master : Master) message. master.contending && restarts (sent_at sent message)) masters messages)

-- A byte, with the restart that stands before it.
abbrev pub turn_of : Bool → ℕ → ℕ → List Instant
turn_of again index acknowledge = cond again restart [] ++ byte_turn index acknowledge

-- Step 2 until answer 1 or the last byte. Free: what is done where those still in do not all go on alike (one ends its
-- message or restarts, another does not); refusal 16 shuts that out. Here the first STOP ends the run, and else a restart
-- is everybody's.
abbrev pub bytes : List (List ℕ) → List ℕ → ℕ → Bus → Bus
bytes messages [] index bus = bus
bytes messages (acknowledge ∷ acknowledges) index bus =
    let after = perform messages (turn_of (restarting messages index bus.masters) index acknowledge) bus in
    let rest = bytes messages acknowledges (suc index) after in
    cond (eqb acknowledge 1 || through messages (suc index) after.masters) after rest

-- Steps 1 to 4.
unfoldable pub run : List (List ℕ) → List ℕ → Bus
run messages acknowledges =
    perform messages stop
    (bytes messages acknowledges 0 (perform messages (set_up ++ start) (powered messages)))

-- All instants of a run, and the refusal numbers of the steps that the modules make in them (0: not refused).
abbrev pub bytes_script : List (List ℕ) → List ℕ → ℕ → Bus → List Instant
bytes_script messages [] index bus = []
bytes_script messages (acknowledge ∷ acknowledges) index bus =
    let turn = turn_of (restarting messages index bus.masters) index acknowledge in
    let after = perform messages turn bus in
    let rest = bytes_script messages acknowledges (suc index) after in
    turn
    ++ cond (eqb acknowledge 1 || through messages (suc index) after.masters) [] rest

abbrev pub script : List (List ℕ) → List ℕ → List Instant
script messages acknowledges =
    set_up ++ start
    ++ bytes_script messages acknowledges 0 (perform messages (set_up ++ start) (powered messages))
    ++ stop

unfoldable pub refused_in : List (List ℕ) → Instant → Bus → List ℕ
refused_in messages (does who operation) bus = map (refused_at who operation) bus.masters
refused_in messages (loads index) bus =
    zip_with (λ master message. refused_at still_in (Write USISRL (byte_at index message)) master) bus.masters messages
refused_in messages samples bus =
    map (refused_at everybody (Sample (wire bus.pull bus.masters))) bus.masters
refused_in messages records bus = []
refused_in messages (pulls pull) bus = []
refused_in messages (judges position) bus = []
refused_in messages takes bus = []
refused_in messages carries bus = []
refused_in messages settles bus = []

abbrev pub refusals : List (List ℕ) → List Instant → Bus → List ℕ
refusals messages [] bus = []
refusals messages (instant ∷ instants) bus =
    refused_in messages instant bus ++ refusals messages instants (performed messages instant bus)

-- What demand 3 compares of a run; of the final modules only AL.
abbrev pub fate_of : Master → Fate
fate_of master =
    record {
      contending = master.contending;
      position = master.position;
      arbitration_lost = on master.usi.usictl1 USIAL;
    }

unfoldable pub observed : Bus → Outcome
observed bus =
    record {
      count = length bus.carried;
      carried = bus.carried;
      levels = bus.levels;
      fates = map fate_of bus.masters;
    }
