-- The order of the instants.
use Rattle.std.specs.Prelude.{ℕ, ◌+◌, Bool, cond, true, false, ◌&&◌, ◌||◌, List, eqb, ltb, length, get_or, set}
use Rattle.arbitration_pass.specs.declared.instants.Effect.{Effect}
use Rattle.arbitration_pass.specs.declared.instants.Effect.TheVariants.{Nothing, Begin, Release, Acknowledge}
use Rattle.arbitration_pass.specs.declared.instants.Effect.TheVariants.{Record, Bit, Settle}
use Rattle.arbitration_pass.specs.declared.instants.Instant.{Instant}
use Rattle.arbitration_pass.specs.declared.instants.Part.{Part}
use Rattle.arbitration_pass.specs.declared.instants.Part.TheVariants.{Entry, Opening, Restart, Byte, Closing}
use Rattle.arbitration_pass.specs.declared.pass.Pass.{Pass}
use Rattle.arbitration_pass.specs.declared.pass.Seen.{Seen}
use Rattle.arbitration_run.specs.declared.sequencer.Sequencer.{Sequencer}
use Rattle.arbitration_run.specs.declared.wire.Wire.{Wire}
use Rattle.arbitration_pass.specs.Instants.{instant, last}
use Rattle.arbitration_members.specs.Members as members
use Rattle.arbitration_members.specs.Rows.{column_of}
use Rattle.arbitration_run.specs.Wire as wire

-- before power-up, with messages of these lengths
unfoldable pub first : List ℕ → Sequencer
first lengths =
    record {
      running = true;
      part = Entry;
      at = 0;
      loading = false;
      index = 0;
      sent = 0;
      wire = record { scl = false; sda = false; pull = false; level = 0; byte = 0; recorded = 0 };
      members = members.entered lengths;
    }

abbrev pub instant_of : Sequencer → Instant
instant_of sequencer = instant sequencer.part sequencer.at

unfoldable pub pass_of : Sequencer → Pass
pass_of sequencer =
    record {
      operation = (instant_of sequencer).operation;
      ticks = (instant_of sequencer).ticks;
      level = wire.shown sequencer.wire;
      contending = sequencer.members.contending;
      lost = sequencer.members.lost;
      bytes = sequencer.members.bytes;
    }

-- 0 pulls, 1 leaves SDA high
abbrev pub acknowledge_at : List ℕ → ℕ → ℕ
acknowledge_at acknowledges index = get_or acknowledges index 0

-- what the instant does on the bus
abbrev pub wire_after : ℕ → List ℕ → Seen → Sequencer → Wire
wire_after room acknowledges seen sequencer =
    wire.affected room (instant_of sequencer).effect (eqb (acknowledge_at acknowledges sequencer.index) 0)
    (wire.saw (instant_of sequencer).operation seen sequencer.wire)

-- a byte that is complete with its last bit is carried, where there is room
abbrev pub sent_after : Effect → ℕ → ℕ → ℕ
sent_after Nothing room sent = sent
sent_after Begin room sent = sent
sent_after Release room sent = sent
sent_after Acknowledge room sent = sent
sent_after Record room sent = sent
sent_after (Bit bit) room sent = cond (eqb bit 7 && ltb sent room) (sent + 1) sent
sent_after Settle room sent = sent

abbrev pub carried_by : Effect → ℕ → ℕ → List ℕ → List ℕ
carried_by Nothing sent byte carried = carried
carried_by Begin sent byte carried = carried
carried_by Release sent byte carried = carried
carried_by Acknowledge sent byte carried = carried
carried_by Record sent byte carried = carried
carried_by (Bit bit) sent byte carried = cond (eqb bit 7) (set carried sent byte) carried
carried_by Settle sent byte carried = carried

unfoldable pub affected : ℕ → ℕ → List ℕ → Seen → Sequencer → Sequencer
affected carried_room level_room acknowledges seen sequencer =
    record {
      running = sequencer.running;
      part = sequencer.part;
      at = sequencer.at;
      loading = sequencer.loading;
      index = sequencer.index;
      sent = sent_after (instant_of sequencer).effect carried_room sequencer.sent;
      wire = wire_after level_room acknowledges seen sequencer;
      members = members.affected (instant_of sequencer).effect seen.al sequencer.index sequencer.members;
    }

unfoldable pub carried_after : List ℕ → Seen → Sequencer → List ℕ → List ℕ
carried_after acknowledges seen sequencer carried =
    carried_by (instant_of sequencer).effect sequencer.sent (wire_after 0 acknowledges seen sequencer).byte carried

unfoldable pub levels_after : Seen → Sequencer → List ℕ → List ℕ
levels_after seen sequencer levels =
    wire.recorded_in (instant_of sequencer).effect (wire.saw (instant_of sequencer).operation seen sequencer.wire)
    levels

-- each master takes the byte of what it sends
unfoldable pub taking : List ℕ → Sequencer → Sequencer
taking column sequencer =
    record {
      running = sequencer.running;
      part = sequencer.part;
      at = sequencer.at;
      loading = false;
      index = sequencer.index;
      sent = sequencer.sent;
      wire = sequencer.wire;
      members = members.loaded column sequencer.members;
    }

-- the sequencer at another instant
abbrev pub placed : Part → ℕ → Bool → ℕ → Sequencer → Sequencer
placed part at loading index sequencer =
    record {
      running = sequencer.running;
      part = part;
      at = at;
      loading = loading;
      index = index;
      sent = sequencer.sent;
      wire = sequencer.wire;
      members = sequencer.members;
    }

abbrev pub entering : Part → Bool → Sequencer → Sequencer
entering part loading sequencer = placed part 0 loading sequencer.index sequencer

-- each takes the byte of its row at the index; where someone restarts there, the restart comes first
unfoldable pub loaded : List (List ℕ) → Sequencer → Sequencer
loaded rows sequencer =
    let column = column_of rows sequencer.index in
    cond (members.restarting column sequencer.members) (entering Restart false (taking column sequencer))
    (taking column sequencer)

-- the byte at the index is next, or step 4 where there is none
unfoldable pub opened : List ℕ → Sequencer → Sequencer
opened acknowledges sequencer =
    cond (ltb sequencer.index (length acknowledges)) (entering Byte true sequencer)
    (entering Closing false sequencer)

-- after the last instant of a byte: step 4 where it is not acknowledged or someone is through
unfoldable pub decided : List ℕ → Sequencer → Sequencer
decided acknowledges sequencer =
    let sent = placed sequencer.part sequencer.at sequencer.loading (sequencer.index + 1) sequencer in
    cond (ltb sequencer.index (length acknowledges))
    (cond
    (eqb (acknowledge_at acknowledges sequencer.index) 1
    || members.through (sequencer.index + 1) sequencer.members)
    (entering Closing false sent) (opened acknowledges sent))
    (entering Closing false sequencer)

abbrev pub stopped : Sequencer → Sequencer
stopped sequencer =
    record {
      running = false;
      part = sequencer.part;
      at = sequencer.at;
      loading = sequencer.loading;
      index = sequencer.index;
      sent = sequencer.sent;
      wire = sequencer.wire;
      members = sequencer.members;
    }

-- after the last instant of a part
abbrev pub parted_from : Part → List ℕ → Sequencer → Sequencer
parted_from Entry acknowledges sequencer = entering Opening false sequencer
parted_from Opening acknowledges sequencer = opened acknowledges sequencer
parted_from Restart acknowledges sequencer = entering Byte false sequencer
parted_from Byte acknowledges sequencer = decided acknowledges sequencer
parted_from Closing acknowledges sequencer = stopped sequencer

unfoldable pub parted : List ℕ → Sequencer → Sequencer
parted acknowledges sequencer = parted_from sequencer.part acknowledges sequencer

unfoldable pub advanced : List ℕ → Sequencer → Sequencer
advanced acknowledges sequencer =
    cond (ltb sequencer.at (last sequencer.part))
    (placed sequencer.part (sequencer.at + 1) sequencer.loading sequencer.index sequencer)
    (parted acknowledges sequencer)

-- the sequencer after its pass
unfoldable pub turned : ℕ → ℕ → List ℕ → Seen → Sequencer → Sequencer
turned carried_room level_room acknowledges seen sequencer =
    advanced acknowledges (affected carried_room level_room acknowledges seen sequencer)
