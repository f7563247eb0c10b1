-- A turn before its pass, and the bytes taken from the rows for it.
use Prim.Native.Nat.{ℕ, ◌-◌, ◌<◌, ◌≤◌}
use mathlib.Core.Path.{◌≡◌, refl, sym, ap, ◌∙◌}
use mathlib.Core.Bool.{Bool, true, false, cond, false≢true}
use mathlib.Core.Logic.{◌⊎◌, inl, inr}
use mathlib.Core.List.{List, ◌++◌, map}
use native.Mathlib.Omega.{arith}
use lib.ListN.{length, take, replicate, length-take}
use lib.Seq.{drop-cons, take_all}
use Rattle.usi.specs.declared.Usi.{Usi}
use Rattle.arbitration_rules.specs.Limits.{max_masters, max_length}
use Rattle.arbitration_rules.specs.Outcome.{restarts, sent_at, byte_at}
use Rattle.arbitration_rules.specs.Reply.{cut}
use Rattle.arbitration_rules.specs.Run as script
use Rattle.arbitration_rules.specs.Run.{Bus, perform, restart, byte_turn, stop, restarting, run}
use Rattle.arbitration_rules.proofs.Cut.{cut-count}
use Rattle.arbitration_rules.proofs.Phases.{perform-append}
use Rattle.arbitration_pass.specs.declared.instants.Part.{Part}
use Rattle.arbitration_pass.specs.declared.instants.Part.TheVariants.{Entry, Opening, Restart, Byte, Closing}
use Rattle.arbitration_members.specs.declared.members.Members.{Members}
use Rattle.arbitration_run.specs.declared.sequencer.Sequencer.{Sequencer}
use Rattle.arbitration_pass.specs.Instants.{last}
use Rattle.arbitration_members.specs.Members as members
use Rattle.arbitration_members.specs.Rows.{rows_of, column_of}
use Rattle.arbitration_run.specs.Sequence as sequence
use Rattle.arbitration_run.specs.Sequence.{acknowledge_at}
use Rattle.arbitration_turns.specs.Turns.{Turn}
use Rattle.arbitration_turns.specs.Turns as turns
use Rattle.arbitration_turns.proofs.Pieces.{bus_at}
use Rattle.arbitration_turns.proofs.Allowed.{Inside}
use Rattle.arbitration_turns.proofs.Kept.{Kept}
use Rattle.arbitration_turns.proofs.Bits.{bound, bits_of}
use Rattle.arbitration_turns.proofs.Standing.{bytes_from, after_byte, rest_at}
use Rattle.arbitration_turns.proofs.Columns.{column, of-rows, bytes-of-rows, column-size}
use Rattle.arbitration_turns.proofs.Counted.{someone_of, someone-view}

-- What a run starts from: messages that are sent one after the other, each of its length, the acknowledges, the table
-- and the two buffers.
pub record Given : Type 0 where
  pub sent : List ℕ
  pub lengths : List ℕ
  pub acknowledges : List ℕ
  pub few : length lengths ≤ max_masters
  pub short : length acknowledges ≤ max_length
  pub whole : map length (cut lengths sent) ≡ lengths
  pub table₀ : List Usi
  pub enough : length lengths ≤ length table₀
  pub carried₀ : List ℕ
  pub levels₀ : List ℕ

abbrev pub messages_of : Given → List (List ℕ)
messages_of given = cut given.lengths given.sent

module _ (given : Given) where
  abbrev messages : List (List ℕ)
  messages = messages_of given

  abbrev acknowledges : List ℕ
  acknowledges = given.acknowledges

  abbrev count : ℕ
  count = length given.lengths

  abbrev rows : List (List ℕ)
  rows = rows_of messages

  pub many : length messages ≡ count
  many = cut-count given.lengths given.sent

  abbrev pub bus_of : Turn → Bus
  bus_of t =
      bus_at count t.table t.sequencer.members t.sequencer.wire t.sequencer.sent t.carried
      t.levels

  abbrev pub KeptOf : Turn → Type 0
  KeptOf t =
      Kept count given.table₀ (members.sizes_of given.lengths) given.carried₀ given.levels₀
      t.sequencer.members t.sequencer.wire t.sequencer.sent t.table t.carried t.levels

  -- a byte on the bus has an acknowledge, and is taken from the rows before it is sent
  abbrev pub Early : Part → ℕ → Type 0
  Early Entry index = Unit {0}
  Early Opening index = Unit {0}
  Early Restart index = index < length acknowledges
  Early Byte index = index < length acknowledges
  Early Closing index = Unit {0}

  abbrev pub Loaded : Part → ℕ → Members → Type 0
  Loaded Entry index stood = Unit {0}
  Loaded Opening index stood = Unit {0}
  Loaded Restart index stood = stood.bytes ≡ column (byte_at index) 0 messages
  Loaded Byte index stood = stood.bytes ≡ column (byte_at index) 0 messages
  Loaded Closing index stood = Unit {0}

  -- a turn before its pass
  pub record Standing (t : Turn) : Type 0 where
    pub running : t.sequencer.running ≡ true
    pub ready : t.sequencer.loading ≡ false
    pub inside : Inside t.sequencer.part
    pub within : t.sequencer.at ≤ last t.sequencer.part
    pub early : Early t.sequencer.part t.sequencer.index
    pub loaded : Loaded t.sequencer.part t.sequencer.index t.sequencer.members
    pub small : t.sequencer.wire.byte < bound (bits_of t.sequencer.part t.sequencer.at)
    pub kept : KeptOf t
    pub same : rest_at messages acknowledges t.sequencer.part t.sequencer.at t.sequencer.index (bus_of t)
        ≡ run messages acknowledges

  -- a turn before a byte is taken from the rows: whether a restart comes first is not known yet
  pub record Waiting (t : Turn) : Type 0 where
    pub running : t.sequencer.running ≡ true
    pub loading : t.sequencer.loading ≡ true
    pub of_part : t.sequencer.part ≡ Byte
    pub at_first : t.sequencer.at ≡ 0
    pub early : t.sequencer.index < length acknowledges
    pub small : t.sequencer.wire.byte < 256
    pub kept : KeptOf t
    pub same : perform messages stop (bytes_from messages acknowledges t.sequencer.index (bus_of t))
        ≡ run messages acknowledges

  abbrev pub On : Turn → Type 0
  On t = Standing t ⊎ Waiting t

  -- the run is over
  pub record Finished (t : Turn) : Type 0 where
    pub stopped : t.sequencer.running ≡ false
    pub kept : KeptOf t
    pub same : bus_of t ≡ run messages acknowledges

  -- someone still in passes a test of its message, by what the masters know
  module _ (t : Turn) (kept : KeptOf t) where
    abbrev knows : Members
    knows = t.sequencer.members

    pub asked : (test : ℕ → Bool) (of : List ℕ → ℕ) (blank : ℕ)
        → members.someone test knows.contending (column of blank messages)
        ≡ someone_of test of messages (bus_of t).masters
    asked test of blank =
        let size = length-take count t.table in
        ap (λ (list : List (List ℕ)).
        members.someone test knows.contending (map of list ++ replicate (max_masters - length messages) blank))
        (take_all max_masters messages (omega (arith, many, given.few)))
        ∙ someone-view test of (take count t.table) knows.contending knows.lost knows.positions
        (replicate (max_masters - length messages) blank) messages
        (omega (arith, size, many, kept.long, given.enough))
        (omega (arith, many, given.few, kept.sized.of-contending))
        (omega (arith, many, given.few, kept.sized.of-lost))
        (omega (arith, many, given.few, kept.sized.of-positions))
        (rw many kept.counted.quiet)

  -- a turn with its bytes taken
  abbrev with : Turn → Sequencer → Turn
  with t sequencer =
      record { sequencer = sequencer; table = t.table; carried = t.carried; levels = t.levels }

  abbrev pub prepared : Turn → Turn
  prepared t = with t (turns.ready rows t.sequencer)

  module _ (t : Turn) (waiting : Waiting t) where
    abbrev before : Sequencer
    before = t.sequencer

    abbrev sends : List ℕ
    sends = column_of rows before.index

    abbrev taken : Sequencer
    taken = sequence.taking sends before

    early-enough : before.index < max_length
    early-enough = omega (arith, given.short, waiting.early)

    took : taken.members.bytes ≡ column (byte_at before.index) 0 messages
    unfolding sequence.taking members.loaded
    took = bytes-of-rows before.index messages early-enough

    taken-kept : KeptOf (with t taken)
    unfolding sequence.taking members.loaded
    taken-kept =
        record {
          sized =
              record {
                of-contending = waiting.kept.sized.of-contending;
                of-lost = waiting.kept.sized.of-lost;
                of-positions = waiting.kept.sized.of-positions;
                of-bytes = column-size before.index messages;
              };
          counted = record { sizes = waiting.kept.counted.sizes; quiet = waiting.kept.counted.quiet };
          fresh = waiting.kept.fresh;
          long = waiting.kept.long;
          rest = waiting.kept.rest;
          of-carried = waiting.kept.of-carried;
          of-levels = waiting.kept.of-levels;
        }

    abbrev again : Bool
    again = restarting messages before.index (bus_of t).masters

    restarts-here : members.restarting sends before.members ≡ again
    unfolding restarting
    restarts-here =
        ap (members.someone restarts before.members.contending) (of-rows before.index messages early-enough)
        ∙ asked t waiting.kept restarts (sent_at before.index) 256

    -- the bytes from here on are the restart, if there is one, the byte, and what follows it
    split : perform messages stop (bytes_from messages acknowledges before.index (bus_of t))
        ≡ after_byte messages acknowledges before.index
        (perform messages
        (script.turn_of again before.index (acknowledge_at acknowledges before.index)) (bus_of t))
    split = rw (drop-cons acknowledges before.index 0 waiting.early)

    load : (first : Bool) → members.restarting sends before.members ≡ first
        → Standing (with t (cond first (sequence.entering Restart false taken) taken))
    unfolding sequence.taking members.loaded
    load true is =
        record {
          running = waiting.running;
          ready = refl;
          inside = tt;
          within = omega arith;
          early = waiting.early;
          loaded = took;
          small = waiting.small;
          kept = taken-kept;
          same =
              ap (after_byte messages acknowledges before.index)
              (sym
              (perform-append messages restart
              (byte_turn before.index (acknowledge_at acknowledges before.index)) (bus_of t)))
              ∙ (rw (sym restarts-here ∙ is) at (sym split))
              ∙ waiting.same;
        }
    load false is =
        record {
          running = waiting.running;
          ready = refl;
          inside = rw waiting.of_part tt;
          within = rw waiting.at_first (omega arith);
          early = rw waiting.of_part waiting.early;
          loaded = rw waiting.of_part took;
          small = rw (waiting.of_part, waiting.at_first) waiting.small;
          kept = taken-kept;
          same =
              rw (waiting.of_part, waiting.at_first)
              ((rw (sym restarts-here ∙ is) at (sym split)) ∙ waiting.same);
        }

  pub prepare : (t : Turn) → On t → Standing (prepared t)
  unfolding turns.ready sequence.loaded
  prepare t on = go t.sequencer.loading refl on
    where
      go : (loading : Bool) → t.sequencer.loading ≡ loading → On t
          → Standing (with t (cond loading (sequence.loaded rows t.sequencer) t.sequencer))
      go true is (inl standing) = absurd (false≢true (sym standing.ready ∙ is))
      go true is (inr waiting) =
          load t waiting
          (members.restarting (column_of rows t.sequencer.index) t.sequencer.members) refl
      go false is (inl standing) = standing
      go false is (inr waiting) = absurd (false≢true (sym is ∙ waiting.loading))
