-- What the masters know of themselves beside their modules.
use Rattle.std.specs.Prelude.{ℕ, ◌+◌, ◌-◌, ◌*◌, min, Bool, cond, true, false, not, ◌&&◌, ◌||◌, ltb, leb, length, take, replicate}
use mathlib.Core.List.{List, ◌++◌, map, zip_with}
use Rattle.laws.specs.Search.{any}
use Rattle.arbitration_rules.specs.Limits.{max_masters, max_length}
use Rattle.arbitration_rules.specs.Outcome.{byte_of, restarts}
use Rattle.arbitration_rules.specs.declared.Seat.{Seat}
use Rattle.arbitration_pass.specs.declared.instants.Effect.{Effect}
use Rattle.arbitration_pass.specs.declared.instants.Effect.TheVariants.{Nothing, Begin, Release, Acknowledge}
use Rattle.arbitration_pass.specs.declared.instants.Effect.TheVariants.{Record, Bit, Settle}
use Rattle.arbitration_members.specs.declared.members.Members.{Members}

-- as many contend as there are messages
abbrev pub with_message : ℕ → List Bool
with_message count = replicate (min count max_masters) true ++ replicate (max_masters - count) false

abbrev pub nobody : List Bool
nobody = replicate max_masters false

-- each has as many bytes to send as its message
abbrev pub sizes_of : List ℕ → List ℕ
sizes_of lengths = take max_masters lengths ++ replicate (max_masters - length lengths) 0

unfoldable pub entered : List ℕ → Members
entered lengths =
    record {
      contending = with_message (length lengths);
      lost = nobody;
      positions = replicate max_masters 0;
      bytes = replicate max_masters 0;
      sizes = sizes_of lengths;
    }

-- each takes the byte of what it sends
unfoldable pub loaded : List ℕ → Members → Members
loaded column members =
    record {
      contending = members.contending;
      lost = members.lost;
      positions = members.positions;
      bytes = map byte_of column;
      sizes = members.sizes;
    }

-- who contends and has AL set loses now, at a position
abbrev pub losing : List Bool → List Bool → List Bool
losing contending al = zip_with (λ still set. still && set) contending al

abbrev pub lost_at : ℕ → ℕ → Bool → ℕ
lost_at position before loses = cond loses position before

unfoldable pub judged : ℕ → List Bool → Members → Members
judged position al members =
    record {
      contending = zip_with (λ still set. still && not set) members.contending al;
      lost = zip_with (λ before loses. before || loses) members.lost (losing members.contending al);
      positions = zip_with (lost_at position) members.positions (losing members.contending al);
      bytes = members.bytes;
      sizes = members.sizes;
    }

-- the byte in which they lost is over
unfoldable pub settled : Members → Members
settled members =
    record {
      contending = members.contending;
      lost = nobody;
      positions = members.positions;
      bytes = members.bytes;
      sizes = members.sizes;
    }

-- 9 · byte + bit
abbrev pub position_of : ℕ → ℕ → ℕ
position_of index bit = cond (ltb index max_length) (9 * index + bit) 0

-- what follows for them from an instant of the byte at an index
abbrev pub affected : Effect → List Bool → ℕ → Members → Members
affected Nothing al index members = members
affected Begin al index members = members
affected Release al index members = members
affected Acknowledge al index members = members
affected Record al index members = members
affected (Bit bit) al index members = judged (position_of index bit) al members
affected Settle al index members = settled members

-- someone still contending passes a test
abbrev pub someone : (ℕ → Bool) → List Bool → List ℕ → Bool
someone test contending values =
    any (λ (passes : Bool). passes) (zip_with (λ still value. still && test value) contending values)

-- someone still contending has sent all of its message; has a restart next, of what each is to send
abbrev pub any_through : List Bool → List ℕ → ℕ → Bool
any_through contending sizes sent = someone (λ size. leb size sent) contending sizes

abbrev pub through : ℕ → Members → Bool
through sent members = any_through members.contending members.sizes sent

abbrev pub restarting : List ℕ → Members → Bool
restarting column members = someone restarts members.contending column

-- the flags that the writes of each master clear over a run, STTIFG and IFG
-- (arbitration_rules/proofs/ClearedFlags.antt)
abbrev pub writes_clear : ℕ
writes_clear = 0x03

abbrev pub seat_of : ℕ → Bool → ℕ → Seat
seat_of cleared contending position = record { contending = contending; position = position; cleared = cleared }

-- what became of the first so many; the other seats are empty
abbrev pub seats : List Bool → List ℕ → ℕ → List Seat
seats contending positions count =
    zip_with (seat_of writes_clear) (take count contending) (take count positions)
    ++ replicate (max_masters - count) (seat_of 0 false 0)
