-- The replies as they compute: all that each is made of unfolds with it.
use Prim.Native.Nat.{ℕ}
use mathlib.Core.List.{List, zip_with}
use Rattle.std.specs.Prelude.{Result}
use Rattle.levels.specs.Levels.{starts, stops}
use Rattle.usi_registers.specs.Rules.{count_flags}
use Rattle.usi_i2c.specs.Rules.{condition_flags, condition_count, loss_control, loss_flags, end_flags, phase_after}
use Rattle.usi.specs.declared.Usi.{Usi}
use Rattle.usi.specs.declared.Refused.{Refused}
use Rattle.usi.specs.Step as step
use Rattle.usi.specs.Step.{followed, settled, write_byte, read_byte, edged, fallen, risen}
use Rattle.encode.specs.Complete.{advance}
use Rattle.encode.specs.Encode.{byte_bits, draw_event}
use Rattle.encode.specs.EncodeReply as encode
use Rattle.decode.specs.declared.Decoded.{Decoded}
use Rattle.decode.specs.Decode.{takes, with_bit, next, cut, lists}
use Rattle.decode.specs.DecodeReply as decode
use Rattle.laws.specs.declared.Refusal.{Refusal}
use Rattle.arbitration_rules.specs.declared.Arbitrated.{Arbitrated}
use Rattle.arbitration_rules.specs.Masters.{applied, judged}
use Rattle.arbitration_rules.specs.Outcome.{undecided}
use Rattle.arbitration_rules.specs.Reply as reply
use Rattle.arbitration_rules.specs.Reply.{Request, refusal, refused, answered}
use Rattle.arbitration_rules.specs.Run.{wire, performed, through, restarting, run}
use Rattle.arbitration_rules.specs.Cleared.{cleared_at, cleared_in, cleared_by}
use Rattle.night_rules.specs.Night as night
use Rattle.night_rules.specs.Night.{arbitration, after_round, night_of}
use Rattle.arbitration_messages.specs.Gathered.{passing}
use Rattle.arbitration_checks.specs.declared.order.Least.{Least}
use Rattle.arbitration_checks.specs.Order.{least_of}

-- a register read and written, a word read and written, a sample, a tick
unfoldable pub read : Usi → ℕ → Result ℕ Refusal
unfolding read_byte
read u address = read_byte u address

unfoldable pub write : Usi → ℕ → ℕ → Result Usi Refused
unfolding count_flags followed settled write_byte
write u address value = write_byte u address value

unfoldable pub read_word : Usi → ℕ → Result ℕ Refusal
unfolding read_byte step.read_word
read_word u address = step.read_word u address

unfoldable pub write_word : Usi → ℕ → ℕ → Result Usi Refused
unfolding count_flags followed settled write_byte step.write_word
write_word u address value = step.write_word u address value

unfoldable pub sample : Usi → ℕ → Result Usi Refused
unfolding condition_flags condition_count loss_control loss_flags end_flags followed edged fallen risen step.sample
sample u level = step.sample u level

unfoldable pub tick : Usi → Result Usi Refused
unfolding phase_after followed step.tick
tick u = step.tick u

-- what encode and decode reply
unfoldable pub encoded : List ℕ → ℕ → ℕ → ℕ → ℕ → Result ℕ Refusal
unfolding advance encode.encoded
encoded events start gap stamp_room level_room = encode.encoded events start gap stamp_room level_room

unfoldable pub drawn : Result ℕ Refusal → List ℕ → List ℕ → List ℕ
unfolding byte_bits draw_event
drawn answer events buffer = encode.levels_after answer events buffer

unfoldable pub decoded : List ℕ → List ℕ → ℕ → Result Decoded Refusal
unfolding starts stops takes with_bit next cut lists decode.decoded
decoded stamps levels room = decode.decoded stamps levels room

unfoldable pub read-into : Result Decoded Refusal → List ℕ → List ℕ → List ℕ
unfolding starts stops takes with_bit next cut lists
read-into answer levels buffer = decode.events_after answer levels buffer

-- what arbitrate replies, and the table and the buffers after it
unfoldable pub arbitrated : Request → ℕ → ℕ → ℕ → Arbitrated
unfolding count_flags condition_flags condition_count loss_control loss_flags end_flags phase_after followed settled write_byte
    edged fallen risen step.sample step.tick zip_with applied judged undecided refusal refused answered wire performed
    through restarting run cleared_at cleared_in cleared_by reply.arbitrated
arbitrated request table_room carried_room level_room = reply.arbitrated request table_room carried_room level_room

unfoldable pub table_after : Request → Refusal → List Usi → List Usi
unfolding count_flags condition_flags condition_count loss_control loss_flags end_flags phase_after followed settled write_byte
    edged fallen risen step.sample step.tick zip_with applied judged wire performed through restarting run
    reply.table_after
table_after request found table = reply.table_after request found table

unfoldable pub carried_after : Request → Refusal → List ℕ → List ℕ
unfolding count_flags condition_flags condition_count loss_control loss_flags end_flags phase_after followed settled write_byte
    edged fallen risen step.sample step.tick zip_with applied judged wire performed through restarting run
    reply.carried_after
carried_after request found buffer = reply.carried_after request found buffer

unfoldable pub levels_after : Request → Refusal → List ℕ → List ℕ
unfolding count_flags condition_flags condition_count loss_control loss_flags end_flags phase_after followed settled write_byte
    edged fallen risen step.sample step.tick zip_with applied judged wire performed through restarting run
    reply.levels_after
levels_after request found buffer = reply.levels_after request found buffer

-- what least_message answers
unfoldable pub least : Request → Least
unfolding zip_with passing
least request = least_of request

-- what a night is refused by, how many rounds its reply counts, and the lent slice and the table after it
unfoldable pub night_refusal : Request → ℕ → ℕ → Refusal
unfolding zip_with night.night_refusal
night_refusal request rounds_room table_room = night.night_refusal request rounds_room table_room

unfoldable pub night_run : Request → List Usi → night.Night
unfolding count_flags condition_flags condition_count loss_control loss_flags end_flags phase_after followed settled write_byte
    edged fallen risen step.sample step.tick zip_with applied judged wire performed through restarting run
    arbitration after_round night_of
night_run request table = night.night_for request table

unfoldable pub rounds_counted : Request → Refusal → List Usi → ℕ
unfolding night_run night.rounds_counted
rounds_counted request found table = night.rounds_counted request found table

unfoldable pub rounds_after : Request → Refusal → List Usi → List ℕ → List ℕ
unfolding night_run night.rounds_after
rounds_after request found table buffer = night.rounds_after request found table buffer

unfoldable pub night_table_after : Request → Refusal → List Usi → List Usi
unfolding night_run night.table_after
night_table_after request found table = night.table_after request found table
