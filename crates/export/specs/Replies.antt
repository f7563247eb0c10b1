-- The replies of decode, encode, dump and the dump reader as one 64-bit number each, by 01's numbers of their answers.
use Rattle.std.specs.Prelude.{ℕ, ◌+◌, ◌*◌, ◌^◌, Result, Ok, Err}
use Rattle.laws.specs.declared.Refusal.{Refusal}
use Rattle.decode.specs.declared.Decoded.{Decoded}
use Rattle.decode.specs.DecodeReply.{decoded_numbers}
use Rattle.encode.specs.EncodeReply.{encoded_numbers}
use Rattle.dump.specs.Dumped.{dumped_numbers}
use Rattle.dump_reader.specs.declared.DumpRead.{DumpRead}

-- byte 0: refusal; bytes 1 and 2: place; bytes 3 and 4: event count; byte 5: frame open; byte 6: pending bits; byte 7:
-- their value (no place and no count passes 4,096: proofs/Small.antt)
abbrev pub packed_decoded : Result Decoded Refusal → ℕ
packed_decoded answer =
    (decoded_numbers answer).refusal + 256 * (decoded_numbers answer).place + 256 ^ 3 * (decoded_numbers answer).count
    + 256 ^ 5 * (decoded_numbers answer).framed + 256 ^ 6 * (decoded_numbers answer).pending
    + 256 ^ 7 * (decoded_numbers answer).value

-- byte 0: refusal; above it the sample count
abbrev pub packed_encoded : Result ℕ Refusal → ℕ
packed_encoded answer = (encoded_numbers answer).refusal + 256 * (encoded_numbers answer).count

-- byte 0: refusal; bytes 1 and 2: place; from byte 3 on the count of bytes, at most 73,855
abbrev pub packed_dumped : Result ℕ Refusal → ℕ
packed_dumped answer =
    (dumped_numbers answer).refusal + 256 * (dumped_numbers answer).place + 256 ^ 3 * (dumped_numbers answer).count

-- a dump read: its numbers, those that it does not have 0
pub record ReadNumbers : Type 0 where
  pub refusal : ℕ
  pub place : ℕ
  pub count : ℕ
  pub timescale : ℕ

abbrev pub read_numbers : Result DumpRead Refusal → ReadNumbers
read_numbers (Ok read) = record { refusal = 0; place = 0; count = read.count; timescale = read.timescale }
read_numbers (Err refusal) =
    record { refusal = refusal.number; place = refusal.place; count = 0; timescale = 0 }

-- byte 0: refusal; bytes 1 and 2: place, at most 60,000; from byte 3 on the count of samples, at most 4,096
abbrev pub packed_dump_read : Result DumpRead Refusal → ℕ
packed_dump_read answer =
    (read_numbers answer).refusal + 256 * (read_numbers answer).place + 256 ^ 3 * (read_numbers answer).count
