-- What decode answers, refusals in 01's order, and what the lent slice holds after it.
use Rattle.std.specs.Prelude.{ℕ, Bool, List, [], ◌∷◌, ◌++◌, ltb, length, Result, Ok, Err}
use mir.Val.{bool_byte}
use Rattle.decode.specs.declared.Decoded.{Decoded}
use Rattle.laws.specs.Buffer.{filled}
use Rattle.laws.specs.declared.Refusal.{Refusal}
use Rattle.laws.specs.Refusals.{Check, check, answer}
use Rattle.trace.specs.Trace.{trace_checks}
use Rattle.decode.specs.Decode.{events, final}

-- 5, 6, 4, 7 and then 8
abbrev pub decode_checks : List ℕ → List ℕ → ℕ → List Check
decode_checks stamps levels room = trace_checks stamps levels ++ check 8 (ltb room (length (events levels))) ∷ []

-- how many events, whether a frame is open, how many bits are pending, and their value
abbrev pub read_as : ℕ → Bool → ℕ → ℕ → Decoded
read_as count framed pending value =
    record { count = count; framed = framed; pending = pending; value = value }

-- what the levels mean
abbrev pub meant : List ℕ → Decoded
meant levels = read_as (length (events levels)) (final levels).framed (final levels).pending (final levels).value

-- the first check that applies, else what the levels mean
unfoldable pub decoded : List ℕ → List ℕ → ℕ → Result Decoded Refusal
decoded stamps levels room = answer (decode_checks stamps levels room) (meant levels)

-- 01's numbers of an answer: the refusal (0: none) and its place, the event count, whether a frame is open (1) or not,
-- how many bits are pending, and their value; in a refused answer all others are 0
pub record DecodedNumbers : Type 0 where
  pub refusal : ℕ
  pub place : ℕ
  pub count : ℕ
  pub framed : ℕ
  pub pending : ℕ
  pub value : ℕ

abbrev pub decoded_numbers : Result Decoded Refusal → DecodedNumbers
decoded_numbers (Ok read) =
    record {
      refusal = 0;
      place = 0;
      count = read.count;
      framed = bool_byte read.framed;
      pending = read.pending;
      value = read.value;
    }
decoded_numbers (Err refusal) =
    record { refusal = refusal.number; place = refusal.place; count = 0; framed = 0; pending = 0; value = 0 }

-- the lent slice after it: the events, and its rest as it was; after a refusal all as it was
abbrev pub events_after : Result Decoded Refusal → List ℕ → List ℕ → List ℕ
events_after (Ok read) levels buffer = filled (events levels) buffer
events_after (Err refusal) levels buffer = buffer
