-- No place and no count of a reply passes 16 bits, so none is cut in the number that stands for it.
use Prim.Native.Nat.{ℕ, ◌<◌, ◌^◌}
use native.Mathlib.Omega.{arith}
use mathlib.Core.Logic.{⊎_elim}
use mathlib.Core.Path.{◌≡◌, refl, ap}
use mathlib.Core.List.{List, [], ◌∷◌, ◌++◌}
use lib.Dec.{eqb, ltb}
use lib.ListN.{length, get_or}
use borrow.Author.Tests.{eqb-true, ltb-false, not-false}
use Rattle.std.specs.Prelude.{Result, Ok, Err}
use Rattle.laws.specs.declared.Refusal.{Refusal}
use Rattle.laws.specs.Refusals.{Check, check}
use Rattle.export.specs.Replies.{read_numbers}
use Rattle.laws.proofs.Refusals.{Placed, refused_place, passed_ok, ok_same}
use Rattle.laws.proofs.Search.{first-within}
use Rattle.trace.specs.Limits.{max_samples}
use Rattle.trace.specs.Trace.{bad_level, not_above, pairs, trace_checks}
use Rattle.trace.proofs.Pairs.{pair-count}
use Rattle.decode.specs.declared.Decoded.{Decoded}
use Rattle.decode.specs.Decode.{events}
use Rattle.decode.specs.DecodeReply.{decode_checks, meant, decoded, decoded_numbers}
use Rattle.decode.proofs.Bounds.{events-length}
use Rattle.encode.specs.EncodeReply.{encoded, encoded_numbers}
use Rattle.trace_theorems.proofs.Replies.{accepted, taken}
use Rattle.dump.specs.Text.{dump_text}
use Rattle.dump.specs.Dumped.{dump_checks, dumped, dumped_numbers}
use Rattle.dump.proofs.Bound.{each-stamp, written-few}
use Rattle.dump_reader.specs.declared.DumpRead.{DumpRead}
use Rattle.dump_reader.specs.Reading.{stamps_in}
use Rattle.dump_reader.specs.DumpRead.{read_checks, held, dump_read}
use Rattle.dump_reader.proofs.Places.{read-place}
use Rattle.phases.specs.declared.Mode.{Mode}
use Rattle.phases.specs.DecodedIn.{decoded_in}
use Rattle.phases.proofs.Modes.{before-or-18}

module _ (stamps levels : List ℕ) (room : ℕ) where
  -- the places of 4 and 7 are samples
  trace-placed : (more : List Check) → Placed max_samples more → Placed max_samples (trace_checks stamps levels ++ more)
  trace-placed more others = (
    omega arith,
    λ same. (
      omega arith,
      λ few. (
        omega (arith, first-within bad_level levels, ltb-false max_samples (length levels) few),
        λ legal. (
          omega (
            arith,
            first-within not_above (pairs stamps),
            pair-count stamps,
            ltb-false max_samples (length levels) few,
            eqb-true (length stamps) (length levels) (not-false (eqb (length stamps) (length levels)) same),
          ),
          λ rises. others,
        ),
      ),
    ),
  )

  decode-placed : Placed max_samples (decode_checks stamps levels room)
  decode-placed =
      trace-placed (check 8 (ltb room (length (events levels))) ∷ []) (omega arith, λ enough. tt)

  dump-placed : Placed max_samples (dump_checks stamps levels room)
  dump-placed =
      trace-placed (check 19 (eqb (length levels) 0) ∷ check 8 (ltb room (length (dump_text stamps levels))) ∷ [])
      (omega arith, λ some. (omega arith, λ enough. tt))

  pub decoded-small : ((decoded_numbers (decoded stamps levels room)).count < 65536)
      × ((decoded_numbers (decoded stamps levels room)).place < 65536)
  unfolding decoded
  decoded-small = go (decoded stamps levels room) refl
    where
      go : (answer : Result Decoded Refusal) → decoded stamps levels room ≡ answer
          → ((decoded_numbers answer).count < 65536) × ((decoded_numbers answer).place < 65536)
      go (Ok read) is =
          let found = taken stamps levels room read is in
          (omega (arith, found.counted, events-length levels, found.trace.few), omega arith)
      go (Err refusal) is = (
        omega arith,
        omega (
          arith,
          refused_place max_samples (decode_checks stamps levels room) (meant levels) refusal decode-placed is,
        ),
      )

-- the reply of dump, with stamps of 32 bits
module _ (stamps levels : List ℕ) (room : ℕ) (known : (i : ℕ) → get_or stamps i 0 < 2 ^ 32) where
  pub dumped-small : ((dumped_numbers (dumped stamps levels room)).count < 73856)
      × ((dumped_numbers (dumped stamps levels room)).place < 65536)
  unfolding dumped
  dumped-small = go (dumped stamps levels room) refl
    where
      go : (answer : Result ℕ Refusal) → dumped stamps levels room ≡ answer
          → ((dumped_numbers answer).count < 73856) × ((dumped_numbers answer).place < 65536)
      go (Ok count) is =
          (omega (arith, written-few stamps levels room count is (each-stamp stamps known)), omega arith)
      go (Err refusal) is = (
        omega arith,
        omega (
          arith,
          refused_place max_samples (dump_checks stamps levels room)
              (length (dump_text stamps levels)) refusal (dump-placed stamps levels room) is,
        ),
      )

-- the reply of the dump reader: a place in a text of at most 60,000 bytes, or at most 4,096 samples
module _ (text : List ℕ) (stamp_room level_room : ℕ) where
  pub dump-read-small : ((read_numbers (dump_read text stamp_room level_room)).count < 65536)
      × ((read_numbers (dump_read text stamp_room level_room)).place < 65536)
  unfolding dump_read
  dump-read-small = go (dump_read text stamp_room level_room) refl
    where
      go : (answer : Result DumpRead Refusal) → dump_read text stamp_room level_room ≡ answer
          → ((read_numbers answer).count < 65536) × ((read_numbers answer).place < 65536)
      go (Ok read) is =
          let checks = read_checks text stamp_room level_room in
          let all = passed_ok checks (held text) read is in
          let count = ap (λ (d : DumpRead). d.count) (ok_same checks (held text) read is) in
          let few = ltb-false max_samples (length (stamps_in text)) all.1.1.1.1.0 in
          (omega (arith, few, count), omega arith)
      go (Err refusal) is = (omega arith, omega (arith, read-place text stamp_room level_room refusal is))

-- the same in a mode: the answer as it was, or 18 at a sample of the trace
module _ (mode : Mode) (stamps levels : List ℕ) (room : ℕ) where
  pub decoded-in-small : ((decoded_numbers (decoded_in mode stamps levels room)).count < 65536)
      × ((decoded_numbers (decoded_in mode stamps levels room)).place < 65536)
  decoded-in-small =
      ⊎_elim (λ same. rw same (decoded-small stamps levels room))
      (λ short. rw short.reply (omega arith, omega (arith, short.within, short.trace.few)))
      (before-or-18 mode stamps levels room)

module _ (list : List ℕ) (start gap stamp_room level_room : ℕ) where
  pub encoded-small : (encoded_numbers (encoded list start gap stamp_room level_room)).count < 65536
  encoded-small = go (encoded list start gap stamp_room level_room) refl
    where
      go : (answer : Result ℕ Refusal) → encoded list start gap stamp_room level_room ≡ answer
          → (encoded_numbers answer).count < 65536
      go (Ok count) is =
          let drawn = accepted list start gap stamp_room level_room count is in
          omega (arith, drawn.few, drawn.counted)
      go (Err refusal) is = omega arith
