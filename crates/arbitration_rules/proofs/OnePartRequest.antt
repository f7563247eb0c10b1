-- A request whose messages have one part each gets the reply of before restarts: the refusals of document 01 without
-- restarts, over bytes, lengths and answers, and else a run with the outcome and the modules of OnePart.antt. Refusal 8
-- and the reply are written here from what follows (k, 5 + 18k levels, the final modules), not over a second run.
use Prim.Native.Nat.{ℕ, zero, suc, ◌+◌, ◌*◌}
use native.Mathlib.Omega.{arith}
use native.Mathlib.Nat.{add-zero}
use mathlib.Core.Bool.{Bool, cond, true, false, not, ◌&&◌, ◌||◌, or-false}
use mathlib.Core.List.{List, [], ◌∷◌, ◌++◌, map, zip_with}
use mathlib.Core.Path.{◌≡◌, refl, ap, ap₂, ◌∙◌}
use lib.Dec.{eqb, ltb}
use lib.ListN.{length, get_or, take, drop, replicate, length-map}
use borrow.Author.Tests.{eq-eqb, eqb-true}
use Rattle.bits.specs.Positions.{is_set, digit}
use Rattle.laws.specs.declared.Refusal.{Refusal}
use Rattle.laws.specs.Everyone.{Everyone, nobody, also}
use Rattle.laws.specs.Refusals.{Check, check, check_at, given, none, refused_at}
use Rattle.laws.specs.Search.{first, any}
use Rattle.laws.proofs.Lists.{any-alike, any_none, any-map, everyone, everyone-so, map-alike, map-map, map_same}
use Rattle.laws.proofs.Lists.{zip_with-map, zip_with-by}
use Rattle.laws.proofs.Refusals.{Passed}
use Rattle.arbitration_rules.specs.Limits.{max_masters, max_length}
use Rattle.arbitration_rules.specs.Outcome.{carried_count, carried_of, level_count, undecided}
use Rattle.arbitration_rules.specs.Run.{run, observed}
use Rattle.arbitration_rules.specs.Final.{final_master}
use Rattle.arbitration_rules.specs.Cleared.{cleared_by}
use Rattle.arbitration_rules.specs.Reply.{Request, cut, total, longest, above_one, lengths_of, messages_of}
use Rattle.arbitration_rules.specs.Reply.{is_empty, bad_count, bad_message, bad_messages, itself, bad_lengths}
use Rattle.arbitration_rules.specs.Reply.{reads_again, reads, bad_acknowledges, request_checks, run_of, short_slice}
use Rattle.arbitration_rules.specs.Reply.{refusal, absent, refused, padded, seat_of, answered, arbitrated}
use Rattle.arbitration_rules.specs.declared.Arbitrated.{Arbitrated}
use Rattle.arbitration_rules.specs.declared.Seat.{Seat}
use Rattle.arbitration_rules.specs.Masters.{Master}
use Rattle.arbitration_rules.proofs.Pieces.{Bytes, taken, left_over, pieces, messages-are}
use Rattle.arbitration_rules.proofs.Carried.{carried-count}
use Rattle.arbitration_rules.proofs.Demand.{Arbitration, run-shows-outcome}
use Rattle.arbitration_rules.proofs.FinalMasters.{final-masters}
use Rattle.arbitration_rules.proofs.RecordedLevels.{byte-count, levels-count}
use Rattle.arbitration_rules.proofs.ClearedFlags.{run-clears}
use Rattle.arbitration_rules.proofs.Accepted.{passes, accepted}
use Rattle.arbitration_rules.proofs.Single.{ones, single}
use Rattle.arbitration_rules.proofs.OnePart.{least₀, carried_of₀, outcome₀, undecided₀, final_master₀, plain}
use Rattle.arbitration_rules.proofs.OnePart.{no-restart, one-part-count, one-part-carried, one-part-outcome}
use Rattle.arbitration_rules.proofs.OnePart.{one-part-final, one-part-levels, one-part-undecided}

-- document 01 without restarts: 12, no message, or more than sixteen
abbrev pub bad_count₀ : List ℕ → Bool
bad_count₀ lengths = eqb (length lengths) 0 || ltb max_masters (length lengths)

-- document 01 without restarts: 13, a message of 0 or over 64 bytes, or lengths don't sum to the bytes lent
abbrev pub bad_length₀ : ℕ → Bool
bad_length₀ count = eqb count 0 || ltb max_length count

abbrev pub bad_lengths₀ : List ℕ → List ℕ → Bool
bad_lengths₀ bytes lengths = any bad_length₀ lengths || not (eqb (total lengths) (length bytes))

-- document 01 without restarts: 14, a message's first byte is odd (a read)
abbrev pub reads₀ : List ℕ → Bool
reads₀ message = is_set 0 (get_or message 0 0)

-- document 01 without restarts: 15, the number of answers is wrong (as many as the longest message), or one is above 1
abbrev pub bad_acknowledges₀ : List ℕ → List ℕ → Bool
bad_acknowledges₀ lengths acknowledges =
    not (eqb (length acknowledges) (longest lengths)) || any above_one acknowledges

-- document 01 without restarts: 12 to 16, with their places
abbrev pub message_checks₀ : List ℕ → List ℕ → List ℕ → List Check
message_checks₀ bytes lengths acknowledges =
    check 12 (bad_count₀ lengths)
    ∷ check_at 13 (bad_lengths₀ bytes lengths) (first bad_length₀ lengths)
    ∷ check_at 14 (any reads₀ (cut lengths bytes)) (first reads₀ (cut lengths bytes))
    ∷ check 15 (bad_acknowledges₀ lengths acknowledges)
    ∷ check 16 (undecided₀ (cut lengths bytes) acknowledges)
    ∷ []

-- document 01 without restarts: 8, a buffer is too short for the k bytes or the 5 + 18k levels, or the table for the
-- messages
abbrev pub short_slice₀ : List ℕ → ℕ → ℕ → ℕ → ℕ → Bool
short_slice₀ lengths count table_room carried_room level_room =
    ltb carried_room count || ltb level_room (5 + 18 * count) || ltb table_room (length lengths)

-- document 01 without restarts: the first that applies of 12, 13, 14, 15, 16, 8
abbrev pub refusal₀ : List ℕ → List ℕ → List ℕ → ℕ → ℕ → ℕ → Refusal
refusal₀ bytes lengths acknowledges table_room carried_room level_room =
    let count = carried_count (least₀ (cut lengths bytes)) acknowledges in
    given (message_checks₀ bytes lengths acknowledges
    ++ check 8 (short_slice₀ lengths count table_room carried_room level_room) ∷ [])

-- document 01 without restarts: the reply; each master's writes clear STTIFG and IFG, 3 (02: Ask 12)
abbrev pub answered₀ : List (List ℕ) → List ℕ → Arbitrated
answered₀ messages acknowledges =
    record {
      refusal = none;
      count = carried_count (least₀ messages) acknowledges;
      seats =
          padded absent
          (map (λ message. seat_of 0x03 (final_master₀ (carried_of₀ messages acknowledges) message)) messages);
    }

abbrev pub arbitrated₀ : List ℕ → List ℕ → List ℕ → ℕ → ℕ → ℕ → Arbitrated
arbitrated₀ bytes lengths acknowledges table_room carried_room level_room =
    let found = refusal₀ bytes lengths acknowledges table_room carried_room level_room in
    cond (eqb found.number 0) (answered₀ (cut lengths bytes) acknowledges) (refused found)

abbrev alone : ℕ → List ℕ
alone part = part ∷ []

one-part : (lengths : List ℕ) → cut (ones lengths) lengths ≡ map alone lengths
one-part [] = refl
one-part (part ∷ parts) = ap (λ more. alone part ∷ more) (one-part parts)

-- a part's bytes, without restarts
marked : (count : ℕ) (bytes : List ℕ)
    → zip_with ◌+◌ (take count bytes) (replicate count 256 ++ []) ≡ plain (take count bytes)
unfolding zip_with
marked zero bytes = refl
marked (suc count) [] = refl
marked (suc count) (byte ∷ bytes) = ap₂ ◌∷◌ (omega arith) (marked count bytes)

pieces-alone : (lengths bytes : List ℕ) → pieces (map alone lengths) bytes ≡ map plain (cut lengths bytes)
pieces-alone [] bytes = refl
pieces-alone (part ∷ parts) bytes =
    rw (add-zero part) (ap₂ ◌∷◌ (marked part bytes) (pieces-alone parts (drop part bytes)))

-- 13, of one message, and that counts sum to parts
bad-alone : (part : ℕ) → bad_message 1 (alone part) ≡ bad_length₀ part
bad-alone part = rw (add-zero part, or-false (is_empty part))

bad-parts : (lengths : List ℕ) → zip_with bad_message (ones lengths) (map alone lengths) ≡ map bad_length₀ lengths
unfolding zip_with
bad-parts [] = refl
bad-parts (part ∷ parts) = ap₂ ◌∷◌ (bad-alone part) (bad-parts parts)

one_each : (lengths : List ℕ) → total (ones lengths) ≡ length lengths
one_each [] = refl
one_each (part ∷ parts) = omega (arith, one_each parts)

-- 14, of one message
reads_plain : (message : List ℕ) → reads (plain message) ≡ reads₀ message
reads_plain message =
    ap₂ (λ one more. one || more) (head message)
    (any-map reads_again (λ byte. 256 + byte) message ∙ any_none (everyone again message))
    ∙ or-false (reads₀ message)
  where
    head : (message : List ℕ) → is_set 0 (get_or (plain message) 0 0) ≡ reads₀ message
    head [] = refl
    head (byte ∷ bytes) =
        let same : digit 0 (256 + byte) ≡ digit 0 byte = omega arith in
        ap (λ (bit : ℕ). eqb bit 1) same

    again : (byte : ℕ) → reads_again (256 + byte) ≡ false
    again byte = ap (λ restart. restart && is_set 0 (256 + byte)) (no-restart byte)

-- the first that passes a test, in a list that was mapped
first-map : {A B : Type 0} (test : B → Bool) (f : A → B) (l : List A)
    → first test (map f l) ≡ first (λ a. test (f a)) l
first-map test f [] = refl
first-map test f (a ∷ l) = ap (λ (index : ℕ). cond (test (f a)) 0 (suc index)) (first-map test f l)

first_alike : {A : Type 0} {test other : A → Bool} → ((a : A) → test a ≡ other a) → (l : List A)
    → first test l ≡ first other l
first_alike same [] = refl
first_alike same (a ∷ l) = ap₂ (λ now (index : ℕ). cond now 0 (suc index)) (same a) (first_alike same l)

-- what comes after checks matters only where none of them applies
same_after : (checks more other : List Check) → (Passed checks → given more ≡ given other)
    → given (checks ++ more) ≡ given (checks ++ other)
same_after [] more other same = same tt
same_after (c ∷ checks) more other same = go c.applies refl (same_after checks more other)
  where
    go : (applies : Bool) → c.applies ≡ applies
        → ((Passed checks → given more ≡ given other) → given (checks ++ more) ≡ given (checks ++ other))
        → cond applies (refused_at c.number c.place) (given (checks ++ more))
        ≡ cond applies (refused_at c.number c.place) (given (checks ++ other))
    go true is rest = refl
    go false is rest = rest (λ all. same (is, all))

-- messages cut from bytes are bytes
cut-bytes : {bytes : List ℕ} (lengths : List ℕ) → Bytes bytes → Everyone Bytes (cut lengths bytes)
cut-bytes [] small = nobody
cut-bytes (part ∷ parts) small = also (taken small part) (cut-bytes parts (left_over small part))

module _ (bytes lengths acknowledges : List ℕ) where
  abbrev request : Request
  request = single bytes lengths acknowledges

  abbrev messages : List (List ℕ)
  messages = cut lengths bytes

  abbrev k : ℕ
  k = carried_count (least₀ messages) acknowledges

  -- its messages are the bytes cut, without restarts
  pub one-part-messages : messages_of request ≡ map plain messages
  one-part-messages =
      messages-are request
      ∙ ap (λ (all : List (List ℕ)). pieces all bytes) (one-part lengths) ∙ pieces-alone lengths bytes

  one-part-lengths : lengths_of request ≡ lengths
  one-part-lengths =
      ap (map total) (one-part lengths) ∙ map-map total alone lengths
      ∙ map_same (λ part. total (alone part)) add-zero lengths

  -- each of 12 to 16 applies as before, at the same place
  one-part-12 : bad_count request ≡ bad_count₀ lengths
  one-part-12 = rw (length-map {B = ℕ} lengths (λ part. 1))

  bad-messages : bad_messages request ≡ map bad_length₀ lengths
  bad-messages = ap (zip_with bad_message (ones lengths)) (one-part lengths) ∙ bad-parts lengths

  one-part-13 : bad_lengths request ≡ bad_lengths₀ bytes lengths
  one-part-13 =
      rw (
        bad-messages,
        eq-eqb (total (ones lengths)) (length lengths) (one_each lengths),
        any-map itself bad_length₀ lengths,
        or-false (any bad_length₀ lengths),
      )

  place-13 : first itself (bad_messages request) ≡ first bad_length₀ lengths
  place-13 = ap (first itself) bad-messages ∙ first-map itself bad_length₀ lengths

  one-part-14 : any reads (messages_of request) ≡ any reads₀ messages
  one-part-14 =
      ap (any reads) one-part-messages ∙ any-map reads plain messages ∙ any-alike (everyone reads_plain messages)

  place-14 : first reads (messages_of request) ≡ first reads₀ messages
  place-14 =
      ap (first reads) one-part-messages ∙ first-map reads plain messages ∙ first_alike reads_plain messages

  one-part-15 : bad_acknowledges request ≡ bad_acknowledges₀ lengths acknowledges
  one-part-15 = rw one-part-lengths

  one-part-16 : undecided (messages_of request) acknowledges ≡ undecided₀ messages acknowledges
  one-part-16 =
      ap (λ (all : List (List ℕ)). undecided all acknowledges) one-part-messages
      ∙ one-part-undecided messages acknowledges

  pub one-part-checks : request_checks request ≡ message_checks₀ bytes lengths acknowledges
  one-part-checks = rw (one-part-12, one-part-13, place-13, one-part-14, place-14, one-part-15, one-part-16)

  pub one-part-refusal : given (request_checks request) ≡ given (message_checks₀ bytes lengths acknowledges)
  one-part-refusal = ap given one-part-checks

  module _ (small : Bytes bytes) where
    -- where none of 12 to 16 applies, the run is that of before
    module _ (accepts : Arbitration (messages_of request) acknowledges) where
      one-part-arbitration : Arbitration (map plain messages) acknowledges
      one-part-arbitration = rw one-part-messages at accepts

      pub one-part-run : observed (run_of request) ≡ outcome₀ messages acknowledges
      one-part-run =
          rw one-part-messages
          (run-shows-outcome (map plain messages) acknowledges one-part-arbitration
          ∙ one-part-outcome messages acknowledges (cut-bytes lengths small))

      pub one-part-masters : (run_of request).masters ≡ map (final_master₀ (carried_of₀ messages acknowledges)) messages
      one-part-masters =
          rw one-part-messages
          (final-masters (map plain messages) acknowledges one-part-arbitration
          ∙ map-map (final_master (carried_of (map plain messages) acknowledges)) plain messages
          ∙ map-alike
          (everyone-so (λ message own. one-part-final messages acknowledges message (cut-bytes lengths small) own)
          (cut-bytes lengths small)))

      pub one-part-clears : cleared_by (messages_of request) acknowledges ≡ map (λ message. 0x03) messages
      one-part-clears =
          rw one-part-messages
          (run-clears (map plain messages) acknowledges one-part-arbitration
          ∙ map-map (λ message. 0x03) plain messages)

      bytes-so : length (run (map plain messages) acknowledges).carried ≡ k
      bytes-so =
          byte-count (map plain messages) acknowledges one-part-arbitration ∙ one-part-count messages acknowledges

      levels-so : length (run (map plain messages) acknowledges).levels ≡ 5 + 18 * k
      levels-so =
          levels-count (map plain messages) acknowledges one-part-arbitration
          ∙ ap level_count (one-part-carried messages acknowledges) ∙ one-part-levels (carried_of₀ messages acknowledges)
          ∙ ap (λ (count : ℕ). 5 + 18 * count) (carried-count (least₀ messages) acknowledges)

      one-part-answered : answered (cleared_by (messages_of request) acknowledges) (run_of request)
          ≡ answered₀ messages acknowledges
      unfolding answered
      one-part-answered =
          ap₂ replied
          (ap (λ all. length (run all acknowledges).carried) one-part-messages ∙ bytes-so)
          (ap₂ (zip_with seat_of) one-part-clears one-part-masters
          ∙ zip_with-by seat_of final (map (λ message. 0x03) messages) messages
          ∙ zip_with-map (λ cleared message. seat_of cleared (final message)) (λ message. 0x03) messages)
        where
          final : List ℕ → Master
          final message = final_master₀ (carried_of₀ messages acknowledges) message

          replied : ℕ → List Seat → Arbitrated
          replied count seats = record { refusal = none; count = count; seats = padded absent seats }

      module _ (table_room carried_room level_room : ℕ) where
        one-part-8 : short_slice request table_room carried_room level_room
            ≡ short_slice₀ lengths k table_room carried_room level_room
        one-part-8 =
            rw (one-part-messages, length-map {B = ℕ} lengths (λ part. 1), bytes-so, levels-so)

    module _ (table_room carried_room level_room : ℕ) where
      -- so the first refusal of all is that of before
      pub one-part-refusal-all : refusal request table_room carried_room level_room
          ≡ refusal₀ bytes lengths acknowledges table_room carried_room level_room
      unfolding refusal
      one-part-refusal-all =
          same_after (request_checks request) (check 8 (short_slice request table_room carried_room level_room) ∷ [])
          (check 8 short₀ ∷ [])
          (λ all. ap (λ (short : Bool). given (check 8 short ∷ []))
          (one-part-8 (passes request small all) table_room carried_room level_room))
          ∙ ap (λ (checks : List Check). given (checks ++ check 8 short₀ ∷ [])) one-part-checks
        where
          short₀ : Bool
          short₀ = short_slice₀ lengths k table_room carried_room level_room

      -- and so is the reply
      pub one-part-reply : arbitrated request table_room carried_room level_room
          ≡ arbitrated₀ bytes lengths acknowledges table_room carried_room level_room
      unfolding arbitrated
      one-part-reply =
          go (eqb found.number 0) refl
          ∙ ap (λ (f : Refusal). cond (eqb f.number 0) (answered₀ messages acknowledges) (refused f))
          one-part-refusal-all
        where
          found : Refusal
          found = refusal request table_room carried_room level_room

          go : (unrefused : Bool) → eqb found.number 0 ≡ unrefused
              → cond unrefused (answered (cleared_by (messages_of request) acknowledges) (run_of request)) (refused found)
              ≡ cond unrefused (answered₀ messages acknowledges) (refused found)
          go true is =
              one-part-answered
              (accepted request table_room carried_room level_room small (eqb-true found.number 0 is))
          go false is = refl
