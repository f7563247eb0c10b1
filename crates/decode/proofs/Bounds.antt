-- Bounds that hold of every trace: decode lists numbers up to 515 only, and at most as many as there are samples.
use Prim.Native.Nat.{ℕ, zero, suc, ◌+◌, ◌^◌, ◌≤◌, ◌<◌}
use native.Mathlib.Omega.{arith}
use mathlib.Core.Path.{◌≡◌, ap}
use mathlib.Core.Bool.{Bool, true, false, cond}
use mathlib.Core.List.{List, [], ◌∷◌, ◌++◌}
use lib.Dec.{eqb}
use lib.ListN.{length, get_or, length-append}
use borrow.Author.Tests.{eqb-true}
use Rattle.decode.specs.declared.Decoder.{Decoder}
use Rattle.trace.specs.Events.{byte_event, partial_event, stop_event}
use Rattle.decode.specs.Decode.{idle, bit, ninth, next, cut, start_of, lists, listed, events}
use Rattle.decode.specs.Stepping.{Sound}
use Rattle.laws.proofs.Bools.{bool-byte}
use Rattle.decode.proofs.Sound.{idle-sound, next-sound}
use Rattle.decode.proofs.Sample.{Sampled, started, stopped, ignored, bit-taken, byte-taken, remembered}
use Rattle.decode.proofs.Sample.{sampled}

-- the last of the event numbers
abbrev pub greatest : ℕ
greatest = 515

-- each number of the list is at most that
abbrev Bounded : List ℕ → Type 0
Bounded list = (index : ℕ) → get_or list index 0 ≤ greatest

none : Bounded []
none index = omega arith

one : (number : ℕ) → number ≤ greatest → Bounded (number ∷ [])
one number small zero = small
one number small (suc index) = omega arith

append : (front rest : List ℕ) → Bounded front → Bounded rest → Bounded (front ++ rest)
append [] rest ahead behind index = behind index
append (number ∷ front) rest ahead behind zero = ahead zero
append (number ∷ front) rest ahead behind (suc index) = append front rest (λ k. ahead (suc k)) behind index

-- nine bits make a byte's event
pub byte-below-512 : (decoder : Decoder) → Sound decoder → ninth decoder ≡ true
    → byte_event decoder.value (bit decoder) < 512
byte-below-512 decoder sound nine =
    let all-eight : 2 ^ decoder.pending ≡ 256 = ap (λ (k : ℕ). 2 ^ k) (eqb-true decoder.pending 8 nine) in
    omega (arith, sound.small, bool-byte (bit decoder))

cut-bounded : (decoder : Decoder) → Bounded (cut decoder)
unfolding cut
cut-bounded decoder = by-test (eqb decoder.pending 0)
  where
    by-test : (test : Bool) → Bounded (cond test [] (partial_event ∷ []))
    by-test true = none
    by-test false = one partial_event (omega arith)

start-bounded : (framed : Bool) → start_of framed ≤ greatest
start-bounded true = omega arith
start-bounded false = omega arith

sample-bounded : {decoder : Decoder} {level : ℕ} {list : List ℕ} {after : Decoder}
    → Sampled decoder level list after → Sound decoder → Bounded list
sample-bounded {decoder} (started high) sound =
    append (cut decoder) _ (cut-bounded decoder) (one (start_of decoder.framed) (start-bounded decoder.framed))
sample-bounded {decoder} (stopped high framed) sound =
    append (cut decoder) _ (cut-bounded decoder) (one stop_event (omega arith))
sample-bounded (ignored unframed) sound = none
sample-bounded (bit-taken fall eighth) sound = none
sample-bounded {decoder} (byte-taken fall nine) sound = one _ (omega (arith, byte-below-512 decoder sound nine))
sample-bounded remembered sound = none

listed-bounded : (decoder : Decoder) → Sound decoder → (levels : List ℕ) → Bounded (listed decoder levels)
listed-bounded decoder sound [] = none
listed-bounded decoder sound (level ∷ levels) =
    append (lists decoder level) _ (sample-bounded (sampled decoder level) sound)
    (listed-bounded (next decoder level) (next-sound decoder level sound) levels)

-- decode lists no number above 515
pub events-bounded : (levels : List ℕ) (index : ℕ) → get_or (events levels) index 0 ≤ greatest
events-bounded = listed-bounded idle idle-sound

-- where a START or STOP lists two events, bits were pending, and the sample that took one had listed nothing
abbrev spare : Decoder → ℕ
spare decoder = length (cut decoder)

one-spare : (decoder : Decoder) → spare decoder ≤ 1
unfolding cut
one-spare decoder = by-test (eqb decoder.pending 0)
  where
    by-test : (test : Bool) → length (cond test [] (partial_event ∷ [])) ≤ 1
    by-test true = omega arith
    by-test false = omega arith

sample-length : {decoder : Decoder} {level : ℕ} {list : List ℕ} {after : Decoder}
    → Sampled decoder level list after → length list + spare after ≤ 1 + spare decoder
unfolding cut
sample-length {decoder} (started high) = omega (arith, length-append (cut decoder) (start_of decoder.framed ∷ []))
sample-length {decoder} (stopped high framed) = omega (arith, length-append (cut decoder) (stop_event ∷ []))
sample-length (ignored unframed) = omega arith
sample-length {after} (bit-taken fall eighth) = omega (arith, one-spare after)
sample-length (byte-taken fall nine) = omega arith
sample-length remembered = omega arith

listed-length : (decoder : Decoder) (levels : List ℕ)
    → length (listed decoder levels) ≤ length levels + spare decoder
listed-length decoder [] = omega arith
listed-length decoder (level ∷ levels) =
    let rest : List ℕ = listed (next decoder level) levels in
    let at_most = listed-length (next decoder level) levels in
    omega (arith, length-append (lists decoder level) rest, sample-length (sampled decoder level))

-- there are at most as many events as samples
pub events-length : (levels : List ℕ) → length (events levels) ≤ length levels
unfolding cut
events-length levels = omega (arith, listed-length idle levels)
