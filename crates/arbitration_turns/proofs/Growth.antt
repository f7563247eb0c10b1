-- A script only adds to what is recorded and carried.
use Prim.Native.Nat.{ℕ, suc, ◌*◌, ◌≤◌}
use mathlib.Core.Path.{◌≡◌}
use mathlib.Core.Bool.{Bool, true, false, cond, ◌||◌}
use mathlib.Core.List.{List, [], ◌∷◌, ◌++◌}
use native.Mathlib.Omega.{arith}
use lib.Dec.{eqb}
use lib.ListN.{length, length-append}
use Rattle.arbitration_rules.specs.Run.{Bus, Instant, does, loads, samples, records, pulls, judges, takes, carries}
use Rattle.arbitration_rules.specs.Run.{settles}
use Rattle.arbitration_rules.specs.Run.{performed, perform, turn_of, through, restarting, bytes}
use Rattle.arbitration_pass.specs.declared.instants.Effect.TheVariants.{Record, Bit}
use Rattle.arbitration_pass.specs.Instants.{sample}
use Rattle.arbitration_turns.proofs.Scripts.{further, of_tick, spelled}

pub record Grows (one other : Bus) : Type 0 where
  pub of-levels : length one.levels ≤ length other.levels
  pub of-carried : length one.carried ≤ length other.carried

pub grows-not : (bus : Bus) → Grows bus bus
grows-not bus = record { of-levels = omega arith; of-carried = omega arith }

pub grows-on : (one two three : Bus) → Grows one two → Grows two three → Grows one three
grows-on one two three first second =
    record {
      of-levels = omega (arith, first.of-levels, second.of-levels);
      of-carried = omega (arith, first.of-carried, second.of-carried);
    }

module _ (messages : List (List ℕ)) where
  one-more : (list : List ℕ) (last : ℕ) → length (list ++ last ∷ []) ≡ suc (length list)
  one-more list last = omega (arith, length-append list (last ∷ []))

  performed-grows : (instant : Instant) (bus : Bus) → Grows bus (performed messages instant bus)
  unfolding performed
  performed-grows (does who operation) bus = record { of-levels = omega arith; of-carried = omega arith }
  performed-grows (loads index) bus = record { of-levels = omega arith; of-carried = omega arith }
  performed-grows samples bus = record { of-levels = omega arith; of-carried = omega arith }
  performed-grows records bus =
      record { of-levels = omega (arith, one-more bus.levels bus.level); of-carried = omega arith }
  performed-grows (pulls pull) bus = record { of-levels = omega arith; of-carried = omega arith }
  performed-grows (judges position) bus = record { of-levels = omega arith; of-carried = omega arith }
  performed-grows takes bus = record { of-levels = omega arith; of-carried = omega arith }
  performed-grows carries bus =
      record { of-levels = omega arith; of-carried = omega (arith, one-more bus.carried bus.byte) }
  performed-grows settles bus = record { of-levels = omega arith; of-carried = omega arith }

  pub perform-grows : (script : List Instant) (bus : Bus) → Grows bus (perform messages script bus)
  perform-grows [] bus = grows-not bus
  perform-grows (instant ∷ script) bus =
      grows-on bus (performed messages instant bus) (perform messages script (performed messages instant bus))
      (performed-grows instant bus) (perform-grows script (performed messages instant bus))

  pub bytes-grow : (acknowledges : List ℕ) (index : ℕ) (bus : Bus)
      → Grows bus (bytes messages acknowledges index bus)
  bytes-grow [] index bus = grows-not bus
  bytes-grow (acknowledge ∷ acknowledges) index bus =
      let turn = turn_of (restarting messages index bus.masters) index acknowledge in
      let after = perform messages turn bus in
      go after (eqb acknowledge 1 || through messages (suc index) after.masters) (perform-grows turn bus)
      (bytes-grow acknowledges (suc index) after)
    where
      go : (after : Bus) (ends : Bool) → Grows bus after → Grows after (bytes messages acknowledges (suc index) after)
          → Grows bus (cond ends after (bytes messages acknowledges (suc index) after))
      go after true first rest = first
      go after false first rest = grows-on bus after (bytes messages acknowledges (suc index) after) first rest

  -- a level recorded, and a byte carried, are one more
  pub record-grows : (index acknowledge : ℕ) (ticks : Bool) (bus : Bus)
      → suc (length bus.levels)
      ≤ length (perform messages (spelled (sample Record ticks) index acknowledge) bus).levels
  unfolding performed
  record-grows index acknowledge ticks bus =
      let next = performed messages records (performed messages samples bus) in
      omega (
        arith,
        one-more bus.levels next.level,
        (perform-grows (of_tick ticks) next).of-levels,
      )

  pub bit-grows : (index acknowledge bit : ℕ) (ticks : Bool) (bus : Bus)
      → suc (length bus.levels)
      ≤ length (perform messages (spelled (sample (Bit bit) ticks) index acknowledge) bus).levels
  unfolding performed
  bit-grows index acknowledge bit ticks bus =
      let next = performed messages records (performed messages samples bus) in
      let script = judges (further (9 * index) bit) ∷ takes ∷ cond (eqb bit 7) (carries ∷ []) [] ++ of_tick ticks in
      omega (arith, one-more bus.levels next.level, (perform-grows script next).of-levels)

  pub byte-grows : (index acknowledge bit : ℕ) (ticks : Bool) (bus : Bus) → eqb bit 7 ≡ true
      → suc (length bus.carried)
      ≤ length (perform messages (spelled (sample (Bit bit) ticks) index acknowledge) bus).carried
  unfolding performed
  byte-grows index acknowledge bit ticks bus last =
      let taken =
      performed messages takes
      (performed messages (judges (further (9 * index) bit))
      (performed messages records (performed messages samples bus))) in
      let next = performed messages carries taken in
      rw last (omega (arith, one-more bus.carried taken.byte, (perform-grows (of_tick ticks) next).of-carried))
