-- The masters at the end of a run, whole; and no module pulls a line any more.
use Prim.Native.Nat.{ℕ, suc, ◌+◌, ◌/◌, ◌≤◌}
use native.Mathlib.Omega.{arith}
use mathlib.Core.Path.{◌≡◌, refl, ap, ap₂, sym, subst, ◌∙◌}
use mathlib.Core.Bool.{Bool, cond, true, false, beq}
use mathlib.Core.List.{List, [], ◌∷◌, map}
use mathlib.Core.Option.{Option, none, some}
use lib.Dec.{eqb}
use lib.ListN.{length}
use Rattle.usi.specs.Module.{pulls_scl, pulls_sda}
use Rattle.bits.specs.Positions.{is_set}
use Rattle.encode.specs.Encode.{byte_bits}
use Rattle.arbitration_rules.specs.Masters.{Master}
use Rattle.arbitration_rules.specs.Outcome.{byte_of, sent_at, byte_at, unequal_bit, position_in, loss_from}
use Rattle.arbitration_rules.specs.Outcome.{carried_of}
use Rattle.arbitration_rules.specs.Run.{run}
use Rattle.arbitration_rules.specs.Final.{final_usi, final_as, final_master}
use Rattle.laws.specs.Everyone.{Everyone}
use Rattle.laws.proofs.Lists.{everyone, everyone-map, map-alike}
use Rattle.arbitration_rules.proofs.Standing.{out}
use Rattle.arbitration_rules.proofs.Pause.{standing_as}
use Rattle.arbitration_rules.proofs.Ends.{final_usi as usi_at_end}
use Rattle.arbitration_rules.proofs.Against.{against, out_at}
use Rattle.arbitration_rules.proofs.Demand.{Arbitration, ended}

-- the byte of a position
unequal-within : (bits others : List Bool) → unequal_bit bits others ≤ length bits
unequal-within [] others = omega arith
unequal-within (bit ∷ bits) [] = omega arith
unequal-within (bit ∷ bits) (other ∷ others) = go (beq bit other) (unequal-within bits others)
  where
    go : (same : Bool) → unequal_bit bits others ≤ length bits
        → cond same (suc (unequal_bit bits others)) 0 ≤ length (bit ∷ bits)
    go true rest = omega arith
    go false rest = omega arith

byte-of-position : (byte own index : ℕ) → position_in byte own index / 9 ≡ index
unfolding position_in byte_bits
byte-of-position byte own index = omega (arith, unequal-within (byte_bits byte) (byte_bits own))

-- what is sent from an index of a message on
abbrev Rest : ℕ → List ℕ → List ℕ → Type 0
Rest index all rest = (i : ℕ) → sent_at (index + i) all ≡ sent_at i rest

rest-on : (index : ℕ) (all : List ℕ) (sent : ℕ) (rest : List ℕ) → Rest index all (sent ∷ rest)
    → Rest (suc index) all rest
rest-on index all sent rest is i = ap (λ (k : ℕ). sent_at k all) (omega arith) ∙ is (suc i)

at-index : (index : ℕ) (all : List ℕ) (sent : ℕ) (rest : List ℕ) → Rest index all (sent ∷ rest)
    → byte_at index all ≡ byte_of sent
at-index index all sent rest is = ap byte_of (ap (λ (k : ℕ). sent_at k all) (omega arith) ∙ is 0)

module _ (carried message : List ℕ) where
  final-from : (index : ℕ) (rest own : List ℕ) → Rest index carried rest → Rest index message own
      → standing_as usi_at_end (against index rest own) ≡ final_as carried message (loss_from index rest own)
  final-from index [] own c m = refl
  final-from index (sent ∷ rest) [] c m = refl
  final-from index (sent ∷ rest) (first ∷ own) c m =
      go (eqb (byte_of first) (byte_of sent))
      (final-from (suc index) rest own (rest-on index carried sent rest c) (rest-on index message first own m))
    where
      position : ℕ
      position = position_in (byte_of sent) (byte_of first) index

      go : (same : Bool)
          → standing_as usi_at_end (against (suc index) rest own)
          ≡ final_as carried message (loss_from (suc index) rest own)
          → standing_as usi_at_end (cond same (against (suc index) rest own) (out_at index sent first))
          ≡ final_as carried message (cond same (loss_from (suc index) rest own) (some position))
      go true rest = rest
      go false later =
          ap₂ (λ register own-byte. standing_as usi_at_end (out register (is_set 0 own-byte) position))
          (sym (ap (λ (k : ℕ). byte_at k carried) (byte-of-position (byte_of sent) (byte_of first) index)
          ∙ at-index index carried sent rest c))
          (sym (ap (λ (k : ℕ). byte_at k message) (byte-of-position (byte_of sent) (byte_of first) index)
          ∙ at-index index message first own m))

  final-is : standing_as usi_at_end (against 0 carried message) ≡ final_master carried message
  final-is =
      final-from 0 carried message (λ i. ap (λ (k : ℕ). sent_at k carried) (omega arith))
      (λ i. ap (λ (k : ℕ). sent_at k message) (omega arith))

-- the masters at the end of a run
pub final-masters : (messages : List (List ℕ)) (acknowledges : List ℕ) → Arbitration messages acknowledges
    → (run messages acknowledges).masters ≡ map (final_master (carried_of messages acknowledges)) messages
final-masters messages acknowledges given =
    (ended messages acknowledges given).masters
    ∙ map-alike (everyone (final-is (carried_of messages acknowledges)) messages)

-- after the STOP both lines are released
quiet : (carried message : List ℕ) (loss : Option ℕ)
    → (pulls_scl (final_usi carried message loss) ≡ false) × (pulls_sda (final_usi carried message loss) ≡ false)
quiet carried message none = (refl, refl)
quiet carried message (some position) = (refl, refl)

pub lines-released : (messages : List (List ℕ)) (acknowledges : List ℕ) → Arbitration messages acknowledges
    → Everyone (λ (master : Master). (pulls_scl master.usi ≡ false) × (pulls_sda master.usi ≡ false))
    (run messages acknowledges).masters
lines-released messages acknowledges given =
    subst (Everyone (λ (master : Master). (pulls_scl master.usi ≡ false) × (pulls_sda master.usi ≡ false)))
    (sym (final-masters messages acknowledges given))
    (everyone-map (final_master (carried_of messages acknowledges))
    (everyone (λ message. quiet (carried_of messages acknowledges) message
    (loss_from 0 (carried_of messages acknowledges) message)) messages))
