-- The bus through one bit turn, from what each of its modules does in it: the wire shows the bit, low and then high.
use Prim.Native.Nat.{ℕ}
use mathlib.Core.Path.{◌≡◌, refl, ap, ap₂, ◌∙◌}
use mathlib.Core.Bool.{Bool, true, false, not, ◌||◌}
use mathlib.Core.List.{List, [], ◌∷◌, ◌++◌, map, map-map, append_assoc}
use Rattle.usi.specs.declared.Usi.{Usi}
use Rattle.usi.specs.Module.{pulls_scl, pulls_sda}
use Rattle.arbitration_rules.specs.Masters.{Master, Who, everybody, still_in, Tick, Sample, Write, with_usi}
use Rattle.arbitration_rules.specs.Masters.{applied}
use Rattle.arbitration_rules.proofs.Phases.{every, writes_by, writes, sampled, noted, recorded, pulled, bit_turn}
use Rattle.laws.specs.Search.{any}
use Rattle.levels.specs.Levels.{level_of}
use Rattle.arbitration_rules.specs.Run.{Bus, wire, sampled_at}
use Rattle.laws.specs.Everyone.{Everyone}
use Rattle.laws.proofs.Lists.{everyone-so, map-alike, any-alike, any_none, any-map}
use Rattle.arbitration_rules.proofs.Turn.{ticks, samples, lowered, turned, Turns}

abbrev pub bus_of : List Master → Bool → ℕ → ℕ → List ℕ → List ℕ → Bus
bus_of masters pull level byte levels carried =
    record { masters = masters; pull = pull; level = level; byte = byte; levels = levels; carried = carried }

-- masters whose modules have come to a state
module _ {A : Type 0} (master : A → Master) (l : List A) where
  abbrev pub stage : (A → Usi) → List Master
  stage usi = map (λ a. with_usi (usi a) (master a)) l

  module _ (usi : A → Usi) (pull : Bool) (level byte : ℕ) (levels carried : List ℕ) where
    tick-all : every everybody Tick (bus_of (stage usi) pull level byte levels carried)
        ≡ bus_of (stage (λ a. ticks (usi a))) pull level byte levels carried
    unfolding applied
    tick-all =
        ap (λ masters. bus_of masters pull level byte levels carried)
        (map-map (applied everybody Tick) (λ a. with_usi (usi a) (master a)) l)

    -- the level of the wire, from who pulls it, and the sample of it
    module _ (scl sda : Bool) (clock : not (any (λ a. pulls_scl (usi a)) l) ≡ scl)
        (line : not (pull || any (λ a. pulls_sda (usi a)) l) ≡ sda) where
      wire-is : wire pull (stage usi) ≡ level_of scl sda
      unfolding wire
      wire-is =
          ap₂ level_of
          (ap not (any-map (λ (m : Master). pulls_scl m.usi) (λ a. with_usi (usi a) (master a)) l) ∙ clock)
          (ap (λ drive. not (pull || drive))
          (any-map (λ (m : Master). pulls_sda m.usi) (λ a. with_usi (usi a) (master a)) l)
          ∙ line)

      sample-all : sampled (bus_of (stage usi) pull level byte levels carried)
          ≡ bus_of (stage (λ a. samples scl sda (usi a))) pull (level_of scl sda) byte levels carried
      unfolding sampled applied
      sample-all =
          ap (λ seen. sampled_at seen (bus_of (stage usi) pull level byte levels carried)) wire-is
          ∙ ap (λ masters. bus_of masters pull (level_of scl sda) byte levels carried)
          (map-map (applied everybody (Sample (level_of scl sda))) (λ a. with_usi (usi a) (master a)) l)

      pub record-all : recorded (bus_of (stage usi) pull level byte levels carried)
          ≡ bus_of (stage (λ a. samples scl sda (usi a))) pull (level_of scl sda) byte (levels ++ level_of scl sda ∷ [])
          carried
      unfolding recorded
      record-all = ap noted sample-all

  -- the turn: someone clocks, and SDA is pulled by who drives and by the acknowledge
  module _ (after : A → Usi) (clocks drives : A → Bool) (old pull bit : Bool) (level byte : ℕ)
      (levels carried : List ℕ)
      (turns : Everyone (λ a. Turns (master a).usi (clocks a) (drives a) bit (after a)) l)
      (clocked : any clocks l ≡ true) (line : not (pull || any drives l) ≡ bit) where
    -- SDA at the first low sample, whatever it is
    abbrev before : Bool
    before = not (old || any (λ a. pulls_sda (ticks (master a).usi)) l)

    abbrev at : (A → Usi) → Bool → ℕ → List ℕ → Bus
    at usi pulling seen recording = bus_of (stage usi) pulling seen byte recording carried

    -- the modules at each instant
    abbrev fallen : A → Usi
    fallen a = lowered before (master a).usi

    abbrev low : A → Usi
    low a = samples false bit (fallen a)

    fall : sampled (at (λ a. ticks (master a).usi) old level levels) ≡ at fallen old (level_of false before) levels
    fall =
        sample-all (λ a. ticks (master a).usi) old level byte levels carried false before
        (ap not (any-alike (everyone-so (λ a t. t.falls) turns) ∙ clocked))
        refl

    stay : recorded (at fallen pull (level_of false before) levels)
        ≡ at low pull (level_of false bit) (levels ++ level_of false bit ∷ [])
    stay =
        record-all fallen pull (level_of false before) byte levels carried false bit
        (ap not (any-alike (everyone-so (λ a t. t.low before) turns) ∙ clocked))
        (ap (λ drive. not (pull || drive)) (any-alike (everyone-so (λ a t. t.drives-low before) turns)) ∙ line)

    rise : recorded (at (λ a. ticks (low a)) pull (level_of false bit) (levels ++ level_of false bit ∷ []))
        ≡ at (λ a. turned bit before (master a).usi) pull (level_of true bit)
        (levels ++ level_of false bit ∷ [] ++ level_of true bit ∷ [])
    rise =
        record-all (λ a. ticks (low a)) pull (level_of false bit) byte (levels ++ level_of false bit ∷ []) carried true
        bit
        (ap not (any_none (everyone-so (λ a t. t.high before) turns)))
        (ap (λ drive. not (pull || drive)) (any-alike (everyone-so (λ a t. t.drives-high before) turns)) ∙ line)

    ends : at (λ a. turned bit before (master a).usi) pull (level_of true bit)
        (levels ++ level_of false bit ∷ [] ++ level_of true bit ∷ [])
        ≡ at after pull (level_of true bit) (levels ++ level_of false bit ∷ level_of true bit ∷ [])
    ends =
        ap₂ (λ masters recording. bus_of masters pull (level_of true bit) byte recording carried)
        (map-alike (everyone-so (λ a t. ap (λ usi. with_usi usi (master a)) (t.ends before)) turns))
        (append_assoc levels (level_of false bit ∷ []) (level_of true bit ∷ []))

    pub turn_is : bit_turn pull (bus_of (map master l) old level byte levels carried)
        ≡ at after pull (level_of true bit) (levels ++ level_of false bit ∷ level_of true bit ∷ [])
    unfolding bit_turn
    turn_is =
        ap (λ bus. recorded (every everybody Tick (recorded (pulled pull (sampled bus)))))
        (tick-all (λ a. (master a).usi) old level byte levels carried)
        ∙ ap (λ bus. recorded (every everybody Tick (recorded (pulled pull bus)))) fall
        ∙ ap (λ bus. recorded (every everybody Tick bus)) stay
        ∙ ap recorded (tick-all low pull (level_of false bit) byte (levels ++ level_of false bit ∷ []) carried)
        ∙ rise
        ∙ ends

-- registers written one after the other by each master that is meant
abbrev pub writes_of_by : Who → List (ℕ × ℕ) → Master → Master
writes_of_by who [] master = master
writes_of_by who (write ∷ more) master = writes_of_by who more (applied who (Write write.0 write.1) master)

abbrev pub writes_of : List (ℕ × ℕ) → Master → Master
writes_of list master = writes_of_by still_in list master

pub writes-by : {A : Type 0} (who : Who) (list : List (ℕ × ℕ)) (master : A → Master) (l : List A) (pull : Bool)
    (level byte : ℕ) (levels carried : List ℕ)
    → writes_by who list (bus_of (map master l) pull level byte levels carried)
    ≡ bus_of (map (λ a. writes_of_by who list (master a)) l) pull level byte levels carried
writes-by who [] master l pull level byte levels carried = refl
writes-by who (write ∷ more) master l pull level byte levels carried =
    ap (λ masters. writes_by who more (bus_of masters pull level byte levels carried))
    (map-map (applied who (Write write.0 write.1)) master l)
    ∙ writes-by who more (λ a. applied who (Write write.0 write.1) (master a)) l pull level byte levels carried

pub writes-all : {A : Type 0} (list : List (ℕ × ℕ)) (master : A → Master) (l : List A) (pull : Bool) (level byte : ℕ)
    (levels carried : List ℕ)
    → writes list (bus_of (map master l) pull level byte levels carried)
    ≡ bus_of (map (λ a. writes_of list (master a)) l) pull level byte levels carried
writes-all list master l pull level byte levels carried = writes-by still_in list master l pull level byte levels carried
