-- The cases of SCL make up what a sample's edges do; and where the latch follows once, after a tick, it is as if it had
-- followed after the sample too.
use mathlib.Core.Path.{◌≡◌, refl, sym, ap, subst, ◌∙◌}
use Prim.Native.Nat.{ℕ}
use mathlib.Core.Bool.{Bool, cond, true, false, ◌&&◌, ◌||◌}
use lib.Dec.{ltb}
use Rattle.levels.specs.Levels as levels
use Rattle.usi_registers.specs.Rules as set_up
use Rattle.usi_i2c.specs.Rules as rules
use Rattle.usi_i2c.specs.Rules.{condition_flags, condition_count}
use Rattle.usi.specs.declared.Usi.{Usi}
use Rattle.std.specs.Prelude.{Ok, Err}
use Rattle.usi.specs.Module.{with_stretch, fits}
use Rattle.usi.specs.Step.{latched, bit_taken, risen, fallen, stretched, edged, followed, recorded, ticked}
use Rattle.usi.specs.Step.{overruns, refused, module_of, sample, tick, sample_then}
use Rattle.usi.specs.Cases.{stretched_by, condition_seen, rise_seen, fall_seen, finished, stepped}
use Rattle.usi.proofs.SetUp.{edged-fits, followed-fits}

-- a module that remembers levels, told what SCL was
abbrev saw : Bool → Bool → Usi → Usi
saw seen scl u =
    record {
      usictl0 = u.usictl0;
      usictl1 = u.usictl1;
      usickctl = u.usickctl;
      usicnt = u.usicnt;
      usisrl = u.usisrl;
      usisrh = u.usisrh;
      latch = u.latch;
      enable = u.enable;
      phase = u.phase;
      seen = seen;
      scl = scl;
      sda = u.sda;
      stretch = u.stretch;
    }

module _ (P : Usi → Type 0) (u : Usi) (seen : u.seen ≡ true) where
  told : (before : Bool) → u.scl ≡ before → P (saw true before u) → P u
  told before is holds =
      subst (λ (b : Bool). P (saw b u.scl u)) (sym seen) (subst (λ (b : Bool). P (saw true b u)) (sym is) holds)

-- what follows a rise or a fall does not depend on whether a bit was taken, or the latch moved
after-rise : (takes : Bool) (sda : Bool) (u : Usi)
    → stretched true (fallen true (cond takes (bit_taken sda (saw true false u)) (saw true false u)))
    ≡ stretched_by false true (cond takes (bit_taken sda (saw true false u)) (saw true false u))
unfolding fallen
after-rise true sda u = refl
after-rise false sda u = refl

after-fall : (moves : Bool) (u : Usi)
    → stretched false (cond moves (latched (saw true true u)) (saw true true u))
    ≡ stretched_by true false (cond moves (latched (saw true true u)) (saw true true u))
after-fall true u = refl
after-fall false u = refl

same-stretch : (stretch : Bool) → (stretch || false) && true ≡ stretch
same-stretch true = refl
same-stretch false = refl

module _ (scl sda : Bool) (u : Usi) (seen : u.seen ≡ true) where
  pub stays-high : scl ≡ true → u.scl ≡ true → edged scl sda u ≡ condition_seen sda u
  unfolding edged risen fallen
  stays-high now before =
      rw now (told (λ (v : Usi). edged true sda v ≡ condition_seen sda v) u seen true before refl)

  pub rises : scl ≡ true → u.scl ≡ false → edged scl sda u ≡ rise_seen sda u
  unfolding edged risen condition_flags condition_count rise_seen
  rises now before =
      rw now
      (told (λ (v : Usi). edged true sda v ≡ rise_seen sda v) u seen false before
      (after-rise (rules.takes_bit false true u.usicnt) sda u))

  pub falls : scl ≡ false → u.scl ≡ true → edged scl sda u ≡ fall_seen u
  unfolding edged risen fallen condition_flags condition_count fall_seen
  falls now before =
      rw now
      (told (λ (v : Usi). edged false sda v ≡ fall_seen v) u seen true before
      (after-fall (rules.moves_latch u.usictl0 u.usicnt) u))

  pub stays-low : scl ≡ false → u.scl ≡ false → edged scl sda u ≡ u
  unfolding edged risen fallen condition_flags condition_count
  stays-low now before =
      rw now
      (told (λ (v : Usi). edged false sda v ≡ v) u seen false before
      (ap (λ (stretch : Bool). with_stretch stretch (saw true false u)) (same-stretch u.stretch)))

-- a latch that has followed changes nothing for a tick
followed-once : (u : Usi) → ticked (followed u) ≡ ticked u
unfolding followed
followed-once u = by-case (set_up.transparent u.usictl0) refl
  where
    by-case : (open-latch : Bool) → set_up.transparent u.usictl0 ≡ open-latch
        → ticked (cond open-latch (latched u) u) ≡ ticked u
    by-case true e = rw e refl
    by-case false e = refl

followed-overruns : (u : Usi) → overruns (followed u) ≡ overruns u
unfolding followed
followed-overruns u = by-case (set_up.transparent u.usictl0)
  where
    by-case : (open-latch : Bool) → overruns (cond open-latch (latched u) u) ≡ overruns u
    by-case true = refl
    by-case false = refl

module-of : (late : Bool) (v w : Usi) → module_of (cond late (Err (refused 17 v)) (Ok w)) ≡ cond late v w
module-of true v w = refl
module-of false v w = refl

finished-is : (ticks : Bool) (u : Usi) → fits u ≡ true
    → cond ticks (module_of (tick (followed u))) (followed u) ≡ finished ticks u
unfolding finished tick
finished-is false u fitting = refl
finished-is true u fitting =
    rw (followed-fits u, fitting, followed-overruns u, followed-once u)
    (module-of (overruns u) (followed u) (ticked u))

pub stepped-is : (level : ℕ) (ticks : Bool) (u : Usi) → ltb levels.max_level level ≡ false → fits u ≡ true
    → sample_then level ticks u ≡ stepped (levels.scl level) (levels.sda level) ticks u
unfolding sample
stepped-is level ticks u low fitting =
    let scl = levels.scl level in
    let sda = levels.sda level in
    rw (low, fitting) (finished-is ticks (recorded scl sda (edged scl sda u)) (edged-fits scl sda u ∙ fitting))
