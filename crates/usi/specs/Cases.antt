-- A sample by the cases of SCL, and with a tick after it, for contracts inside the crate: proofs/Cases.antt shows that
-- they make up Step's `edged` and `sample_then`.
use Rattle.std.specs.Prelude.{Bool, cond, true, false, not, ◌||◌}
use Rattle.levels.specs.Levels as levels
use Rattle.usi_i2c.specs.Rules as rules
use Rattle.usi.specs.declared.Usi.{Usi}
use Rattle.usi.specs.Module.{with_usictl1, with_usicnt, with_stretch}
use Rattle.usi.specs.Step.{latched, bit_taken, followed, recorded, edged, ticked, overruns}

-- the stretch, told whether SCL fell and whether it is high
abbrev pub stretched_by : Bool → Bool → Usi → Usi
stretched_by fallen scl u = with_stretch (rules.stretch_after u.stretch fallen u.phase scl) u

-- SCL stays high
abbrev pub condition_seen : Bool → Usi → Usi
condition_seen sda u =
    stretched_by false true
    (with_usictl1
    (rules.condition_flags u.usictl1 (levels.start true u.sda true sda) (levels.stop true u.sda true sda))
    (with_usicnt (rules.condition_count u.usicnt (levels.start true u.sda true sda)) u))

-- SCL rises
unfoldable pub rise_seen : Bool → Usi → Usi
rise_seen sda u = stretched_by false true (cond (rules.takes_bit false true u.usicnt) (bit_taken sda u) u)

-- SCL falls
unfoldable pub fall_seen : Usi → Usi
fall_seen u = stretched_by true false (cond (rules.moves_latch u.usictl0 u.usicnt) (latched u) u)

-- a sample's end: the tick where it is asked and not refused, and the latch follows once
unfoldable pub finished : Bool → Usi → Usi
finished ticks u = cond (not ticks || overruns u) (followed u) (ticked u)

abbrev pub stepped : Bool → Bool → Bool → Usi → Usi
stepped scl sda ticks u = finished ticks (recorded scl sda (edged scl sda u))
