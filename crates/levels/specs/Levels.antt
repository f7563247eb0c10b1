-- Both lines in one level byte, and the conditions of the bus between one sample and the next.
use Rattle.std.specs.Prelude.{ℕ, ◌+◌, ◌*◌, ◌/◌, ◌%◌, Bool, not, ◌&&◌, eqb}
use mir.Val.{bool_byte}

-- A level byte is SCL + 2·SDA; a level above 3 is no sample (refusal 4).
abbrev pub level_of : Bool → Bool → ℕ
level_of scl sda = bool_byte scl + 2 * bool_byte sda

abbrev pub scl : ℕ → Bool
scl level = eqb (level % 2) 1

abbrev pub sda : ℕ → Bool
sda level = eqb (level / 2 % 2) 1

abbrev pub max_level : ℕ
max_level = 3

-- SDA falls, SCL high before and now: START. SDA rises likewise: STOP. If SCL changes too, neither.
abbrev pub start : Bool → Bool → Bool → Bool → Bool
start scl_before sda_before scl sda = scl_before && scl && sda_before && not sda

abbrev pub stop : Bool → Bool → Bool → Bool → Bool
stop scl_before sda_before scl sda = scl_before && scl && not sda_before && sda

-- SCL rises; SCL falls.
abbrev pub rises : Bool → Bool → Bool
rises scl_before scl = not scl_before && scl

abbrev pub falls : Bool → Bool → Bool
falls scl_before scl = scl_before && not scl

-- The same between two level bytes.
unfoldable pub starts : ℕ → ℕ → Bool
starts before level = start (scl before) (sda before) (scl level) (sda level)

unfoldable pub stops : ℕ → ℕ → Bool
stops before level = stop (scl before) (sda before) (scl level) (sda level)
