-- 01's steps as rows of instants. That a row spells the script of its step is proved (proofs/Scripts.antt).
use Rattle.std.specs.Prelude.{ℕ, ◌-◌, ◌/◌, ◌%◌, Bool, cond, true, false, eqb, ltb}
use Rattle.arbitration_pass.specs.declared.instants.Operation.{Operation}
use Rattle.arbitration_pass.specs.declared.instants.Operation.TheVariants as does
use Rattle.arbitration_pass.specs.declared.instants.Effect.{Effect}
use Rattle.arbitration_pass.specs.declared.instants.Effect.TheVariants as then
use Rattle.arbitration_pass.specs.declared.instants.Instant.{Instant}
use Rattle.arbitration_pass.specs.declared.instants.Part.{Part}
use Rattle.arbitration_pass.specs.declared.instants.Part.TheVariants.{Entry, Opening, Restart, Byte, Closing}

abbrev pub write : Operation → Bool → Instant
write operation ticks = record { operation = operation; ticks = ticks; effect = then.Nothing }

abbrev pub sample : Effect → Bool → Instant
sample effect ticks = record { operation = does.Sample; ticks = ticks; effect = effect }

-- a sample; who lost in the byte lets go; who lost in any byte so far clears the repeated START's flag too
abbrev pub samples : Operation → Bool
samples does.Enter = false
samples does.Sample = true
samples does.Pull = false
samples does.Clear = false
samples does.Load = false
samples does.LetGo = false
samples does.Lower = false
samples does.Raise = false
samples does.Rest = false
samples does.Rise = false
samples does.Heed = false

abbrev pub lets_go : Operation → Bool
lets_go does.Enter = false
lets_go does.Sample = false
lets_go does.Pull = false
lets_go does.Clear = false
lets_go does.Load = false
lets_go does.LetGo = true
lets_go does.Lower = false
lets_go does.Raise = false
lets_go does.Rest = false
lets_go does.Rise = false
lets_go does.Heed = false

abbrev pub heeds : Operation → Bool
heeds does.Enter = false
heeds does.Sample = false
heeds does.Pull = false
heeds does.Clear = false
heeds does.Load = false
heeds does.LetGo = false
heeds does.Lower = false
heeds does.Raise = false
heeds does.Rest = false
heeds does.Rise = false
heeds does.Heed = true

-- step 1
abbrev pub opening : ℕ → Instant
opening at =
    cond (eqb at 1) (write does.Pull false) (cond (eqb at 3) (write does.Clear false) (sample then.Record false))

-- step 3 past its first tick, by what ends or begins between its low samples, and what follows the last one
abbrev pub turn : ℕ → Effect → Effect → Bool → Instant
turn at pull end ticks =
    cond (eqb at 0) (sample pull false) (cond (eqb at 1) (sample then.Record true) (sample end ticks))

-- step 2 for one byte: 0, it is loaded; 1 to 24, its eight bits; 25, who lost lets go; 26 to 28, the acknowledge
abbrev pub byte : ℕ → Instant
byte at =
    cond (eqb at 0) (record { operation = does.Load; ticks = true; effect = then.Begin })
    (cond (ltb at 25) (turn ((at - 1) % 3) then.Release (then.Bit ((at - 1) / 3)) (ltb ((at - 1) / 3) 7))
    (cond (eqb at 25) (record { operation = does.LetGo; ticks = true; effect = then.Settle })
    (turn (at - 26) then.Acknowledge then.Record false)))

-- a repeated START, or step 4's STOP: 0, SDA is set for it; 1 to 3, a bit turn; 4, SDA changes; 5, that is seen;
-- 6, what follows
abbrev pub condition : Operation → Operation → Operation → ℕ → Instant
condition set change past at =
    cond (eqb at 0) (write set true)
    (cond (ltb at 4) (turn (at - 1) then.Release then.Record false)
    (cond (eqb at 4) (write change false)
    (cond (eqb at 5) (sample then.Record false) (write past false))))

-- the instant of a part at an index, and the index of its last one
abbrev pub instant : Part → ℕ → Instant
instant Entry at = write does.Enter false
instant Opening at = opening at
instant Restart at = condition does.Rise does.Pull does.Heed at
instant Byte at = byte at
instant Closing at = condition does.Lower does.Raise does.Rest at

abbrev pub last : Part → ℕ
last Entry = 0
last Opening = 3
last Restart = 6
last Byte = 28
last Closing = 6
