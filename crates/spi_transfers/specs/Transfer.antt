-- A transfer in SPI (02: Ask 1): any list of samples and ticks, nothing written, in which SCLK makes whole periods.
use Rattle.std.specs.Prelude.{ℕ, ◌+◌, Bool, false, cond, List, [], ◌∷◌, ltb}
use mir.Val.{bool_byte}
use Rattle.levels.specs.Levels as levels
use Rattle.usi_spi.specs.declared.Driven.{Driven}
use Rattle.usi_spi.specs.Rules as spi
use Rattle.usi.specs.declared.Usi.{Usi}
use Rattle.usi.specs.Module.{spi_lines}
use Rattle.usi.specs.Step.{module_of, sample, tick}

-- a step that writes nothing
pub data Act : Type 0 where
  Sample : ℕ → Act
  Tick : Act

-- the module after it (a refused step leaves it as it was), and after a list of them
abbrev pub acted : Act → Usi → Usi
acted (Sample level) u = module_of (sample u level)
acted Tick u = module_of (tick u)

unfoldable pub after : List Act → Usi → Usi
after [] u = u
after (act ∷ acts) u = after acts (acted act u)

-- SCLK as the samples show it; a level above 3 shows nothing
abbrev pub sclk_then : Bool → Act → Bool
sclk_then sclk (Sample level) = cond (ltb levels.max_level level) sclk (levels.scl level)
sclk_then sclk Tick = sclk

unfoldable pub sclk_after : Bool → List Act → Bool
sclk_after sclk [] = sclk
sclk_after sclk (act ∷ acts) = sclk_after (sclk_then sclk act) acts

-- SDI of a sample
abbrev pub sdi_of : Act → Bool
sdi_of (Sample level) = levels.sda level
sdi_of Tick = false

-- the periods begun: each time SCLK leaves its idle level; they are whole where it is idle at both ends
unfoldable pub periods : ℕ → Bool → List Act → ℕ
periods usickctl sclk [] = 0
periods usickctl sclk (act ∷ acts) =
    bool_byte (spi.leads usickctl sclk (sclk_then sclk act)) + periods usickctl (sclk_then sclk act) acts

-- received: SDI in each sample that shows the capture edge
unfoldable pub received : ℕ → ℕ → Bool → List Act → List Bool
received usictl1 usickctl sclk [] = []
received usictl1 usickctl sclk (act ∷ acts) =
    cond (spi.captures usictl1 usickctl sclk (sclk_then sclk act))
    (sdi_of act ∷ received usictl1 usickctl (sclk_then sclk act) acts)
    (received usictl1 usickctl (sclk_then sclk act) acts)

-- sent: SDO as the module drives it just before each of these samples
unfoldable pub sent : ℕ → ℕ → Bool → List Act → Usi → List Driven
sent usictl1 usickctl sclk [] u = []
sent usictl1 usickctl sclk (act ∷ acts) u =
    cond (spi.captures usictl1 usickctl sclk (sclk_then sclk act))
    ((spi_lines u).sdo ∷ sent usictl1 usickctl (sclk_then sclk act) acts (acted act u))
    (sent usictl1 usickctl (sclk_then sclk act) acts (acted act u))
