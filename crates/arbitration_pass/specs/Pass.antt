-- One pass: what it does to each module, and what the modules show after it.
use Rattle.std.specs.Prelude.{ℕ, zero, suc, ◌-◌, Bool, cond, false, ◌||◌, List, [], ◌∷◌, ◌++◌, map, ltb, get_or, set, take, replicate}
use Rattle.bits.specs.Positions.{on}
use Rattle.laws.specs.Search.{any}
use Rattle.usi_registers.specs.Registers.{USICTL0, USICTL1, USICKCTL, USICNT, USISRL, USIAL}
use Rattle.usi.specs.declared.Usi.{Usi}
use Rattle.usi.specs.Module.{power_up, pulls_scl, pulls_sda}
use Rattle.usi.specs.Step.{module_of, write_byte, sample, tick}
use Rattle.arbitration_rules.specs.Limits.{max_masters}
use Rattle.arbitration_pass.specs.declared.instants.Operation.{Operation}
use Rattle.arbitration_pass.specs.declared.instants.Operation.TheVariants.{Enter, Sample, Pull, Clear, Load}
use Rattle.arbitration_pass.specs.declared.instants.Operation.TheVariants.{LetGo, Lower, Raise, Rest, Rise}
use Rattle.arbitration_pass.specs.declared.instants.Operation.TheVariants.{Heed}
use Rattle.arbitration_pass.specs.declared.pass.Pass.{Pass}
use Rattle.arbitration_pass.specs.declared.pass.Sampling.{Sampling}
use Rattle.arbitration_pass.specs.declared.pass.Seen.{Seen}
use Rattle.arbitration_pass.specs.Instants.{samples, lets_go, heeds}

-- a register written; registers written one after the other, each as address and value
abbrev pub written : ℕ → ℕ → Usi → Usi
written address value usi = module_of (write_byte usi address value)

abbrev pub written_all : List (ℕ × ℕ) → Usi → Usi
written_all [] usi = usi
written_all (write ∷ more) usi = written_all more (written write.0 write.1 usi)

-- what who still contends writes, in 01's words; its byte is the one to send
abbrev pub registers : Operation → ℕ → List (ℕ × ℕ)
registers Enter byte = (USICKCTL, 0x22) ∷ (USICTL1, 0x41) ∷ (USICTL0, 0xc8) ∷ []
registers Sample byte = []
registers Pull byte = (USISRL, 0x00) ∷ (USICTL0, 0xce) ∷ (USICTL0, 0xca) ∷ []
registers Clear byte = (USICTL1, 0x41) ∷ []
registers Load byte = (USISRL, byte) ∷ (USICTL0, 0xca) ∷ (USICNT, 0x08) ∷ []
registers LetGo byte = (USICTL0, 0xc8) ∷ (USICNT, 0x01) ∷ []
registers Lower byte = (USICTL0, 0xca) ∷ (USISRL, 0x00) ∷ (USICNT, 0x01) ∷ []
registers Raise byte = (USISRL, 0xff) ∷ (USICTL0, 0xce) ∷ []
registers Rest byte = (USICTL0, 0xc8) ∷ []
registers Rise byte = (USISRL, 0xff) ∷ (USICTL0, 0xca) ∷ (USICNT, 0x01) ∷ []
registers Heed byte = (USICTL1, 0x41) ∷ []

-- all modules start from power-up with shift bytes 0
abbrev pub fresh : Operation → Usi → Usi
fresh Enter usi = power_up 0 0
fresh Sample usi = usi
fresh Pull usi = usi
fresh Clear usi = usi
fresh Load usi = usi
fresh LetGo usi = usi
fresh Lower usi = usi
fresh Raise usi = usi
fresh Rest usi = usi
fresh Rise usi = usi
fresh Heed usi = usi

abbrev pub entered : Usi
entered = written_all (registers Enter 0) (power_up 0 0)

abbrev pub wrote : Operation → ℕ → Usi → Usi
wrote operation byte usi = written_all (registers operation byte) (fresh operation usi)

-- what who lost in this byte writes
abbrev pub yielded : Operation → Usi → Usi
yielded operation usi = cond (lets_go operation) (written_all ((USICTL0, 0xc0) ∷ (USICNT, 0x80) ∷ []) usi) usi

abbrev pub kept : Operation → Bool → Usi → Usi
kept operation lost usi = cond lost (yielded operation usi) usi

-- what who lost in any byte so far writes
abbrev pub heeded : Operation → Bool → Usi → Usi
heeded operation contending usi =
    cond contending usi (cond (heeds operation) (written_all ((USICTL1, 0x49) ∷ (USICNT, 0x80) ∷ []) usi) usi)

abbrev pub wrote_as : Operation → Bool → Bool → ℕ → Usi → Usi
wrote_as operation contending lost byte usi =
    let lost-wrote = heeded operation contending (kept operation lost usi) in
    cond contending (wrote operation byte lost-wrote) lost-wrote

-- and then all tick, or not
abbrev pub ticked : Bool → Usi → Usi
ticked ticks usi = cond ticks (module_of (tick usi)) usi

-- the module at an index after a sample, and after the registers are written
unfoldable pub sampled_at : Pass → ℕ → Usi → Usi
sampled_at pass i usi = cond (ltb i max_masters) (ticked pass.ticks (module_of (sample usi pass.level))) usi

unfoldable pub wrote_at : Pass → ℕ → Usi → Usi
wrote_at pass i usi =
    cond (ltb i max_masters)
    (ticked pass.ticks
    (wrote_as pass.operation (get_or pass.contending i false) (get_or pass.lost i false) (get_or pass.bytes i 0)
    usi))
    usi

-- the module at an index after a pass
unfoldable pub applied : Pass → ℕ → Usi → Usi
applied pass i usi = cond (samples pass.operation) (sampled_at pass i usi) (wrote_at pass i usi)

-- the modules of a table from an index on, so many of them
abbrev pub passed_from : Pass → ℕ → ℕ → List Usi → List Usi
passed_from pass i zero table = table
passed_from pass i (suc count) [] = []
passed_from pass i (suc count) (usi ∷ table) = applied pass i usi ∷ passed_from pass (suc i) count table

unfoldable pub passed : ℕ → Pass → List Usi → List Usi
passed count pass table = passed_from pass 0 count table

-- of a pass that samples: what it samples, a module after that, and the pass as one in which nobody writes
abbrev pub sampling : Pass → Sampling
sampling pass = record { level = pass.level; ticks = pass.ticks }

abbrev pub sampled : Sampling → Usi → Usi
sampled sampling usi = ticked sampling.ticks (module_of (sample usi sampling.level))

abbrev pub sampling_pass : Sampling → Pass
sampling_pass sampling =
    record {
      operation = Sample;
      ticks = sampling.ticks;
      level = sampling.level;
      contending = [];
      lost = [];
      bytes = [];
    }

-- what modules show: whether any pulls SCL, and SDA, and who has AL set
abbrev pub lost_by : Usi → Bool
lost_by usi = on usi.usictl1 USIAL

abbrev pub unseen : Seen
unseen = record { scl = false; sda = false; al = replicate max_masters false }

unfoldable pub noted : Seen → ℕ → Usi → Seen
noted seen i usi =
    record {
      scl = seen.scl || pulls_scl usi;
      sda = seen.sda || pulls_sda usi;
      al = cond (ltb i max_masters) (set seen.al i (lost_by usi)) seen.al;
    }

unfoldable pub seen : ℕ → List Usi → Seen
seen count table =
    record {
      scl = any pulls_scl (take count table);
      sda = any pulls_sda (take count table);
      al = map lost_by (take count table) ++ replicate (max_masters - count) false;
    }
