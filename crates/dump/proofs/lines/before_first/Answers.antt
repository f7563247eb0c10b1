-- `dump::lines::before_first` meets its contract.
use mathlib.Core.Path.{ap₂, ◌∙◌}
use mathlib.Core.Bool.{Bool, not}
use Rattle.levels.specs.Levels.{level_of}
use Rattle.dump.proofs.Samples.{unlike-none, unlike-some}
use Rattle.dump.proofs.lines.before_first.Goals as goal

pub returns-then-levels-eq0 : goal.returns-then-levels-eq0
returns-then-levels-eq0 c = unlike-none c.args.levels.now c.if-levels-eq0.true

pub returns : goal.returns
returns c = c.level_of.ensures
    ∙ ap₂ (λ (scl sda : Bool). level_of (not scl) (not sda)) c.scl.ensures c.sda.ensures
    ∙ unlike-some c.args.levels.now c.if-levels-eq0.false
