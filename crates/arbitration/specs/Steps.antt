-- A step that a closure makes at each module, for contracts inside the crate.
use Rattle.std.specs.Prelude.{ℕ, ◌<◌, ◌≡◌}
use Rattle.arbitration_rules.specs.Limits.{max_masters}
use Rattle.usi.specs.declared.Usi.{Usi}
use Rattle.arbitration_pass.specs.declared.pass.Pass.{Pass}
use Rattle.arbitration_pass.specs.Pass.{applied}

-- each call gives what the pass does to the module at the index
pub record Makes (pass : Pass) (step : Usi → ℕ → Usi → Type 0) : Type 0 where
  pub applies : (usi : Usi) (i : ℕ) (after : Usi) → i < max_masters → step usi i after → after ≡ applied pass i usi
