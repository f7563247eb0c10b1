-- The module at an index, or past the last one a fresh module.
use Prim.Native.Nat.{◌<◌, ◌≤◌}
use mathlib.Core.Path.{◌≡◌, sym, ◌∙◌}
use native.Mathlib.Omega.{arith}
use lib.ListN.{length, get_or-eq_default}
use Rattle.usi.specs.Module.{power_up}
use Rattle.arbitration_rules.specs.Limits.{max_masters}
use Rattle.night.proofs.Entering.{length-mapped}
use Rattle.night.proofs.Placed.{any-default}
use borrow.Author.Rules.{rules}
use Rattle.night.proofs.lent.module_at.Goals as goal

pub returns-then-i-lt-MAX_MASTERS : goal.returns-then-i-lt-MAX_MASTERS
returns-then-i-lt-MAX_MASTERS c =
    let a = c.args in
    let all : length a.ended.modules ≡ max_masters = search (rules, length-mapped) in
    let near : a.i < max_masters = search rules in
    let within : a.i < length a.ended.modules = omega (arith, all, near) in
    any-default a.ended.modules a.i _ (power_up 0 0) within

pub returns : goal.returns
returns c =
    let a = c.args in
    let all : length a.ended.modules ≡ max_masters = search (rules, length-mapped) in
    let far : max_masters ≤ a.i = search rules in
    let past : length a.ended.modules ≤ a.i = omega (arith, all, far) in
    c.power_up.ensures ∙ sym (get_or-eq_default a.ended.modules (power_up 0 0) past)
