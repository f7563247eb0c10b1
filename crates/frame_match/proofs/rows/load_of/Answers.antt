use Prim.Native.Nat.{suc, ◌-◌}
use native.Mathlib.Omega.{arith}
use mathlib.Core.Path.{◌≡◌, refl, sym, ◌∙◌}
use Rattle.laws.proofs.Branches.{call-yes, call-no}
use Rattle.frame_match.proofs.Searching.{load_here, load-passed}
use Rattle.frame_match.proofs.rows.load_of.Goals as goal

pub loop-load-init : goal.loop-load-init
loop-load-init c = refl

pub returns-then-is_load : goal.returns-then-is_load
returns-then-is_load c =
    let head = c.loop-load in
    let args = c.args in
    let next : suc (head.load - 1) ≡ head.load = omega arith in
    load_here args.book.now head.load (head.load - 1) next (call-yes _ _ c.is_load.ensures c.if-is_load.true) ∙ sym head.invariant

pub loop-load-preserved : goal.loop-load-preserved
loop-load-preserved c =
    let head = c.loop-load in
    let args = c.args in
    let next : suc (head.load - 1) ≡ head.load = omega arith in
    head.invariant ∙ load-passed args.book.now head.load (head.load - 1) next (call-no _ _ c.is_load.ensures c.if-is_load.false)

pub returns : goal.returns
returns c =
    let head = c.loop-load in
    let none : head.load ≡ 0 = omega arith in
    sym (head.invariant ∙ rw none)
