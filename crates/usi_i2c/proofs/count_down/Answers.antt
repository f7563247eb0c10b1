-- At CNT=0 there is nothing to count down.
use mathlib.Core.Path.{sym, ap, ◌∙◌}
use Prim.Native.Nat.{ℕ, ◌-◌}
use lib.Bits.{bit_and, bit_or, or_zero_r}
use Rattle.usi_i2c.proofs.count_down.Goals as goal

pub returns-then-count-eq0 : goal.returns-then-count-eq0
returns-then-count-eq0 c =
    let kept = bit_and c.args.usicnt 0xe0 in
    sym (ap (λ (count : ℕ). bit_or kept (count - 1)) c.if-count-eq0.true ∙ or_zero_r kept)
