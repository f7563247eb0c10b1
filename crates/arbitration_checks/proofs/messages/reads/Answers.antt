use Prim.Native.Nat.{ℕ}
use mathlib.Core.Path.{◌≡◌, sym, ◌∙◌}
use mathlib.Core.Bool.{Bool, false}
use mathlib.Core.List.{List}
use lib.ListN.{get_or}
use Rattle.std.proofs.Common.{rules, tests}
use Rattle.std.proofs.lemmas.Iterator.{YieldsList-from_slice}
use Rattle.std.proofs.lemmas.Iterator.Search.{any_from_yields_List}
use Rattle.bits.specs.Positions.{is_set}
use Rattle.laws.specs.Search.{any}
use Rattle.arbitration_rules.specs.Reply.{reads, reads_again}
use Rattle.arbitration_checks.proofs.SearchedMessages.{any-listed}
use Rattle.arbitration_checks.proofs.messages.reads.Goals as goal

then-any : (message : List ℕ) (answer : Bool) → is_set 0 (get_or message 0 0) ≡ false → answer ≡ any reads_again message
    → answer ≡ reads message
then-any message answer is same = rw is same

pub returns-else-odd : goal.returns-else-odd
returns-else-odd c =
    let message = c.args.message.now in
    let first : c.unwrap_or-first.result ≡ get_or message 0 0 = search rules in
    then-any message _ (rw (← first) (sym c.odd.ensures ∙ c.if-odd.false))
    (any_from_yields_List reads_again _ _ c.any.result c.any.ensures.ran (YieldsList-from_slice message cc)
    (λ x b q k. search (rules, tests))
    ∙ sym (any-listed reads_again message))
