-- Verdicts of worked loads, each of arbitrate's reply.
use Prim.Native.Nat.{ℕ}
use mathlib.Core.Path.{◌≡◌, refl}
use mathlib.Core.List.{List, [], ◌∷◌, zip_with}
use Rattle.laws.specs.Same.{same}
use Rattle.usi_registers.specs.Rules.{count_flags}
use Rattle.usi_i2c.specs.Rules.{condition_flags, condition_count, loss_control, loss_flags, end_flags, phase_after}
use Rattle.usi.specs.Step.{followed, settled, write_byte, edged, fallen, risen, sample, tick}
use Rattle.arbitration_rules.specs.Masters.{applied, judged}
use Rattle.arbitration_rules.specs.Outcome.{undecided}
use Rattle.arbitration_rules.specs.Reply.{Request, asked, refusal, refused, answered, arbitrated}
use Rattle.arbitration_rules.specs.Run.{wire, performed, through, restarting, run}
use Rattle.arbitration_rules.specs.Cleared.{cleared_at, cleared_in, cleared_by}
use Rattle.arbitration_rules.proofs.Single.{single}
use Rattle.arbitration_messages.specs.Gathered.{passing}
use Rattle.verdict.specs.declared.Verdict.{Verdict}
use Rattle.verdict.specs.declared.Verdict.TheVariants.{Refused, Undecided, Cut, Sent}
use Rattle.verdict.specs.Verdict.{ended, verdict_of, verdict_for}

-- the verdict of the reply to a load, with room for three masters, two bytes and a restart
abbrev pub verdict : Request → Verdict
verdict request = verdict_for (arbitrated request 3 2 44) request

-- all that it is made of unfolds with this
unfoldable computed : Request → Verdict
unfolding same count_flags condition_flags condition_count loss_control loss_flags end_flags phase_after followed settled
    write_byte edged fallen risen sample tick zip_with applied judged undecided refusal refused answered wire performed
    through restarting run cleared_at cleared_in cleared_by arbitrated passing ended verdict_of
computed request = verdict request

-- ---- messages of one part
-- messages 90 12 and 90 0F
abbrev eighth : List ℕ → Request
eighth acknowledges = single (0x90 ∷ 0x12 ∷ 0x90 ∷ 0x0f ∷ []) (2 ∷ 2 ∷ []) acknowledges

-- P8: acknowledges 0 0: the second is sent
pub P8-sent : verdict (eighth (0 ∷ 0 ∷ [])) ≡ Sent 2
unfolding computed
P8-sent = refl

-- its last byte not acknowledged: cut at the second byte
pub P8-cut : verdict (eighth (0 ∷ 1 ∷ [])) ≡ Cut 2
unfolding computed
P8-cut = refl

-- P9: acknowledges 1 0: both boards are still in, and want different bytes next
pub P9-undecided : verdict (eighth (1 ∷ 0 ∷ [])) ≡ Undecided
unfolding computed
P9-undecided = refl

-- the same message twice, acknowledges 1 0: cut at the first byte
pub twice_cut : verdict (single (0x90 ∷ 0x12 ∷ 0x90 ∷ 0x12 ∷ []) (2 ∷ 2 ∷ []) (1 ∷ 0 ∷ [])) ≡ Cut 1
unfolding computed
twice_cut = refl

-- messages 90 and 90 00
abbrev tenth : List ℕ → Request
tenth acknowledges = single (0x90 ∷ 0x90 ∷ 0x00 ∷ []) (1 ∷ 2 ∷ []) acknowledges

-- P10: acknowledges 0 0: refused
pub P10-refused : verdict (tenth (0 ∷ 0 ∷ [])) ≡ Refused 16
unfolding computed
P10-refused = refl

-- P11: acknowledges 1 0: one board is through and the other is not
pub P11-undecided : verdict (tenth (1 ∷ 0 ∷ [])) ≡ Undecided
unfolding computed
P11-undecided = refl

-- P12: messages 90, 90 00 and 50, acknowledges 0 0: the third is sent
pub P12-sent : verdict (single (0x90 ∷ 0x90 ∷ 0x00 ∷ 0x50 ∷ []) (1 ∷ 2 ∷ 1 ∷ []) (0 ∷ 0 ∷ [])) ≡ Sent 1
unfolding computed
P12-sent = refl

-- ---- a repeated START: messages [02][04] and [06][04]
abbrev restarted : List ℕ → Request
restarted acknowledges =
    asked (0x02 ∷ 0x04 ∷ 0x06 ∷ 0x04 ∷ []) (1 ∷ 1 ∷ 1 ∷ 1 ∷ []) (2 ∷ 2 ∷ []) acknowledges

-- the first is sent, two bytes
pub restart-sent : verdict (restarted (0 ∷ 0 ∷ [])) ≡ Sent 2
unfolding computed
restart-sent = refl

-- its first part's last byte not acknowledged: cut there, before the restart
pub restart-cut : verdict (restarted (1 ∷ 0 ∷ [])) ≡ Cut 1
unfolding computed
restart-cut = refl

-- [02][04] and [02 04] have the same bytes and differ: acknowledges 1 0 decide nothing, 0 0 are refused
abbrev parted : List ℕ → Request
parted acknowledges = asked (0x02 ∷ 0x04 ∷ 0x02 ∷ 0x04 ∷ []) (1 ∷ 1 ∷ 2 ∷ []) (2 ∷ 1 ∷ []) acknowledges

pub parts-undecided : verdict (parted (1 ∷ 0 ∷ [])) ≡ Undecided
unfolding computed
parts-undecided = refl

pub parts-refused : verdict (parted (0 ∷ 0 ∷ [])) ≡ Refused 16
unfolding computed
parts-refused = refl

-- parts that do not sum to the bytes: refused
pub lengths-refused : verdict (asked (0x02 ∷ 0x04 ∷ []) (2 ∷ []) (1 ∷ 1 ∷ []) (0 ∷ 0 ∷ [])) ≡ Refused 13
unfolding computed
lengths-refused = refl
