-- What settle refuses, without 16, or the messages.
use Rattle.std.proofs.Common.{sym, ◌∙◌}
use Rattle.arbitration_rules.specs.Reply.{asked}
use Rattle.arbitration_messages.proofs.Whole.{apart}
use Rattle.night.proofs.Refused.{form-none, form-is, form-passed}
use Rattle.night.proofs.refusals.form.Goals as goal
use Rattle.night.proofs.refusals.form.Goals.{in_default-via-in-Err+else-found-ne16, in_default-via-in_default}

pub returns-in-Err : goal.returns-in-Err
returns-in-Err c =
    let a = c.args in
    let request = asked a.bytes.now a.parts.now a.counts.now a.acks.now in
    form-is request _ (sym c.settle.ensures ∙ c.in-Err.is) c.if-found-ne16.true

pub returns-in_default : goal.returns-in_default
returns-in_default c =
    let a = c.args in
    let request = asked a.bytes.now a.parts.now a.counts.now a.acks.now in
    c.gather.ensures
    ∙ apart a.bytes.now a.parts.now a.counts.now a.acks.now
    ∙ elim c.in_default.branch [
      | in_default-via-in-Err+else-found-ne16 w ↦
          form-none request _ (sym c.settle.ensures ∙ w.in-Err.is) w.if-found-ne16.false
      | in_default-via-in_default w ↦ form-passed request _ (sym c.settle.ensures ∙ w.in_default.is)
    ]
