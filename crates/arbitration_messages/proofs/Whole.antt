-- What a caller has of the messages that are gathered: the messages in what is sent, or none.
use Prim.Native.Nat.{ℕ, ◌≤◌, ◌-◌}
use mathlib.Core.Path.{◌≡◌, refl, ap, ap₂}
use mathlib.Core.List.{List, []}
use native.Mathlib.Omega.{arith}
use borrow.Author.Tests.{eq-eqb, ne_eqb}
use lib.ListN.{length, take, replicate, length-append}
use lib.Seq.{take-append_seam}
use Rattle.std.specs.Prelude.{Ok, Err}
use Rattle.laws.specs.declared.Refusal.{Refusal}
use Rattle.laws.specs.Refusals.{given}
use Rattle.laws.proofs.Refusals.{Numbered, unrefused, passed_ok, ok_same, err_given, err-numbered}
use Rattle.arbitration_rules.specs.Limits.{max_masters}
use Rattle.arbitration_rules.specs.Reply.{Request, cut, sent_of, lengths_of, shape_checks}
use Rattle.arbitration_messages.specs.declared.Messages.{Messages}
use Rattle.arbitration_messages.specs.Marks.{max_sent}
use Rattle.arbitration_rules.specs.Reply.{asked}
use Rattle.arbitration_messages.specs.Gathered.{sending, gathered, passing}

pub shape-numbered : (request : Request) → Numbered (shape_checks request)
shape-numbered request = ((λ e. omega arith), ((λ e. omega arith), tt))

module _ (request : Request) (messages : Messages) (is : gathered request ≡ Ok messages) where
  sending-is : sending (sent_of request) (lengths_of request) ≡ messages
  unfolding gathered
  sending-is = ok_same (shape_checks request) (sending (sent_of request) (lengths_of request)) messages is

  -- past 12 and 13
  pub nothing-refused : (given (shape_checks request)).number ≡ 0
  unfolding gathered
  nothing-refused =
      let all = passed_ok (shape_checks request) (sending (sent_of request) (lengths_of request)) messages is in
      ap (λ (r : Refusal). r.number) (unrefused (shape_checks request) all)

  pub size-within : messages.size ≤ length messages.sent
  size-within =
      let sent = sent_of request in
      rw (← sending-is) (omega (arith, length-append sent (replicate (max_sent - length sent) 256)))

  pub count-within : messages.count ≤ length messages.lengths
  count-within =
      let lengths = lengths_of request in
      rw (← sending-is) (omega (arith, length-append lengths (replicate (max_masters - length lengths) 0)))

  pub sent-whole : take messages.size messages.sent ≡ sent_of request
  sent-whole =
      let sent = sent_of request in
      rw (← sending-is) (take-append_seam sent (replicate (max_sent - length sent) 256))

  pub lengths-whole : take messages.count messages.lengths ≡ lengths_of request
  lengths-whole =
      let lengths = lengths_of request in
      rw (← sending-is) (take-append_seam lengths (replicate (max_masters - length lengths) 0))

  pub whole : cut (take messages.count messages.lengths) (take messages.size messages.sent) ≡ passing request
  unfolding passing
  whole =
      rw (eq-eqb (given (shape_checks request)).number 0 nothing-refused)
      (ap₂ cut lengths-whole sent-whole)

-- where one of both applies there is none
pub none-whole : (request : Request) (r : Refusal) → gathered request ≡ Err r → [] ≡ passing request
unfolding gathered passing
none-whole request r is =
    let checks = shape_checks request in
    let whole = sending (sent_of request) (lengths_of request) in
    let some = err-numbered checks whole r (shape-numbered request) is in
    rw (err_given checks whole r is, ne_eqb r.number 0 some) refl

-- acknowledges play no part
pub apart : (bytes parts counts acknowledges : List ℕ)
    → gathered (asked bytes parts counts []) ≡ gathered (asked bytes parts counts acknowledges)
unfolding gathered
apart bytes parts counts acknowledges = refl
