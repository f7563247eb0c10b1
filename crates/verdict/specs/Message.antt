-- Where a message lies in what is sent.
use Rattle.std.specs.Prelude.{ℕ, ◌≤◌, ◌-◌, ◌≡◌, List, [], length, get_or, take, drop}
use Rattle.arbitration_rules.specs.Reply.{cut}
use Rattle.verdict.specs.declared.messages.Span.{Span}

-- from one index to another lies the message of that index, nothing past the last
pub record MessageAt (lengths sent : List ℕ) (index : ℕ) (found : Span) : Type 0 where
  pub ordered : found.from ≤ found.to
  pub within : found.to ≤ length sent
  pub same : take (found.to - found.from) (drop found.from sent) ≡ get_or (cut lengths sent) index []
