-- Two messages compared, and the least of several, found by comparing.
use Rattle.std.specs.Prelude.{ℕ, ◌≤◌, ◌+◌, ◌-◌, ◌≡◌, List, [], length, take, drop, get_or}
use Rattle.laws.specs.Search.{first}
use Rattle.arbitration_rules.specs.Outcome.{at_most, least}
use Rattle.arbitration_rules.specs.Reply.{Request, cut}
use Rattle.arbitration_messages.specs.Gathered.{passing}
use Rattle.arbitration_checks.specs.declared.order.Compared.{Compared}
use Rattle.arbitration_checks.specs.declared.order.Located.{Located}
use Rattle.arbitration_checks.specs.declared.order.Least.{Least}

-- a comparison takes the count of comparisons, and hands it back with itself counted
abbrev pub compared_of : List ℕ → List ℕ → ℕ → Compared
compared_of message other comparisons = record { precedes = at_most message other; comparisons = comparisons + 1 }

-- the first of the messages that are least
abbrev pub least_index : List (List ℕ) → ℕ
least_index messages = first (λ message. at_most message (least messages)) messages

-- found with one comparison for each message but the first (Ask 3)
abbrev pub least_among : List (List ℕ) → Least
least_among messages = record { index = least_index messages; comparisons = length messages - 1 }

-- that of a request; 0 and 0 where 12 or 13 applies
abbrev pub least_of : Request → Least
least_of request = least_among (passing request)

-- The least of the messages that lie in what is sent: it stands at the index, it lies from one index to another, and
-- the messages before it are not least.
pub record LeastAt (lengths sent : List ℕ) (found : Located) : Type 0 where
  pub there : get_or (cut lengths sent) found.index [] ≡ least (cut lengths sent)
  pub foremost : found.index ≡ least_index (cut lengths sent)
  pub counted : found.comparisons ≡ length lengths - 1
  pub ordered : found.from ≤ found.to
  pub within : found.to ≤ length sent
  pub same : take (found.to - found.from) (drop found.from sent) ≡ least (cut lengths sent)
