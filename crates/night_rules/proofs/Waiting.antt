-- The messages that wait, by a rule that gives each its round; what a round leaves of them, put back in its place.
use Prim.Native.Nat.{ℕ, zero, suc, ◌≤◌}
use native.Mathlib.Omega.{arith}
use mathlib.Core.Path.{◌≡◌, refl, ap, ap₂, sym, subst, ◌∙◌}
use mathlib.Core.List.{List, [], ◌∷◌, ◌++◌, map, zip_with}
use mathlib.Core.Option.{Option, none, some}
use lib.ListN.{length, drop, replicate}
use Rattle.usi.specs.declared.Usi.{Usi}
use Rattle.laws.specs.Everyone.{Everyone, nobody, also, this, another}
use Rattle.arbitration_rules.specs.Masters.{Master}
use Rattle.arbitration_rules.specs.Outcome.{least}
use Rattle.arbitration_rules.proofs.LeastMessage.{AtMost, at-most, least-at-most, least-too}
use Rattle.night_rules.specs.Night.{waiting, left_by, carried_by, round_by, entered}
use Rattle.night_rules.proofs.Order.{at-most-equal}
use Rattle.night_rules.proofs.Different.{Among}

-- what holds of all holds of one of them
pub among-so : {P : List ℕ → Type 0} {message : List ℕ} {messages : List (List ℕ)} → Everyone P messages
    → Among message messages → P message
among-so {P = P} {message = message} nobody among = elim among [ ]
among-so {P} (also p more) (this same) = subst P same p
among-so (also p more) (another among) = among-so more among

-- the least message, known by the order
pub least-is : (messages : List (List ℕ)) (winner : List ℕ) → Among winner messages
    → Everyone (AtMost winner) messages → least messages ≡ winner
least-is [] winner among order = elim among [ ]
least-is (message ∷ messages) winner among order =
    at-most-equal
    (at-most (least (message ∷ messages)) winner (among-so (least-at-most (message ∷ messages)) among))
    (least-too message messages order)

module _ (round_of : List ℕ → ℕ) where
  -- who waits has no round yet
  pub waiting_none : (messages : List (List ℕ))
      → Everyone (λ message. round_of message ≡ 0) (waiting (map round_of messages) messages)
  waiting_none [] = nobody
  waiting_none (message ∷ messages) = go (round_of message) refl (waiting_none messages)
    where
      go : (round : ℕ) → round_of message ≡ round
          → Everyone (λ own. round_of own ≡ 0) (waiting (map round_of messages) messages)
          → Everyone (λ own. round_of own ≡ 0) (waiting (round ∷ map round_of messages) (message ∷ messages))
      go zero is rest = also is rest
      go (suc round) is rest = rest

  -- and who has none waits
  pub waiting_among : (message : List ℕ) {messages : List (List ℕ)} → Among message messages → round_of message ≡ 0
      → Among message (waiting (map round_of messages) messages)
  waiting_among message (this {a = own} {l = messages} same) first =
      go (round_of own) (ap round_of same ∙ first)
    where
      go : (round : ℕ) → round ≡ 0 → Among message (waiting (round ∷ map round_of messages) (own ∷ messages))
      go zero is = this same
      go (suc round) is = absurd (omega arith)
  waiting_among message (another {a = own} {l = messages} among) first =
      go (round_of own) (waiting_among message among first)
    where
      go : (round : ℕ) → Among message (waiting (map round_of messages) messages)
          → Among message (waiting (round ∷ map round_of messages) (own ∷ messages))
      go zero rest = another rest
      go (suc round) rest = rest

  -- what a round leaves of each message, from what it leaves of those that wait
  module _ (master : List ℕ → Master) (left : List ℕ → Option Usi) where
    abbrev Leaves : List ℕ → Type 0
    Leaves message = left_by (master message) ≡ left message

    pub carried-is : (messages : List (List ℕ)) → Everyone Leaves (waiting (map round_of messages) messages)
        → ((message : List ℕ) → (round_of message ≡ 0 → ⊥) → left message ≡ none)
        → carried_by (map round_of messages) (map master (waiting (map round_of messages) messages)) ≡ map left messages
    carried-is [] leaves past = refl
    carried-is (message ∷ messages) leaves past =
        go (round_of message) refl leaves (λ rest. carried-is messages rest past)
      where
        others : List (List ℕ)
        others = waiting (map round_of messages) messages

        go : (round : ℕ) → round_of message ≡ round
            → Everyone Leaves (waiting (round ∷ map round_of messages) (message ∷ messages))
            → (Everyone Leaves others → carried_by (map round_of messages) (map master others) ≡ map left messages)
            → carried_by (round ∷ map round_of messages)
            (map master (waiting (round ∷ map round_of messages) (message ∷ messages)))
            ≡ left message ∷ map left messages
        go zero is (also first more) rest = ap₂ ◌∷◌ first (rest more)
        go (suc round) is leaves rest = ap₂ ◌∷◌ (sym (past message (λ none_yet. omega arith))) (rest leaves)

-- the rounds after it
pub rounds-by : (round : ℕ) (earlier : List ℕ → ℕ) (left : List ℕ → Option Usi) (messages : List (List ℕ))
    → zip_with (round_by round) (map earlier messages) (map left messages)
    ≡ map (λ message. round_by round (earlier message) (left message)) messages
unfolding zip_with
rounds-by round earlier left [] = refl
rounds-by round earlier left (message ∷ messages) =
    ap (λ l. round_by round (earlier message) (left message) ∷ l) (rounds-by round earlier left messages)

-- the table after it
abbrev pub latest : Option Usi → Option Usi → Option Usi
latest none before = before
latest (some usi) before = some usi

pub entered-none : (messages : List (List ℕ)) (table : List Usi)
    → entered (map (λ message. none) messages) table ≡ table
entered-none [] table = refl
entered-none (message ∷ messages) [] = refl
entered-none (message ∷ messages) (usi ∷ table) = ap (λ l. usi ∷ l) (entered-none messages table)

pub entered-twice : (left before : List ℕ → Option Usi) (messages : List (List ℕ)) (table : List Usi)
    → entered (map left messages) (entered (map before messages) table)
    ≡ entered (map (λ message. latest (left message) (before message)) messages) table
entered-twice left before [] table = refl
entered-twice left before (message ∷ messages) [] = refl
entered-twice left before (message ∷ messages) (usi ∷ table) =
    go (left message) (before message) (entered-twice left before messages table)
  where
    go : (one two : Option Usi)
        → entered (map left messages) (entered (map before messages) table)
        ≡ entered (map (λ own. latest (left own) (before own)) messages) table
        → entered (one ∷ map left messages) (entered (two ∷ map before messages) (usi ∷ table))
        ≡ entered (latest one two ∷ map (λ own. latest (left own) (before own)) messages) (usi ∷ table)
    go none none rest = ap (λ l. usi ∷ l) rest
    go none (some second) rest = ap (λ l. second ∷ l) rest
    go (some first) none rest = ap (λ l. first ∷ l) rest
    go (some first) (some second) rest = ap (λ l. first ∷ l) rest

-- one module in the entry of each message, the entries past them as they were
pub entered_all : (left : Usi) (messages : List (List ℕ)) (table : List Usi) → length messages ≤ length table
    → entered (map (λ message. some left) messages) table
    ≡ replicate (length messages) left ++ drop (length messages) table
entered_all left [] table enough = refl
entered_all left (message ∷ messages) [] enough = absurd (omega arith)
entered_all left (message ∷ messages) (usi ∷ table) enough =
    ap (λ l. left ∷ l) (entered_all left messages table (omega arith))
