-- The night round by round: after k rounds the k least of the different messages are carried.
use Prim.Native.Nat.{ℕ, zero, suc, ◌≤◌, ◌<◌}
use native.Mathlib.Omega.{arith}
use mathlib.Core.Path.{◌≡◌, refl, ap, ap₂, sym, subst, ◌∙◌}
use mathlib.Core.Bool.{Bool, cond, true, false}
use mathlib.Core.List.{List, [], map, zip_with}
use mathlib.Core.Option.{Option, none, some}
use lib.Dec.{eqb, leb}
use lib.ListN.{length, get_or}
use borrow.Author.Tests.{eq-eqb, ne_eqb, eqb-true, eqb-false, leb-true, leb-false, le-leb, lt-leb}
use Rattle.usi.specs.declared.Usi.{Usi}
use Rattle.laws.specs.Everyone.{Everyone}
use Rattle.laws.specs.Search.{any}
use Rattle.laws.proofs.Lists.{everyone, everyone-so, everyone-both, everyone-map, someone-so, someone-map, map-alike}
use Rattle.laws.proofs.Lists.{any-one, any_none, someone-length}
use Rattle.arbitration_rules.specs.Outcome.{least, loss_from}
use Rattle.arbitration_rules.specs.Run.{run}
use Rattle.arbitration_rules.specs.Reply.{longest}
use Rattle.arbitration_rules.specs.Final.{final_master}
use Rattle.arbitration_rules.proofs.LeastMessage.{AtMost}
use Rattle.arbitration_rules.proofs.Pieces.{taken}
use Rattle.arbitration_rules.proofs.Demand.{Arbitration}
use Rattle.night_rules.specs.Different.{smaller, different, smaller_count, round_of}
use Rattle.night_rules.specs.Night.{Night, waiting, needed, arbitration, left_by, carried_by, round_by, entered}
use Rattle.night_rules.specs.Night.{after_round, waits, night_after}
use Rattle.night_rules.proofs.Order.{not-smaller, neither-smaller}
use Rattle.night_rules.proofs.Different.{Among, different-rising, different-among, different-all, count-smaller}
use Rattle.night_rules.proofs.Different.{count-within, everyone-at, among-at, count_at}
use Rattle.night_rules.proofs.Round.{Admitted, waiting-so, waiting-admitted, round-arbitration, carried_usi}
use Rattle.night_rules.proofs.Round.{left-itself, left_other, Carries, round-carries}
use Rattle.night_rules.proofs.Waiting.{least-is, waiting_none, waiting_among, carried-is, rounds-by}
use Rattle.night_rules.proofs.Waiting.{latest, entered-none, entered-twice}

-- after k rounds: the round of a message, 0 while it waits; what those rounds left of it
abbrev pub reached : List (List ℕ) → ℕ → List ℕ → ℕ
reached messages k message = cond (leb (round_of messages message) k) (round_of messages message) 0

abbrev pub left : List (List ℕ) → ℕ → List ℕ → Option Usi
left messages k message = cond (leb (round_of messages message) k) (some carried_usi) none

abbrev pub night_at : List (List ℕ) → List Usi → ℕ → Night
night_at messages table k =
    record {
      rounds = map (reached messages k) messages;
      table = entered (map (left messages k) messages) table;
      count = k;
    }

-- what the round after them leaves
abbrev now : List (List ℕ) → ℕ → List ℕ → Option Usi
now messages k message = cond (eqb (round_of messages message) (suc k)) (some carried_usi) none

-- a message waits as long as its round has not come
reached-none : (messages : List (List ℕ)) (k : ℕ) (message : List ℕ) → reached messages k message ≡ 0
    → k < round_of messages message
reached-none messages k message is = go (leb (round_of messages message) k) refl is
  where
    go : (past : Bool) → leb (round_of messages message) k ≡ past → cond past (round_of messages message) 0 ≡ 0
        → k < round_of messages message
    go true past is = absurd (omega arith)
    go false past is = leb-false (round_of messages message) k past

not-reached : (messages : List (List ℕ)) (k : ℕ) (message : List ℕ) → k < round_of messages message
    → reached messages k message ≡ 0
not-reached messages k message later = rw (lt-leb (round_of messages message) k later)

-- and once carried it takes part no more
past-none : (messages : List (List ℕ)) (k : ℕ) (message : List ℕ) → (reached messages k message ≡ 0 → ⊥)
    → now messages k message ≡ none
past-none messages k message past = go (leb (round_of messages message) k) refl
  where
    go : (before : Bool) → leb (round_of messages message) k ≡ before → now messages k message ≡ none
    go true before =
        let earlier : round_of messages message ≤ k = leb-true (round_of messages message) k before in
        rw (ne_eqb (round_of messages message) (suc k) (λ e. omega arith))
    go false later =
        absurd (past (not-reached messages k message (leb-false (round_of messages message) k later)))

-- one round on: a message's round is over, is this one, or is to come
by-round : (P : Bool → Bool → Bool → Type 0) (round k : ℕ) → (round ≤ k → P true false true)
    → (round ≡ suc k → P false true true) → (suc k < round → P false false false)
    → P (leb round k) (eqb round (suc k)) (leb round (suc k))
by-round P round k over this-one to-come = go (leb round k) refl (eqb round (suc k)) refl
  where
    go : (past : Bool) → leb round k ≡ past → (comes : Bool) → eqb round (suc k) ≡ comes
        → P (leb round k) (eqb round (suc k)) (leb round (suc k))
    go true past comes is =
        let before : round ≤ k = leb-true round k past in
        rw (past, ne_eqb round (suc k) (λ e. omega arith), le-leb round (suc k) (omega arith)) (over before)
    go false past true is =
        let same : round ≡ suc k = eqb-true round (suc k) is in
        rw (past, is, le-leb round (suc k) (omega arith)) (this-one same)
    go false past false is =
        let later : k < round = leb-false round k past in
        let other : round ≡ suc k → ⊥ = eqb-false round (suc k) is in
        let after : suc k < round = omega arith in
        rw (past, is, lt-leb round (suc k) after) (to-come after)

reached-next : (messages : List (List ℕ)) (k : ℕ) (message : List ℕ)
    → round_by (suc k) (reached messages k message) (now messages k message) ≡ reached messages (suc k) message
reached-next messages k message =
    by-round
    (λ past comes next. round_by (suc k) (cond past round 0) (cond comes (some carried_usi) none) ≡ cond next round 0)
    round k (λ over. refl) (λ this-one. sym this-one) (λ to-come. refl)
  where
    round : ℕ
    round = round_of messages message

left-next : (messages : List (List ℕ)) (k : ℕ) (message : List ℕ)
    → latest (now messages k message) (left messages k message) ≡ left messages (suc k) message
left-next messages k message =
    by-round
    (λ past comes next. latest (cond comes (some carried_usi) none) (cond past (some carried_usi) none)
    ≡ cond next (some carried_usi) none)
    (round_of messages message) k (λ over. refl) (λ this-one. refl) (λ to-come. refl)

module _ (messages : List (List ℕ)) (acknowledges : List ℕ) (given : Admitted messages acknowledges) where
  -- the round to come, where k messages of the different ones are carried and one more is left
  module _ (k : ℕ) (inside : k < length (different messages)) where
    abbrev pub winner : List ℕ
    winner = get_or (different messages) k []

    abbrev pub contenders : List (List ℕ)
    contenders = waiting (map (reached messages k) messages) messages

    -- its round is this one
    winner-round : smaller_count winner (different messages) ≡ k
    winner-round = count_at (different-rising messages) k inside

    winner-waits : Among winner contenders
    winner-waits =
        waiting_among (reached messages k) winner (everyone-at (different-among messages) k inside)
        (not-reached messages k winner (omega (arith, winner-round)))

    -- everyone who waits: its round is to come, and it is one of the different messages
    pub contenders-later : Everyone
        (λ message. (k < round_of messages message) × Among message (different messages)) contenders
    contenders-later =
        everyone-both
        (everyone-so (λ message. reached-none messages k message) (waiting_none (reached messages k) messages))
        (waiting-so (map (reached messages k) messages) (different-all messages))

    -- so the winner is the least of them
    pub winner-least : least contenders ≡ winner
    winner-least =
        least-is contenders winner winner-waits
        (everyone-so (λ message both. at_least message both.0 both.1) contenders-later)
      where
        at_least : (message : List ℕ) → k < round_of messages message → Among message (different messages)
            → AtMost winner message
        at_least message later among = go (smaller message winner) refl
          where
            go : (less : Bool) → smaller message winner ≡ less → AtMost winner message
            go true less = absurd (omega (arith, count-smaller message winner among less, winner-round))
            go false less = not-smaller message winner less

    -- no round is refused
    pub contenders-arbitration : Arbitration contenders (needed contenders acknowledges)
    contenders-arbitration =
        round-arbitration contenders acknowledges (waiting-admitted (map (reached messages k) messages) given)
        (someone-length winner-waits)

    -- it carries the winner, whole
    pub contenders-carry : Carries contenders (needed contenders acknowledges) winner
    contenders-carry =
        subst (Carries contenders (needed contenders acknowledges)) winner-least
        (round-carries contenders (needed contenders acknowledges) contenders-arbitration
        (taken given.acknowledged (longest (map length contenders))))

    -- whose round this is has the winner's message, and the others have not
    same-round : (message : List ℕ) → Among message (different messages) → round_of messages message ≡ suc k
        → message ≡ winner
    same-round message among round =
        go (smaller message winner) refl (smaller winner message) refl
      where
        go : (less : Bool) → smaller message winner ≡ less → (more : Bool) → smaller winner message ≡ more
            → message ≡ winner
        go true less more more? = absurd (omega (arith, count-smaller message winner among less, winner-round))
        go false less true more =
            let there : Among winner (different messages) = among-at (different messages) k inside in
            absurd (omega (arith, count-smaller winner message there more, winner-round))
        go false less false more = neither-smaller message winner less more

    contender-left : (message : List ℕ) → Among message (different messages)
        → (loss_from 0 winner message ≡ none → message ≡ winner)
        → left_by (final_master winner message) ≡ now messages k message
    contender-left message among still = go (eqb (round_of messages message) (suc k)) refl
      where
        go : (this-one : Bool) → eqb (round_of messages message) (suc k) ≡ this-one
            → left_by (final_master winner message) ≡ cond this-one (some carried_usi) none
        go true is =
            ap (λ own. left_by (final_master winner own))
            (same-round message among (eqb-true (round_of messages message) (suc k) is))
            ∙ left-itself winner
        go false is =
            left_other winner message
            (λ none-lost. eqb-false (round_of messages message) (suc k) is
            (ap (round_of messages) (still none-lost) ∙ ap suc winner-round))

    -- so the night goes on by one
    night-next : (table : List Usi)
        → after_round messages acknowledges (night_at messages table k) ≡ night_at messages table (suc k)
    unfolding after_round arbitration
    night-next table =
        ap (λ carried. made (zip_with (round_by (suc k)) (map (reached messages k) messages) carried)
        (entered carried (entered (map (left messages k) messages) table))) leaves
        ∙ ap₂ made
        (rounds-by (suc k) (reached messages k) (now messages k) messages
        ∙ map-alike (everyone (reached-next messages k) messages))
        (entered-twice (now messages k) (left messages k) messages table
        ∙ ap (λ l. entered l table) (map-alike (everyone (left-next messages k) messages)))
      where
        made : List ℕ → List Usi → Night
        made rounds entries = record { rounds = rounds; table = entries; count = suc k }

        leaves : carried_by (map (reached messages k) messages)
            (run contenders (needed contenders acknowledges)).masters ≡ map (now messages k) messages
        leaves =
            ap (carried_by (map (reached messages k) messages)) contenders-carry.masters
            ∙ carried-is (reached messages k) (final_master winner) (now messages k) messages
            (everyone-so (λ message both. contender-left message both.0.1 both.1)
            (everyone-both contenders-later contenders-carry.together))
            (past-none messages k)

    -- someone waits for it
    pub someone-waits : any waits (map (reached messages k) messages) ≡ true
    someone-waits =
        any-one
        (someone-map (reached messages k)
        (someone-so
        (λ message same. ap (λ own. waits (reached messages k own)) same
        ∙ eq-eqb (reached messages k winner) 0 (not-reached messages k winner (omega (arith, winner-round))))
        (everyone-at (different-among messages) k inside)))

  -- every message's round comes
  pub round-within : Everyone (λ message. round_of messages message ≤ length (different messages)) messages
  round-within =
      everyone-so (λ message among. count-within message among) (different-all messages)

  pub nobody-waits : any waits (map (reached messages (length (different messages))) messages) ≡ false
  nobody-waits =
      any_none {f = waits}
      (everyone-map (reached messages (length (different messages)))
      (everyone-so
      (λ message within. rw (le-leb (round_of messages message) (length (different messages)) within)
      (ne_eqb (round_of messages message) 0 (λ e. omega arith)))
      round-within))

  -- the night after k rounds
  pub night-at : (table : List Usi) (k : ℕ) → k ≤ length (different messages)
      → night_after k messages acknowledges table ≡ night_at messages table k
  night-at table zero inside =
      ap₂ made (map-alike (everyone (λ message. sym (not-reached messages 0 message (omega arith))) messages))
      (sym (entered-none messages table)
      ∙ ap (λ l. entered l table)
      (map-alike (everyone (λ message. sym (not_left message)) messages)))
    where
      made : List ℕ → List Usi → Night
      made rounds entries = record { rounds = rounds; table = entries; count = 0 }

      not_left : (message : List ℕ) → left messages 0 message ≡ none
      not_left message = rw (lt-leb (round_of messages message) 0 (omega arith))
  night-at table (suc k) inside =
      ap (λ (night : Night). cond (any waits night.rounds) (after_round messages acknowledges night) night)
      (night-at table k (omega arith))
      ∙ rw (someone-waits k inside) (night-next k inside table)

  -- and no round is left after the last of them
  pub night-over : (table : List Usi) (most : ℕ) → length (different messages) ≤ most
      → night_after most messages acknowledges table ≡ night_at messages table (length (different messages))
  night-over table zero enough =
      night-at table zero (omega arith)
      ∙ ap (night_at messages table) (omega arith)
  night-over table (suc most) enough =
      go (leb (length (different messages)) most) refl (night-over table most)
    where
      go : (within : Bool) → leb (length (different messages)) most ≡ within
          → (length (different messages) ≤ most
          → night_after most messages acknowledges table ≡ night_at messages table (length (different messages)))
          → night_after (suc most) messages acknowledges table
          ≡ night_at messages table (length (different messages))
      go true within earlier =
          ap (λ (night : Night). cond (any waits night.rounds) (after_round messages acknowledges night) night)
          (earlier (leb-true (length (different messages)) most within))
          ∙ rw nobody-waits
      go false within earlier =
          let last : suc most ≡ length (different messages) =
          omega (arith, leb-false (length (different messages)) most within) in
          night-at table (suc most) (omega arith) ∙ ap (night_at messages table) last
