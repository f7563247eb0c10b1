-- The night round by round, as the code has it.
use Prim.Native.Nat.{ℕ, zero, suc, ◌+◌, ◌-◌, ◌≤◌, ◌<◌}
use native.Mathlib.Omega.{arith}
use mathlib.Core.Path.{◌≡◌, refl, sym, ap, ap₂, subst, ◌∙◌}
use mathlib.Core.Bool.{Bool, cond, true, false, false≢true}
use mathlib.Core.List.{List, [], ◌∷◌, ◌++◌, map, zip_with}
use mathlib.Core.Option.{Option}
use lib.Dec.{leb}
use lib.ListN.{length, take, drop, replicate, length-map, length-append, length-drop, replicate-append-replicate}
use lib.Seq.{take_at, drop_at, length-take-le}
use borrow.Author.Tests.{leb-true, leb-false}
use Rattle.laws.specs.Buffer.{filled}
use Rattle.laws.specs.Search.{any}
use Rattle.laws.proofs.Loops.{drop-replicate}
use Rattle.usi.specs.declared.Usi.{Usi}
use Rattle.arbitration_rules.specs.declared.Seat.{Seat}
use Rattle.arbitration_rules.specs.Limits.{max_masters}
use Rattle.arbitration_rules.specs.Cleared.{cleared_by}
use Rattle.arbitration_rules.specs.Final.{final_master}
use Rattle.arbitration_rules.specs.Masters.{Master}
use Rattle.arbitration_rules.specs.Outcome.{carried_of}
use Rattle.arbitration_rules.specs.Run.{run}
use Rattle.arbitration_rules.specs.Reply.{Request, messages_of, padded, absent, seat_of}
use Rattle.arbitration_rules.proofs.Cut.{messages-count}
use Rattle.arbitration_rules.proofs.Pieces.{Bytes}
use Rattle.arbitration_rules.proofs.Demand.{Arbitration}
use Rattle.arbitration_rules.proofs.ClearedFlags.{run-clears}
use Rattle.arbitration_rules.proofs.FinalMasters.{final-masters}
use Rattle.arbitration.specs.declared.Rehearsed.{Rehearsed}
use Rattle.night_rules.specs.Different.{different}
use Rattle.night_rules.specs.Night.{Night, waiting, needed, arbitration, carried_by, round_by, entered, after_round, waits}
use Rattle.night_rules.specs.Night.{night_of, night_refusal, night_for}
use Rattle.night_rules.proofs.Different.{different-length}
use Rattle.night_rules.proofs.Round.{Admitted}
use Rattle.night_rules.proofs.Rounds.{reached, night_at, someone-waits, nobody-waits, night-at, night-over}
use Rattle.night_rules.proofs.Accepted.{admitted}
use Rattle.night.specs.declared.carried.Standing.{Standing}
use Rattle.night.specs.Carried.{carried_from, entered_by, night_in, standing_of, standing_after}
use Rattle.night.specs.Round.{Due, Contested}
use Rattle.night.proofs.Contests.{few, arbitrates}
use Rattle.night.proofs.Entering.{shown-carried}

-- only as many rounds as messages matter
pub waiting-front : (rounds : List ℕ) (messages : List (List ℕ))
    → waiting rounds messages ≡ waiting (take (length messages) rounds) messages
waiting-front [] [] = refl
waiting-front [] (message ∷ messages) = refl
waiting-front (round ∷ rounds) [] = refl
waiting-front (zero ∷ rounds) (message ∷ messages) =
    ap (λ (l : List (List ℕ)). message ∷ l) (waiting-front rounds messages)
waiting-front (suc round ∷ rounds) (message ∷ messages) = waiting-front rounds messages

-- what the arbitration of those that wait shows is what the round carries
module _ (before : List ℕ) (messages : List (List ℕ)) (acknowledges : List ℕ)
    (given : Arbitration (waiting before messages) (needed (waiting before messages) acknowledges))
    (alike : length before ≡ length messages) where
  abbrev waiters : List (List ℕ)
  waiters = waiting before messages

  abbrev answers : List ℕ
  answers = needed waiters acknowledges

  abbrev masters : List Master
  masters = (run waiters answers).masters

  carried_same : (seats : List Seat) (left modules : List Usi)
      → seats ≡ padded absent (zip_with seat_of (cleared_by waiters answers) masters)
      → left ≡ filled (map (λ (m : Master). m.usi) masters) modules
      → carried_from before seats left ≡ carried_by before masters
  carried_same seats left modules seated held =
      let final = final_master (carried_of waiters answers) in
      let rest = drop (length (map (λ (m : Master). m.usi) (map final waiters))) modules in
      let ended : masters ≡ map final waiters = final-masters waiters answers given in
      let shown = zip_with seat_of (map (λ message. 0x03) waiters) (map final waiters) in
      let seats-are : seats ≡ padded absent shown =
      seated ∙ ap₂ (λ (c : List ℕ) (m : List Master). padded absent (zip_with seat_of c m))
      (run-clears waiters answers given) ended in
      let left-are : left ≡ map (λ (m : Master). m.usi) (map final waiters) ++ rest =
      held ∙ ap (λ (m : List Master). filled (map (λ (one : Master). one.usi) m) modules) ended in
      ap₂ (carried_from before) seats-are left-are
      ∙ shown-carried final before messages (replicate (max_masters - length shown) absent) rest alike
      ∙ ap (carried_by before) (sym ended)

module _ (request : Request) (small : Bytes request.bytes)
    (passes : (night_refusal request max_masters max_masters).number ≡ 0) where
  abbrev messages : List (List ℕ)
  messages = messages_of request

  abbrev acknowledges : List ℕ
  acknowledges = request.acknowledges

  abbrev count : ℕ
  count = length request.counts

  -- a round
  pub round-after : (standing : Standing) (lengths : List ℕ) (shown : Rehearsed)
      → Due request lengths standing.rounds → length standing.rounds ≡ max_masters
      → Contested request standing.rounds standing.modules shown
      → entered_by count shown.reply.seats shown.modules standing ≡ standing_after request standing
  unfolding entered_by standing_after after_round arbitration
  round-after standing lengths shown due long contested =
      let one : standing.count + 1 ≡ suc standing.count = omega arith in
      ap (λ (number : ℕ). made number (carried_from before shown.reply.seats shown.modules)) one
      ∙ ap (made (suc standing.count)) carried
    where
      before : List ℕ
      before = take count standing.rounds

      made : ℕ → List (Option Usi) → Standing
      made number left =
          record {
            count = number;
            rounds = zip_with (round_by number) (take count standing.rounds) left ++ drop count standing.rounds;
            modules = entered left standing.modules;
          }

      front : waiting standing.rounds messages ≡ waiting (take count standing.rounds) messages
      front =
          waiting-front standing.rounds messages
          ∙ ap (λ (n : ℕ). waiting (take n standing.rounds) messages) (messages-count request)

      alike : length (take count standing.rounds) ≡ length messages
      alike =
          length-take-le count standing.rounds (omega (arith, few request passes, long))
          ∙ sym (messages-count request)

      carried : carried_from (take count standing.rounds) shown.reply.seats shown.modules
          ≡ carried_by (take count standing.rounds)
          (run (waiting (take count standing.rounds) messages)
          (needed (waiting (take count standing.rounds) messages) acknowledges)).masters
      carried =
          carried_same (take count standing.rounds) messages acknowledges
          (subst (λ (l : List (List ℕ)). Arbitration l (needed l acknowledges)) front
          (arbitrates request passes standing.rounds small due.someone))
          alike shown.reply.seats shown.modules standing.modules
          (subst
          (λ (l : List (List ℕ)). shown.reply.seats
          ≡ padded absent
          (zip_with seat_of (cleared_by l (needed l acknowledges)) (run l (needed l acknowledges)).masters))
          front contested.seats)
          (subst
          (λ (l : List (List ℕ)). shown.modules
          ≡ filled (map (λ (m : Master). m.usi) (run l (needed l acknowledges)).masters) standing.modules)
          front contested.left)

  -- the rounds
  module _ (table : List Usi) where
    abbrev given : Admitted messages acknowledges
    given = admitted request max_masters max_masters small passes

    abbrev pub most : ℕ
    most = length (different messages)

    abbrev pub standing_at : ℕ → Standing
    standing_at k = standing_of request (replicate max_masters 0) (night_at messages table k)

    pub most-few : most ≤ max_masters
    most-few = omega (arith, different-length messages, messages-count request, few request passes)

    same-zeros : (lists : List (List ℕ)) → map {B = ℕ} (λ message. 0) lists ≡ replicate (length lists) 0
    same-zeros [] = refl
    same-zeros (list ∷ lists) = ap (λ (l : List ℕ). 0 ∷ l) (same-zeros lists)

    pub stands-first : ◌≡◌ {A = Standing} (record { count = 0; rounds = replicate max_masters 0; modules = table })
        (standing_at 0)
    stands-first =
        ap (λ (rounds : List ℕ). made rounds) zeros
        ∙ ap (λ (night : Night). standing_of request (replicate max_masters 0) night)
        (night-at messages acknowledges given table 0 (omega arith))
      where
        made : List ℕ → Standing
        made rounds = record { count = 0; rounds = rounds; modules = table }

        zeros : replicate {A = ℕ} max_masters 0 ≡ map (λ message. 0) messages ++ drop count (replicate max_masters 0)
        zeros =
            let sum : count + (max_masters - count) ≡ max_masters = omega (arith, few request passes) in
            sym
            (ap₂ (λ (l k : List ℕ). l ++ k)
            (same-zeros messages ∙ ap (λ (n : ℕ). replicate n 0) (messages-count request))
            (drop-replicate 0 max_masters count (few request passes))
            ∙ replicate-append-replicate {A = ℕ} count (max_masters - count) 0
            ∙ ap (λ (n : ℕ). replicate n 0) sum)

    module _ (k : ℕ) where
      long : length (map (reached messages k) messages) ≡ count
      long = length-map messages (reached messages k) ∙ messages-count request

      pub rounds-front : take count (standing_at k).rounds ≡ map (reached messages k) messages
      rounds-front = take_at (map (reached messages k) messages) (drop count (replicate max_masters 0)) count long

      rounds-rest : drop count (standing_at k).rounds ≡ drop count (replicate max_masters 0)
      rounds-rest = drop_at (map (reached messages k) messages) (drop count (replicate max_masters 0)) count long

      night-is : night_in request (standing_at k) ≡ night_at messages table k
      night-is = ap (λ (rounds : List ℕ). made rounds) rounds-front
        where
          made : List ℕ → Night
          made rounds = record { rounds = rounds; table = (standing_at k).modules; count = k }

      -- someone waits as long as there are rounds to come
      pub more-rounds : k ≤ most → any waits (take count (standing_at k).rounds) ≡ true → k < most
      more-rounds within some = go (leb most k) refl
        where
          go : (over : Bool) → leb most k ≡ over → k < most
          go true is =
              let last : k ≡ most = omega (arith, leb-true most k is) in
              absurd (false≢true
              (sym (nobody-waits messages acknowledges given)
              ∙ ap (λ (n : ℕ). any waits (map (reached messages n) messages)) (sym last)
              ∙ ap (any waits) (sym rounds-front) ∙ some))
          go false is = leb-false most k is

      pub stands-next : k < most → standing_after request (standing_at k) ≡ standing_at (suc k)
      unfolding standing_after
      stands-next inside =
          ap (λ (night : Night). standing_of request (standing_at k).rounds
          (after_round messages acknowledges night)) night-is
          ∙ ap (λ (night : Night). standing_of request (standing_at k).rounds night) next
          ∙ ap (λ (rest : List ℕ). made rest) rounds-rest
        where
          made : List ℕ → Standing
          made rest =
              record {
                count = suc k;
                rounds = (night_at messages table (suc k)).rounds ++ rest;
                modules = (night_at messages table (suc k)).table;
              }

          next : after_round messages acknowledges (night_at messages table k) ≡ night_at messages table (suc k)
          next =
              let now = night_at messages table k in
              let taken : cond (any waits now.rounds) (after_round messages acknowledges now) now
              ≡ after_round messages acknowledges now =
              ap (λ (b : Bool). cond b (after_round messages acknowledges now) now)
              (someone-waits messages acknowledges given k inside) in
              sym taken
              ∙ sym
              (ap
              (λ (night : Night). cond (any waits night.rounds) (after_round messages acknowledges night) night)
              (night-at messages acknowledges given table k (omega arith)))
              ∙ night-at messages acknowledges given table (suc k) inside

      -- and where nobody waits it is over
      pub stands-last : k ≤ most → any waits (take count (standing_at k).rounds) ≡ false
          → standing_at k ≡ standing_of request (replicate max_masters 0) (night_for request table)
      unfolding night_of
      stands-last within nobody = go (leb most k) refl
        where
          go : (over : Bool) → leb most k ≡ over
              → standing_at k ≡ standing_of request (replicate max_masters 0) (night_for request table)
          go true is =
              let last : k ≡ most = omega (arith, leb-true most k is) in
              ap standing_at last
              ∙ ap (standing_of request (replicate max_masters 0))
              (sym (night-over messages acknowledges given table (length messages) (different-length messages)))
          go false is =
              absurd (false≢true
              (sym nobody ∙ ap (any waits) rounds-front
              ∙ someone-waits messages acknowledges given k (leb-false most k is)))

    -- what holds at the loop's head, and a turn
    module _ (standing : Standing) (within : standing.count ≤ most) (stands : standing ≡ standing_at standing.count)
      where
        here : (some : Bool) → any waits (take count standing.rounds) ≡ some
            → any waits (take count (standing_at standing.count).rounds) ≡ some
        here some is = ap (λ (s : Standing). any waits (take count s.rounds)) (sym stands) ∙ is

        pub stands-inside : any waits (take count standing.rounds) ≡ true → standing.count < most
        stands-inside some = more-rounds standing.count within (here true some)

        pub stands_on : (next : Standing) → any waits (take count standing.rounds) ≡ true
            → next ≡ standing_after request standing
            → (next.count ≡ suc standing.count) × (next ≡ standing_at next.count)
        stands_on next some is =
            let after : next ≡ standing_at (suc standing.count) =
            is ∙ ap (standing_after request) stands ∙ stands-next standing.count (stands-inside some) in
            let number : next.count ≡ suc standing.count = ap (λ (s : Standing). s.count) after in
            (number, after ∙ ap standing_at (sym number))

        pub stands-over : any waits (take count standing.rounds) ≡ false
            → standing ≡ standing_of request (replicate max_masters 0) (night_for request table)
        stands-over nobody = stands ∙ stands-last standing.count within (here false nobody)

        pub stands-long : length standing.rounds ≡ max_masters
        stands-long =
            ap (λ (s : Standing). length s.rounds) stands
            ∙ length-append (map (reached messages standing.count) messages) (drop count (replicate max_masters 0))
            ∙ omega (
              arith,
              long standing.count,
              length-drop {A = ℕ} count (replicate max_masters 0),
              few request passes,
            )
