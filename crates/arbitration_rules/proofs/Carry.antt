-- The bus carries the least message, byte by byte with the restarts before them, until a byte of it is not acknowledged
-- or all of it is sent.
use Prim.Native.Nat.{ℕ, ◌+◌, ◌*◌, ◌≤◌, ◌<◌}
use native.Mathlib.Omega.{arith}
use mathlib.Core.Path.{◌≡◌, refl, ap, ap₂, sym, subst, ◌∙◌}
use mathlib.Core.Bool.{Bool, cond, true, false, not, ◌&&◌, false≢true}
use mathlib.Core.List.{List, [], ◌∷◌, ◌++◌, map, map-append, append-nil, append_assoc}
use lib.Dec.{eqb, leb}
use lib.ListN.{length, drop, length-append, length-drop}
use lib.Seq.{drop-drop, get_or-append_seam, get_or-drop}
use borrow.Author.Tests.{le-leb, lt-leb}
use Rattle.encode.specs.Encode.{draw_event, draw_events}
use Rattle.encode.proofs.EventLists.{draw-append}
use Rattle.arbitration_rules.specs.Masters.{Master}
use Rattle.laws.specs.Search.{any}
use Rattle.arbitration_rules.specs.Outcome.{byte_of, restarts, sent_at, byte_at, restart_events, sent_events}
use Rattle.arbitration_rules.specs.Run.{Bus, through, restarting}
use Rattle.arbitration_rules.proofs.Phases.{byte_turn, restarted, turn_of}
use Rattle.laws.specs.Everyone.{Everyone, Someone}
use Rattle.laws.proofs.Lists.{everyone, everyone-so, someone-so, map-alike, any_none, any-one, any-map, zip_with-map}
use Rattle.arbitration_rules.proofs.Wire.{bus_of}
use Rattle.arbitration_rules.proofs.Standing.{Standing, standing_after}
use Rattle.arbitration_rules.proofs.Pause.{Pause, after_start, after_byte, is_in, master_at, pull_at, level_at}
use Rattle.arbitration_rules.proofs.Pause.{taken_at}
use Rattle.arbitration_rules.proofs.Round.{waits, ninth_bit, byte-turn}
use Rattle.arbitration_rules.proofs.Restart.{restart-is}
use Rattle.arbitration_rules.proofs.Follows.{Follows, follows-goes, follows_on}
use Rattle.arbitration_rules.proofs.Against.{against, owner-in, against-next, in-before}
use Rattle.arbitration_rules.proofs.Drawing.{byte-drawn}

-- a byte is below 256
pub byte-below : (sent : ℕ) → byte_of sent < 256
byte-below sent = omega arith

-- messages of which one is the least, after what the bus has carried of it: who is still in follows its rest
pub record Contest (messages : List (List ℕ)) (carried rest acknowledges : List ℕ) : Type 0 where
  pub follows : Everyone
      (λ message. is_in (against 0 carried message) ≡ true → Follows acknowledges rest (drop (length carried) message))
      messages
  pub sent : Someone (λ message. message ≡ carried ++ rest) messages

-- the bus between two bytes, with what it has carried
abbrev pub paused : List (List ℕ) → Pause → List ℕ → List ℕ → Bus
paused messages pause carried levels =
    bus_of (waits pause (against 0 carried) messages) (pull_at pause) (level_at pause) (taken_at pause) levels
    (map byte_of carried)

not-not : (b : Bool) → b ≡ not (not b)
not-not true = refl
not-not false = refl

-- what a message sends after as many bytes
drop-first : (count : ℕ) (message : List ℕ) → sent_at 0 (drop count message) ≡ sent_at count message
drop-first count message = get_or-drop count message 0 256 ∙ ap (λ (i : ℕ). sent_at i message) (omega arith)

-- the owner of the least message is in
pub leader-in : (messages : List (List ℕ)) (carried rest : List ℕ) → Someone (λ message. message ≡ carried ++ rest) messages
    → Someone (λ message. is_in (against 0 carried message) ≡ true) messages
leader-in messages carried rest some =
    someone-so (λ message same. ap (λ m. is_in (against 0 carried m)) same ∙ owner-in 0 carried rest) some

-- one byte of the least message
module _ (messages : List (List ℕ)) (carried : List ℕ) (sent : ℕ) (more : List ℕ) {acknowledges : List ℕ}
    (contest : Contest messages carried (sent ∷ more) acknowledges) where
  here : sent_at (length carried) (carried ++ sent ∷ more) ≡ sent
  here = get_or-append_seam carried sent more 256

  -- who is in goes on as the least message does
  pub record GoesOn (message : List ℕ) : Type 0 where
    pub longer : length carried < length message
    pub again : restarts (sent_at (length carried) message) ≡ restarts sent
    pub no_less : byte_of sent ≤ byte_at (length carried) message

  goes-on : (message : List ℕ) → Follows acknowledges (sent ∷ more) (drop (length carried) message) → GoesOn message
  goes-on message follows =
      let goes = follows-goes (drop (length carried) message) follows in
      record {
        longer = omega (arith, goes.some, length-drop (length carried) message);
        again = ap restarts (sym (drop-first (length carried) message)) ∙ goes.again;
        no_less = subst (λ (next : ℕ). byte_of sent ≤ byte_of next) (drop-first (length carried) message) goes.more;
      }

  pub all-go-on : Everyone (λ message. is_in (against 0 carried message) ≡ true → GoesOn message) messages
  all-go-on = everyone-so (λ message follows still. goes-on message (follows still)) contest.follows

  pub leader : Someone
      (λ message. (is_in (against 0 carried message) ≡ true) × (byte_at (length carried) message ≡ byte_of sent)) messages
  leader =
      someone-so
      (λ message same. (
        ap (λ m. is_in (against 0 carried m)) same ∙ owner-in 0 carried (sent ∷ more),
        ap (byte_at (length carried)) same ∙ ap byte_of here,
      ))
      contest.sent

  -- the restart before it: whether there is one, all that are in agree
  restarting-is : (pause : Pause) → restarting messages (length carried) (waits pause (against 0 carried) messages)
      ≡ any (λ message. is_in (against 0 carried message) && restarts (sent_at (length carried) message)) messages
  unfolding restarting
  restarting-is pause =
      ap (any (λ (next : Bool). next))
      (zip_with-map (λ (master : Master) message. master.contending && restarts (sent_at (length carried) message))
      (λ message. master_at pause (against 0 carried message)) messages)
      ∙ any-map (λ (next : Bool). next)
      (λ message. is_in (against 0 carried message) && restarts (sent_at (length carried) message)) messages

  pub agreed : (pause : Pause)
      → restarting messages (length carried) (waits pause (against 0 carried) messages) ≡ restarts sent
  agreed pause = restarting-is pause ∙ go (restarts sent) refl
    where
      both_so : (a b : Bool) → a ≡ true → b ≡ true → a && b ≡ true
      both_so a b one other = ap₂ ◌&&◌ one other

      nobody-so : (message : List ℕ) (still : Bool) → is_in (against 0 carried message) ≡ still
          → (is_in (against 0 carried message) ≡ true → restarts (sent_at (length carried) message) ≡ false)
          → still && restarts (sent_at (length carried) message) ≡ false
      nobody-so message true in-it so = so in-it
      nobody-so message false in-it so = refl

      go : (again : Bool) → restarts sent ≡ again
          → any (λ message. is_in (against 0 carried message) && restarts (sent_at (length carried) message)) messages
          ≡ again
      go true again =
          any-one
          (someone-so
          (λ message same. both_so (is_in (against 0 carried message)) (restarts (sent_at (length carried) message))
          (ap (λ m. is_in (against 0 carried m)) same ∙ owner-in 0 carried (sent ∷ more))
          (ap (λ m. restarts (sent_at (length carried) m)) same ∙ ap restarts here ∙ again))
          contest.sent)
      go false again =
          any_none
          (everyone-so
          (λ message goes. nobody-so message (is_in (against 0 carried message)) refl
          (λ still. (goes still).again ∙ again))
          all-go-on)

  -- a restart stands between two bytes
  abbrev pub Between : Pause → Type 0
  Between (after_start taken) = restarts sent ≡ false
  Between (after_byte byte ninth) = Unit {0}

  abbrev pub pause_after : Bool → Pause → Pause
  pause_after true pause = after_start (taken_at pause)
  pause_after false pause = pause

  restarts-first : (again : Bool) → restarts sent ≡ again → (pause : Pause) → Between pause → (levels : List ℕ)
      → cond again (restarted (paused messages pause carried levels)) (paused messages pause carried levels)
      ≡ paused messages (pause_after again pause) carried (levels ++ draw_events (restart_events sent))
  unfolding draw_event
  restarts-first true again (after_start taken) first levels =
      absurd (false≢true (sym first ∙ again))
  restarts-first true again (after_byte byte ninth) first levels =
      restart-is messages (against 0 carried) byte ninth (not ninth) (level_at (after_byte byte ninth)) byte levels
      (map byte_of carried) (leader-in messages carried (sent ∷ more) contest.sent)
      ∙ ap (λ recorded. paused messages (after_start byte) carried (levels ++ recorded))
      (ap (λ t. draw_events (cond t (513 ∷ []) [])) (sym again))
  restarts-first false again pause first levels =
      ap (paused messages pause carried)
      (sym (append-nil levels) ∙ ap (λ t. levels ++ draw_events (cond t (513 ∷ []) [])) (sym again))

  -- the byte
  stands : (message : List ℕ) → (is_in (against 0 carried message) ≡ true → GoesOn message)
      → standing_after (length carried) (byte_of sent) (byte_at (length carried) message) (against 0 carried message)
      ≡ against 0 (carried ++ sent ∷ []) message
  stands message goes =
      ap
      (λ (i : ℕ). standing_after i (byte_of sent) (byte_at (length carried) message) (against 0 carried message))
      (omega arith)
      ∙ against-next 0 carried sent message (λ still. (goes still).longer)

  carry-byte : (acknowledge : ℕ) → acknowledge ≤ 1 → (before : Pause) (levels : List ℕ)
      → byte_turn messages (length carried) acknowledge (paused messages before carried levels)
      ≡ paused messages (after_byte (byte_of sent) (ninth_bit acknowledge)) (carried ++ sent ∷ [])
      (levels ++ draw_event (byte_of sent + 256 * acknowledge))
  carry-byte acknowledge one before levels =
      byte-turn messages (against 0 carried) (length carried) (byte_of sent) acknowledge before (pull_at before)
      (level_at before) (taken_at before) levels (map byte_of carried) (byte-below sent)
      (everyone (λ message. byte-below (sent_at (length carried) message)) messages)
      (everyone-so (λ message goes still. (goes still).no_less) all-go-on)
      leader
      ∙ ap₂ (after (eqb acknowledge 0))
      (map-alike (everyone-so (λ message goes. ap (master_at pause) (stands message goes)) all-go-on))
      (byte-drawn (byte_of sent) acknowledge (byte-below sent) one)
      ∙ ap₂ (λ pull bytes. bus_of (waits pause (against 0 (carried ++ sent ∷ [])) messages) pull (level_at pause)
      (byte_of sent) (levels ++ draw_event (byte_of sent + 256 * acknowledge)) bytes) (not-not (eqb acknowledge 0))
      (sym (map-append byte_of carried (sent ∷ [])))
    where
      pause : Pause
      pause = after_byte (byte_of sent) (ninth_bit acknowledge)

      after : Bool → List Master → List ℕ → Bus
      after pull masters drawing =
          bus_of masters pull (level_at pause) (byte_of sent) (levels ++ drawing) (map byte_of carried ++ byte_of sent ∷ [])

  -- both, at an index, which is how many bytes have been carried
  pub carry-at : (index acknowledge : ℕ) → length carried ≡ index → acknowledge ≤ 1 → (before : Pause) → Between before
      → (levels : List ℕ)
      → turn_of (restarting messages index (waits before (against 0 carried) messages)) messages index acknowledge
      (paused messages before carried levels)
      ≡ paused messages (after_byte (byte_of sent) (ninth_bit acknowledge)) (carried ++ sent ∷ [])
      (levels ++ draw_events (sent_events sent acknowledge))
  carry-at index acknowledge at one before between levels =
      ap (λ (i : ℕ). turn_of (restarting messages i (waits before (against 0 carried) messages)) messages i acknowledge
      (paused messages before carried levels)) (sym at)
      ∙ ap (λ again. turn_of again messages (length carried) acknowledge (paused messages before carried levels))
      (agreed before)
      ∙ ap (byte_turn messages (length carried) acknowledge)
      (restarts-first (restarts sent) refl before between levels)
      ∙ carry-byte acknowledge one (pause_after (restarts sent) before) (levels ++ draw_events (restart_events sent))
      ∙ ap (paused messages (after_byte (byte_of sent) (ninth_bit acknowledge)) (carried ++ sent ∷ [])) drawn
    where
      event : ℕ
      event = byte_of sent + 256 * acknowledge

      drawn : levels ++ draw_events (restart_events sent) ++ draw_event event
          ≡ levels ++ draw_events (sent_events sent acknowledge)
      drawn =
          append_assoc levels (draw_events (restart_events sent)) (draw_event event)
          ∙ ap (λ rest. levels ++ rest)
          (ap (λ (last : List ℕ). draw_events (restart_events sent) ++ last) (sym (append-nil (draw_event event)))
          ∙ sym (draw-append (restart_events sent) (event ∷ [])))

-- acknowledged, it leaves a contest for the rest
pub contest-on : (messages : List (List ℕ)) (carried : List ℕ) (sent : ℕ) (more : List ℕ) {acknowledges : List ℕ}
    → Contest messages carried (sent ∷ more) (0 ∷ acknowledges) → Contest messages (carried ++ sent ∷ []) more acknowledges
contest-on messages carried sent more {acknowledges} contest =
    record {
      follows = everyone-so (λ message follows. on message follows) contest.follows;
      sent = someone-so (λ message same. same ∙ sym (append_assoc carried (sent ∷ []) more)) contest.sent;
    }
  where
    shorter : (message : List ℕ)
        → drop 1 (drop (length carried) message) ≡ drop (length (carried ++ sent ∷ [])) message
    shorter message =
        drop-drop 1 (length carried) message
        ∙ ap (λ (count : ℕ). drop count message) (sym (length-append carried (sent ∷ [])))

    on : (message : List ℕ)
        → (is_in (against 0 carried message) ≡ true
        → Follows (0 ∷ acknowledges) (sent ∷ more) (drop (length carried) message))
        → is_in (against 0 (carried ++ sent ∷ []) message) ≡ true
        → Follows acknowledges more (drop (length (carried ++ sent ∷ [])) message)
    on message follows still =
        let so = stands messages carried sent more contest message
        (λ was. goes-on messages carried sent more contest message (follows was)) in
        let before = in-before (length carried) sent (byte_at (length carried) message) (against 0 carried message)
        (ap is_in so ∙ still) in
        subst (Follows acknowledges more) (shorter message)
        (follows_on (drop (length carried) message) refl (follows before.0)
        (ap byte_of (drop-first (length carried) message) ∙ before.1)).1

through-is : (messages : List (List ℕ)) (standing : List ℕ → Standing) (pause : Pause) (count : ℕ)
    → through messages count (waits pause standing messages)
    ≡ any (λ message. is_in (standing message) && leb (length message) count) messages
unfolding through
through-is messages standing pause count =
    ap (any (λ (done : Bool). done))
    (zip_with-map (λ (master : Master) message. master.contending && leb (length message) count)
    (λ message. master_at pause (standing message)) messages)
    ∙ any-map (λ (done : Bool). done) (λ message. is_in (standing message) && leb (length message) count) messages

-- once the least message is sent, its master is through; before that, nobody still in is
pub all-sent : (messages : List (List ℕ)) (carried : List ℕ) (count : ℕ) (pause : Pause) {acknowledges : List ℕ}
    → Contest messages carried [] acknowledges → length carried ≡ count
    → through messages count (waits pause (against 0 carried) messages) ≡ true
all-sent messages carried count pause contest sent =
    through-is messages (against 0 carried) pause count
    ∙ any-one (someone-so (λ message same. ap in-and-through same ∙ owner) contest.sent)
  where
    in-and-through : List ℕ → Bool
    in-and-through message = is_in (against 0 carried message) && leb (length message) count

    owner : in-and-through (carried ++ []) ≡ true
    owner =
        ap₂ ◌&&◌ (owner-in 0 carried [])
        (le-leb (length (carried ++ [])) count (omega (arith, length-append carried [])))

pub more-to-send : (messages : List (List ℕ)) (carried : List ℕ) (count sent : ℕ) (more : List ℕ) (pause : Pause)
    {acknowledges : List ℕ}
    → Contest messages carried (sent ∷ more) acknowledges → length carried ≡ count
    → through messages count (waits pause (against 0 carried) messages) ≡ false
more-to-send messages carried count sent more pause contest counted =
    through-is messages (against 0 carried) pause count
    ∙ any_none (everyone-so (λ message goes. go message goes (is_in (against 0 carried message)) refl)
    (all-go-on messages carried sent more contest))
  where
    go : (message : List ℕ) → (is_in (against 0 carried message) ≡ true → GoesOn messages carried sent more contest message)
        → (still : Bool) → is_in (against 0 carried message) ≡ still → still && leb (length message) count ≡ false
    go message goes true still =
        let longer : length carried < length message = (goes still).longer in
        lt-leb (length message) count (omega arith)
    go message goes false still = refl
