-- The loop over the bytes: it ends with the first byte that is not acknowledged, or with the least message's last
-- byte. What it has carried by then are that message's first k bytes, drawn each with its acknowledge, and the restarts
-- before them.
use Prim.Native.Nat.{ℕ, zero, suc, ◌≤◌, ◌<◌}
use native.Mathlib.Omega.{arith}
use native.Mathlib.Numerals.{add-one}
use mathlib.Core.Path.{◌≡◌, refl, ap, ap₂, sym, ◌∙◌}
use mathlib.Core.Bool.{Bool, cond, true, false, ◌||◌}
use mathlib.Core.List.{List, [], ◌∷◌, ◌++◌, append_assoc, append-nil}
use lib.Dec.{eqb}
use lib.ListN.{length, take, length-append}
use Rattle.encode.specs.Encode.{draw_events}
use Rattle.encode.proofs.EventLists.{draw-append}
use Rattle.arbitration_rules.specs.Outcome.{byte_of, carried_count, sent_events, carried_events}
use Rattle.arbitration_rules.specs.Run.{Bus, through, restarting}
use Rattle.arbitration_rules.proofs.Phases.{turn_of, bytes_turn}
use Rattle.laws.specs.Everyone.{Everyone, also}
use Rattle.arbitration_rules.proofs.Pause.{Pause, after_byte}
use Rattle.arbitration_rules.proofs.Round.{ninth_bit}
use Rattle.arbitration_rules.proofs.Carry.{Contest, Between, paused, carry-at, contest-on, all-sent}
use Rattle.arbitration_rules.proofs.Carry.{more-to-send}

-- one turn of the loop
module _ (messages : List (List ℕ)) (acknowledge : ℕ) (acknowledges : List ℕ) (index : ℕ) (bus after : Bus)
    (turn : turn_of (restarting messages index bus.masters) messages index acknowledge bus ≡ after) where
  unrolled : bytes_turn messages (acknowledge ∷ acknowledges) index bus
      ≡ cond (eqb acknowledge 1 || through messages (suc index) after.masters) after
      (bytes_turn messages acknowledges (suc index) after)
  unrolled =
      ap (λ b. cond (eqb acknowledge 1 || through messages (suc index) b.masters) b
      (bytes_turn messages acknowledges (suc index) b))
      turn

  pub stops-here : eqb acknowledge 1 || through messages (suc index) after.masters ≡ true
      → bytes_turn messages (acknowledge ∷ acknowledges) index bus ≡ after
  stops-here last = unrolled ∙ ap (λ t. cond t after (bytes_turn messages acknowledges (suc index) after)) last

  pub continues : eqb acknowledge 1 || through messages (suc index) after.masters ≡ false
      → bytes_turn messages (acknowledge ∷ acknowledges) index bus ≡ bytes_turn messages acknowledges (suc index) after
  continues more = unrolled ∙ ap (λ t. cond t after (bytes_turn messages acknowledges (suc index) after)) more

-- the bus when the bytes are over: what it has carried, and how each master stands against it
pub record Carried (bus : Bus) (messages : List (List ℕ)) (carried levels : List ℕ) : Type 0 where
  pub last : ℕ
  pub ninth : Bool
  pub is : bus ≡ paused messages (after_byte last ninth) carried levels

-- its levels and bytes as they are to be told
told : {bus : Bus} {messages : List (List ℕ)} {carried other levels recording : List ℕ} → carried ≡ other
    → levels ≡ recording → Carried bus messages carried levels → Carried bus messages other recording
told {bus} {messages} same drawn so =
    record {
      last = so.last;
      ninth = so.ninth;
      is = so.is ∙ ap₂ (paused messages (after_byte so.last so.ninth)) same drawn;
    }

from : {bus other : Bus} {messages : List (List ℕ)} {carried levels : List ℕ} → bus ≡ other
    → Carried other messages carried levels → Carried bus messages carried levels
from same so = record { last = so.last; ninth = so.ninth; is = same ∙ so.is }

pub longer : (carried : List ℕ) (byte index : ℕ) → length carried ≡ index → length (carried ++ byte ∷ []) ≡ suc index
longer carried byte index at = length-append carried (byte ∷ []) ∙ add-one (length carried) ∙ ap suc at

-- the bytes of a message that are carried
abbrev first_of : List ℕ → List ℕ → List ℕ
first_of message acknowledges = take (carried_count message acknowledges) message

-- it ends with this byte
ends : (messages : List (List ℕ)) (carried : List ℕ) (sent acknowledge : ℕ) (acknowledges levels : List ℕ)
    → Carried
    (paused messages (after_byte (byte_of sent) (ninth_bit acknowledge)) (carried ++ sent ∷ [])
    (levels ++ draw_events (sent_events sent acknowledge)))
    messages (carried ++ sent ∷ []) (levels ++ draw_events (carried_events (sent ∷ []) (acknowledge ∷ acknowledges)))
ends messages carried sent acknowledge acknowledges levels =
    told refl
    (ap (λ events. levels ++ draw_events events) (sym (append-nil (sent_events sent acknowledge))))
    (record { last = byte_of sent; ninth = ninth_bit acknowledge; is = refl })

-- it goes on after it
goes-on : {bus : Bus} {messages : List (List ℕ)} (carried : List ℕ) (sent acknowledge : ℕ)
    (rest acknowledges levels : List ℕ)
    → Carried bus messages (carried ++ sent ∷ [] ++ rest)
    (levels ++ draw_events (sent_events sent acknowledge) ++ draw_events (carried_events rest acknowledges))
    → Carried bus messages (carried ++ sent ∷ rest)
    (levels ++ draw_events (carried_events (sent ∷ rest) (acknowledge ∷ acknowledges)))
goes-on carried sent acknowledge rest acknowledges levels =
    told (append_assoc carried (sent ∷ []) rest)
    (append_assoc levels (draw_events (sent_events sent acknowledge)) (draw_events (carried_events rest acknowledges))
    ∙ ap (λ drawing. levels ++ drawing)
    (sym (draw-append (sent_events sent acknowledge) (carried_events rest acknowledges))))

pub carries : (messages : List (List ℕ)) (acknowledges : List ℕ) (index : ℕ) (carried : List ℕ) (sent : ℕ)
    (more : List ℕ) (pause : Pause) (levels : List ℕ)
    → (contest : Contest messages carried (sent ∷ more) acknowledges) → length carried ≡ index
    → Between messages carried sent more contest pause
    → Everyone (λ acknowledge. acknowledge ≤ 1) acknowledges → length more < length acknowledges
    → Carried (bytes_turn messages acknowledges index (paused messages pause carried levels)) messages
    (carried ++ first_of (sent ∷ more) acknowledges)
    (levels ++ draw_events (carried_events (first_of (sent ∷ more) acknowledges) acknowledges))
carries messages [] index carried sent more pause levels contest at between ones enough = absurd (omega arith)
carries messages (zero ∷ acknowledges) index carried sent [] pause levels contest at between (also one ones) enough =
    from
    (stops-here messages 0 acknowledges index _ _
    (carry-at messages carried sent [] contest index 0 at one pause between levels)
    (all-sent messages (carried ++ sent ∷ []) (suc index) (after_byte (byte_of sent) false)
    (contest-on messages carried sent [] contest) (longer carried sent index at)))
    (ends messages carried sent 0 acknowledges levels)
carries messages (zero ∷ acknowledges) index carried sent (next ∷ more) pause levels contest at between
    (also one ones) enough =
    let later = contest-on messages carried sent (next ∷ more) contest in
    let counted = longer carried sent index at in
    from
    (continues messages 0 acknowledges index _ _
    (carry-at messages carried sent (next ∷ more) contest index 0 at one pause between levels)
    (more-to-send messages (carried ++ sent ∷ []) (suc index) next more (after_byte (byte_of sent) false) later counted))
    (goes-on carried sent 0 (first_of (next ∷ more) acknowledges) acknowledges levels
    (carries messages acknowledges (suc index) (carried ++ sent ∷ []) next more (after_byte (byte_of sent) false)
    (levels ++ draw_events (sent_events sent 0)) later counted tt ones (omega arith)))
carries messages (suc zero ∷ acknowledges) index carried sent more pause levels contest at between
    (also one ones) enough =
    from
    (stops-here messages 1 acknowledges index _ _
    (carry-at messages carried sent more contest index 1 at one pause between levels) refl)
    (ends messages carried sent 1 acknowledges levels)
carries messages (suc (suc acknowledge) ∷ acknowledges) index carried sent more pause levels contest at between
    (also one ones) enough =
    absurd (omega arith)
