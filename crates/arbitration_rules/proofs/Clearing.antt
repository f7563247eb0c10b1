-- What scripts clear, one after another: flags are joined; instants that write nothing clear nothing.
use Prim.Native.Nat.{ℕ, zero, suc, ◌+◌, ◌*◌, ◌/◌, ◌%◌, ◌≤◌, max}
use native.Mathlib.Omega.{arith}
use mathlib.Core.Path.{◌≡◌, refl, ap, ap₂, sym, ◌∙◌}
use mathlib.Core.Bool.{Bool, false}
use mathlib.Core.List.{List, [], ◌∷◌, ◌++◌, map, zip_with, map-map}
use lib.Arith.{bin_ind}
use lib.Bits.{bit_or, or_step}
use lib.ListN.{length, length-map}
use Rattle.laws.specs.Everyone.{Everyone, nobody, also}
use Rattle.laws.proofs.Lists.{everyone, everyone-append, map-alike, zip_with-length}
use Rattle.usi_registers.specs.Registers.{USISRL}
use Rattle.arbitration_rules.specs.Masters as masters
use Rattle.arbitration_rules.specs.Masters.{Master, Who, everybody, still_in, Tick, Sample, Write}
use Rattle.arbitration_rules.specs.Masters.{applied, judged}
use Rattle.arbitration_rules.specs.Outcome.{byte_at}
use Rattle.arbitration_rules.specs.Run.{Bus, Instant, does, loads, samples, records, pulls, judges, takes}
use Rattle.arbitration_rules.specs.Run.{carries, settles, wire, performed, perform, writes, bit_turn, data_turns}
use Rattle.arbitration_rules.specs.Cleared.{cleared_at, cleared_in, cleared_over}
use Rattle.arbitration_rules.proofs.Phases.{perform-append}

-- joins in any order
half-joined : (a b : ℕ) → bit_or a b / 2 ≡ bit_or (a / 2) (b / 2)
half-joined a b = omega (arith, or_step a b)

low-joined : (a b : ℕ) → bit_or a b % 2 ≡ max (a % 2) (b % 2)
low-joined a b = omega (arith, or_step a b)

pub joined-assoc : (a b c : ℕ) → bit_or (bit_or a b) c ≡ bit_or a (bit_or b c)
joined-assoc a =
    bin_ind (λ (n : ℕ). (b c : ℕ) → bit_or (bit_or n b) c ≡ bit_or n (bit_or b c)) (λ b c. refl)
    (λ n ih b c.
    or_step (bit_or n b) c
    ∙ ap₂ (λ (x y : ℕ). x * 2 + y)
    (ap (λ (x : ℕ). bit_or x (c / 2)) (half-joined n b) ∙ ih (b / 2) (c / 2)
    ∙ ap (bit_or (n / 2)) (sym (half-joined b c)))
    (omega (arith, low-joined n b, low-joined b c))
    ∙ sym (or_step n (bit_or b c)))
    a

-- lists joined element by element
zip-assoc : (l more others : List ℕ)
    → zip_with bit_or (zip_with bit_or l more) others ≡ zip_with bit_or l (zip_with bit_or more others)
unfolding zip_with
zip-assoc [] more others = refl
zip-assoc (a ∷ l) [] others = refl
zip-assoc (a ∷ l) (b ∷ more) [] = refl
zip-assoc (a ∷ l) (b ∷ more) (c ∷ others) = ap₂ (λ x k. x ∷ k) (joined-assoc a b c) (zip-assoc l more others)

zip-none : {A : Type 0} (l : List A) (others : List ℕ) → length others ≤ length l
    → others ≡ zip_with bit_or (map (λ a. 0) l) others
unfolding zip_with
zip-none [] [] small = refl
zip-none [] (b ∷ others) small = absurd (omega arith)
zip-none (a ∷ l) [] small = refl
zip-none (a ∷ l) (b ∷ others) small =
    let less : length others ≤ length l = omega arith in
    ap (λ k. b ∷ k) (zip-none l others less)

pub zip-maps : {A : Type 0} (c d : A → ℕ) (l : List A)
    → zip_with bit_or (map c l) (map d l) ≡ map (λ a. bit_or (c a) (d a)) l
unfolding zip_with
zip-maps c d [] = refl
zip-maps c d (a ∷ l) = ap (λ k. bit_or (c a) (d a) ∷ k) (zip-maps c d l)

-- nothing, of each of a list of masters
abbrev none : List Master → List ℕ
none list = map (λ master. 0) list

none-length : (list : List Master) → length (none list) ≡ length list
none-length list = length-map list (λ (master : Master). 0)

-- no more than there are masters, and one script after another joins what both clear
module _ (messages : List (List ℕ)) where
  in-length : (instant : Instant) (bus : Bus) → length (cleared_in messages instant bus) ≤ length bus.masters
  unfolding cleared_in
  in-length (does who operation) bus = omega (arith, length-map bus.masters (cleared_at who operation))
  in-length (loads index) bus =
      omega (
        arith,
        zip_with-length
            (λ (master : Master) (message : List ℕ). cleared_at still_in (Write USISRL (byte_at index message)) master)
            bus.masters messages,
      )
  in-length samples bus = omega (arith, none-length bus.masters)
  in-length records bus = omega (arith, none-length bus.masters)
  in-length (pulls pull) bus = omega (arith, none-length bus.masters)
  in-length (judges position) bus = omega (arith, none-length bus.masters)
  in-length takes bus = omega (arith, none-length bus.masters)
  in-length carries bus = omega (arith, none-length bus.masters)
  in-length settles bus = omega (arith, none-length bus.masters)

  over-length : (instants : List Instant) (bus : Bus)
      → length (cleared_over messages instants bus) ≤ length bus.masters
  over-length [] bus = omega (arith, none-length bus.masters)
  over-length (instant ∷ instants) bus =
      omega (
        arith,
        in-length instant bus,
        zip_with-length bit_or (cleared_in messages instant bus)
            (cleared_over messages instants (performed messages instant bus)),
      )

  cleared-append : (instants more : List Instant) (bus : Bus)
      → cleared_over messages (instants ++ more) bus
      ≡ zip_with bit_or (cleared_over messages instants bus) (cleared_over messages more (perform messages instants bus))
  cleared-append [] more bus = zip-none bus.masters (cleared_over messages more bus) (over-length more bus)
  cleared-append (instant ∷ instants) more bus =
      ap (zip_with bit_or (cleared_in messages instant bus))
      (cleared-append instants more (performed messages instant bus))
      ∙ sym (zip-assoc (cleared_in messages instant bus) _ _)

  -- a script from one bus to another, and what it clears of each message's master
  pub record Clears (instants : List Instant) (bus next : Bus) (flags : List ℕ → ℕ) : Type 0 where
    pub leads : perform messages instants bus ≡ next
    pub is : cleared_over messages instants bus ≡ map flags messages

  pub then : {instants more : List Instant} {bus next end : Bus} {first second both : List ℕ → ℕ}
      → Clears instants bus next first → Clears more next end second
      → ((message : List ℕ) → bit_or (first message) (second message) ≡ both message)
      → Clears (instants ++ more) bus end both
  then {instants} {more} {bus} {first} {second} one two joins =
      record {
        leads = perform-append messages instants more bus ∙ ap (perform messages more) one.leads ∙ two.leads;
        is =
            cleared-append instants more bus
            ∙ ap₂ (zip_with bit_or) one.is (ap (cleared_over messages more) one.leads ∙ two.is)
            ∙ zip-maps first second messages
            ∙ map-alike (everyone joins messages);
      }

  -- masters made from the messages
  pub each : {A : Type 0} (f : A → ℕ) (g : List ℕ → A) (h : List ℕ → ℕ)
      → ((message : List ℕ) → f (g message) ≡ h message) → map f (map g messages) ≡ map h messages
  each f g h same = map-map f g messages ∙ map-alike (everyone same messages)

-- instants that write nothing
abbrev Quiet : Instant → Type 0
Quiet (does who Tick) = Unit {0}
Quiet (does who (Sample level)) = Unit {0}
Quiet (does who (Write address value)) = ⊥
Quiet (loads index) = ⊥
Quiet samples = Unit {0}
Quiet records = Unit {0}
Quiet (pulls pull) = Unit {0}
Quiet (judges position) = Unit {0}
Quiet takes = Unit {0}
Quiet carries = Unit {0}
Quiet settles = Unit {0}

pub bit-turn-quiet : (pull : Bool) → Everyone Quiet (bit_turn pull)
bit-turn-quiet pull = also tt (also tt (also tt (also tt (also tt (also tt (also tt (also tt nobody)))))))

pub data-turns-quiet : (count position : ℕ) → Everyone Quiet (data_turns count position)
data-turns-quiet zero position = nobody
data-turns-quiet (suc count) position =
    everyone-append (bit-turn-quiet false) (also tt (also tt (data-turns-quiet count (suc position))))

module _ (messages : List (List ℕ)) where
  quiet-instant : (instant : Instant) → Quiet instant → (bus : Bus)
      → (cleared_in messages instant bus ≡ none bus.masters)
      × (none (performed messages instant bus).masters ≡ none bus.masters)
  unfolding cleared_in cleared_at performed
  quiet-instant (does who Tick) still bus = (refl, map-map (λ master. 0) (applied who Tick) bus.masters)
  quiet-instant (does who (Sample level)) still bus =
      (refl, map-map (λ master. 0) (applied who (Sample level)) bus.masters)
  quiet-instant (does who (Write address value)) still bus = absurd still
  quiet-instant (loads index) still bus = absurd still
  quiet-instant samples still bus =
      (refl, map-map (λ master. 0) (applied everybody (Sample (wire bus.pull bus.masters))) bus.masters)
  quiet-instant records still bus = (refl, refl)
  quiet-instant (pulls pull) still bus = (refl, refl)
  quiet-instant (judges position) still bus = (refl, map-map (λ master. 0) (judged position) bus.masters)
  quiet-instant takes still bus = (refl, refl)
  quiet-instant carries still bus = (refl, refl)
  quiet-instant settles still bus = (refl, map-map (λ master. 0) masters.settled bus.masters)

  quiet : {instants : List Instant} → Everyone Quiet instants → (bus : Bus)
      → cleared_over messages instants bus ≡ none bus.masters
  quiet nobody bus = refl
  quiet (also {a = instant} still more) bus =
      let here = quiet-instant instant still bus in
      ap₂ (zip_with bit_or) here.0 (quiet more (performed messages instant bus) ∙ here.1)
      ∙ zip-maps (λ master. 0) (λ master. 0) bus.masters

-- registers written one after the other by a master: what these writes clear
abbrev pub clears_of : Who → List (ℕ × ℕ) → Master → ℕ
clears_of who [] master = 0
clears_of who (write ∷ more) master =
    bit_or (cleared_at who (Write write.0 write.1) master)
    (clears_of who more (applied who (Write write.0 write.1) master))

module _ (messages : List (List ℕ)) where
  pub writes-clear : (who : Who) (list : List (ℕ × ℕ)) (bus : Bus)
      → cleared_over messages (writes who list) bus ≡ map (clears_of who list) bus.masters
  unfolding cleared_in performed
  writes-clear who [] bus = refl
  writes-clear who (write ∷ more) bus =
      let here = Write write.0 write.1 in
      ap (zip_with bit_or (map (cleared_at who here) bus.masters))
      (writes-clear who more (performed messages (does who here) bus)
      ∙ map-map (clears_of who more) (applied who here) bus.masters)
      ∙ zip-maps (cleared_at who here) (λ master. clears_of who more (applied who here master)) bus.masters

  -- a script that writes nothing, and registers written, from a bus whose masters are made from the messages
  pub quietly : {instants : List Instant} → Everyone Quiet instants → (g : List ℕ → Master) {bus next : Bus}
      → bus.masters ≡ map g messages → perform messages instants bus ≡ next
      → Clears messages instants bus next (λ message. 0)
  quietly still g {bus} made leads =
      record {
        leads = leads;
        is =
            quiet messages still bus ∙ ap none made ∙ each messages (λ master. 0) g (λ message. 0) (λ message. refl);
      }

  pub writing : (who : Who) (list : List (ℕ × ℕ)) (g : List ℕ → Master) {flags : List ℕ → ℕ} {bus next : Bus}
      → bus.masters ≡ map g messages → perform messages (writes who list) bus ≡ next
      → ((message : List ℕ) → clears_of who list (g message) ≡ flags message)
      → Clears messages (writes who list) bus next flags
  writing who list g {flags} {bus} made leads clears =
      record {
        leads = leads;
        is =
            writes-clear who list bus ∙ ap (map (clears_of who list)) made
            ∙ each messages (clears_of who list) g flags clears;
      }
