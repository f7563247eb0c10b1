-- What a round carries, entered message by message: what holds at the loop's head.
use Prim.Native.Nat.{ℕ, zero, suc, ◌+◌, ◌-◌, ◌≤◌, ◌<◌}
use native.Mathlib.Omega.{arith}
use native.Mathlib.Nat.{sub-zero}
use mathlib.Core.Path.{◌≡◌, refl, sym, ap, ap₂, ◌∙◌}
use mathlib.Core.Bool.{Bool, cond, true, false, ◌&&◌}
use mathlib.Core.List.{List, [], ◌∷◌, ◌++◌, map, zip_with}
use mathlib.Core.Option.{Option, none, some}
use lib.ListN.{length, get_or, take, drop, set, take-append-drop, length-map}
use lib.Seq.{drop-cons, take-suc-set, drop-set-lt, append_snoc}
use borrow.Author.Tests.{ne_eqb}
use Rattle.usi.specs.declared.Usi.{Usi}
use Rattle.arbitration_rules.specs.declared.Seat.{Seat}
use Rattle.arbitration_rules.specs.Masters.{Master}
use Rattle.arbitration_rules.specs.Reply.{seat_of}
use Rattle.night_rules.specs.Night.{waiting, waits, left_by, carried_by, round_by, entered}
use Rattle.night.specs.Carried.{carried_from}

-- a list is as long as its image
pub length-mapped : {A B : Type 0} (f : A → B) (list : List A) (n : ℕ) → length (map f list) ≡ n → length list ≡ n
length-mapped f list n long = sym (length-map list f) ∙ long

-- one message: whether it is carried, and what is left of it
abbrev leaves : Bool → Usi → Option Usi
leaves carried usi = cond carried (some usi) none

one-more : (round : ℕ) (rounds : List ℕ) (seat : Seat) (seats : List Seat) (usi : Usi) (left : List Usi)
    → carried_from (round ∷ rounds) (seat ∷ seats) (usi ∷ left)
    ≡ leaves (waits round && seat.contending) usi
    ∷ carried_from rounds (cond (waits round) seats (seat ∷ seats)) (cond (waits round) left (usi ∷ left))
one-more zero rounds seat seats usi left = refl
one-more (suc round) rounds seat seats usi left = rw (ne_eqb (suc round) 0 (λ e. omega arith))

round_is : (carried : Bool) (number earlier : ℕ) (usi : Usi)
    → round_by number earlier (leaves carried usi) ≡ cond carried number earlier
round_is true number earlier usi = refl
round_is false number earlier usi = refl

entry-is : (carried : Bool) (usi held : Usi) (more : List (Option Usi)) (table : List Usi)
    → entered (leaves carried usi ∷ more) (held ∷ table) ≡ cond carried usi held ∷ entered more table
entry-is true usi held more table = refl
entry-is false usi held more table = refl

-- the next seat is at most one further
pub seat-within : (here : Bool) (seat next i : ℕ) → next ≡ cond here (seat + 1) seat → seat ≤ i → next ≤ i + 1
seat-within true seat next i is within = let one : next ≡ seat + 1 = is in omega (arith, one)
seat-within false seat next i is within = let one : next ≡ seat = is in omega (arith, one)

module _ (count number : ℕ) (seats : List Seat) (left : List Usi) where
  abbrev ahead : List ℕ → ℕ → List ℕ
  ahead rounds i = take (count - i) (drop i rounds)

  abbrev pub rounds_at : List ℕ → ℕ → ℕ → List ℕ
  rounds_at rounds i seat =
      take i rounds
      ++ (zip_with (round_by number) (ahead rounds i) (carried_from (ahead rounds i) (drop seat seats) (drop seat left))
      ++ drop count rounds)

  abbrev pub modules_at : List ℕ → List Usi → ℕ → ℕ → List Usi
  modules_at rounds modules i seat =
      take i modules ++ entered (carried_from (ahead rounds i) (drop seat seats) (drop seat left)) (drop i modules)

  pub rounds-start : (rounds : List ℕ)
      → rounds_at rounds 0 0
      ≡ zip_with (round_by number) (take count rounds) (carried_from (take count rounds) seats left) ++ drop count rounds
  rounds-start rounds = rw sub-zero

  pub modules-start : (rounds : List ℕ) (modules : List Usi)
      → modules_at rounds modules 0 0 ≡ entered (carried_from (take count rounds) seats left) modules
  modules-start rounds modules = rw sub-zero

  pub rounds-done : (rounds : List ℕ) (i seat : ℕ) → i ≡ count → rounds_at rounds i seat ≡ rounds
  unfolding zip_with
  rounds-done rounds i seat end =
      let none_left : count - i ≡ 0 = omega arith in
      rw (none_left, end) (take-append-drop count rounds)

  pub modules-done : (rounds : List ℕ) (modules : List Usi) (i seat : ℕ) → i ≡ count
      → modules_at rounds modules i seat ≡ modules
  modules-done rounds modules i seat end =
      let none_left : count - i ≡ 0 = omega arith in
      rw (none_left, end) (take-append-drop count modules)

  module _ (rounds : List ℕ) (modules : List Usi) (i seat next : ℕ) (empty : Seat) (blank : Usi) (round : ℕ) (usi : Usi)
      (carried : Bool) (carries : carried ≡ waits (get_or rounds i 0) && (get_or seats seat empty).contending)
      (rounded : round ≡ cond carried number (get_or rounds i 0))
      (stored : usi ≡ cond carried (get_or left seat blank) (get_or modules i blank))
      (on : next ≡ cond (waits (get_or rounds i 0)) (seat + 1) seat)
      (less : i < count) (in-rounds : i < length rounds) (in-modules : i < length modules)
      (in-seats : seat < length seats) (in_left : seat < length left) where
    abbrev rest : List ℕ
    rest = ahead rounds (suc i)

    abbrev later : List (Option Usi)
    later = carried_from rest (drop next seats) (drop next left)

    ahead-is : ahead rounds i ≡ get_or rounds i 0 ∷ rest
    ahead-is =
        let more : count - i ≡ suc (count - suc i) = omega arith in
        ap₂ (λ (n : ℕ) (l : List ℕ). take n l) more (drop-cons rounds i 0 in-rounds)

    carried-is : carried_from (ahead rounds i) (drop seat seats) (drop seat left)
        ≡ leaves carried (get_or left seat blank) ∷ later
    carried-is =
        ap (λ (l : List ℕ). carried_from l (drop seat seats) (drop seat left)) ahead-is
        ∙ ap₂ (λ (s : List Seat) (l : List Usi). carried_from (get_or rounds i 0 ∷ rest) s l)
        (drop-cons seats seat empty in-seats) (drop-cons left seat blank in_left)
        ∙ one-more (get_or rounds i 0) rest (get_or seats seat empty) (drop (suc seat) seats) (get_or left seat blank)
        (drop (suc seat) left)
        ∙ ap₂ (λ (s : List Seat) (l : List Usi).
        leaves (waits (get_or rounds i 0) && (get_or seats seat empty).contending) (get_or left seat blank)
        ∷ carried_from rest s l)
        (seats-on (waits (get_or rounds i 0)) on) (left-on (waits (get_or rounds i 0)) on)
        ∙ ap (λ (b : Bool). leaves b (get_or left seat blank) ∷ later) (sym carries)
      where
        seats-on : (here : Bool) → next ≡ cond here (seat + 1) seat
            → cond here (drop (suc seat) seats) (get_or seats seat empty ∷ drop (suc seat) seats) ≡ drop next seats
        seats-on true is =
            let one : next ≡ seat + 1 = is in
            let same : suc seat ≡ next = omega (arith, one) in
            ap (λ (k : ℕ). drop k seats) same
        seats-on false is =
            sym (drop-cons seats seat empty in-seats) ∙ ap (λ (k : ℕ). drop k seats) (sym is)

        left-on : (here : Bool) → next ≡ cond here (seat + 1) seat
            → cond here (drop (suc seat) left) (get_or left seat blank ∷ drop (suc seat) left) ≡ drop next left
        left-on true is =
            let one : next ≡ seat + 1 = is in
            let same : suc seat ≡ next = omega (arith, one) in
            ap (λ (k : ℕ). drop k left) same
        left-on false is =
            sym (drop-cons left seat blank in_left) ∙ ap (λ (k : ℕ). drop k left) (sym is)

    ahead-next : ahead (set rounds i round) (suc i) ≡ rest
    ahead-next = ap (take (count - suc i)) (drop-set-lt (suc i) rounds i round (omega arith))

    abbrev behind : List ℕ
    behind = drop count rounds

    one_on : suc i ≡ i + 1
    one_on = omega arith

    pub rounds-more : rounds_at rounds i seat ≡ rounds_at (set rounds i round) (i + 1) next
    unfolding zip_with
    rounds-more =
        ap₂
        (λ (l : List ℕ) (c : List (Option Usi)). take i rounds ++ (zip_with (round_by number) l c ++ behind))
        ahead-is carried-is
        ∙ ap (λ (v : ℕ). take i rounds ++ (v ∷ (zip_with (round_by number) rest later ++ behind)))
        (round_is carried number (get_or rounds i 0) (get_or left seat blank) ∙ sym rounded)
        ∙ sym (append_snoc (take i rounds) round (zip_with (round_by number) rest later ++ behind))
        ∙ ap (λ (l : List ℕ). l ++ (zip_with (round_by number) rest later ++ behind))
        (sym (take-suc-set rounds i round in-rounds))
        ∙ ap₂
        (λ (l k : List ℕ). take (suc i) (set rounds i round)
        ++ (zip_with (round_by number) l (carried_from l (drop next seats) (drop next left)) ++ k))
        (sym ahead-next) (sym (drop-set-lt count rounds i round less))
        ∙ ap (λ (k : ℕ). rounds_at (set rounds i round) k next) one_on

    pub modules-more : modules_at rounds modules i seat
        ≡ modules_at (set rounds i round) (set modules i usi) (i + 1) next
    modules-more =
        ap₂ (λ (c : List (Option Usi)) (l : List Usi). take i modules ++ entered c l) carried-is
        (drop-cons modules i blank in-modules)
        ∙ ap (λ (l : List Usi). take i modules ++ l)
        (entry-is carried (get_or left seat blank) (get_or modules i blank) later (drop (suc i) modules)
        ∙ ap (λ (u : Usi). u ∷ entered later (drop (suc i) modules)) (sym stored))
        ∙ sym (append_snoc (take i modules) usi (entered later (drop (suc i) modules)))
        ∙ ap (λ (l : List Usi). l ++ entered later (drop (suc i) modules)) (sym (take-suc-set modules i usi in-modules))
        ∙ ap₂
        (λ (l : List ℕ) (k : List Usi). take (suc i) (set modules i usi)
        ++ entered (carried_from l (drop next seats) (drop next left)) k)
        (sym ahead-next) (sym (drop-set-lt (suc i) modules i usi (omega arith)))
        ∙ ap (λ (k : ℕ). modules_at (set rounds i round) (set modules i usi) k next) one_on

-- the masters of a round show what it carries
pub shown-carried : (master : List ℕ → Master) (rounds : List ℕ) (messages : List (List ℕ)) (seats : List Seat)
    (left : List Usi) → length rounds ≡ length messages
    → carried_from rounds
    (zip_with seat_of (map (λ message. 0x03) (waiting rounds messages)) (map master (waiting rounds messages)) ++ seats)
    (map (λ (m : Master). m.usi) (map master (waiting rounds messages)) ++ left)
    ≡ carried_by rounds (map master (waiting rounds messages))
unfolding zip_with
shown-carried master [] messages seats left same = refl
shown-carried master (round ∷ rounds) [] seats left same = absurd (omega arith)
shown-carried master (zero ∷ rounds) (message ∷ messages) seats left same =
    ap (λ (l : List (Option Usi)). left_by (master message) ∷ l)
    (shown-carried master rounds messages seats left (omega arith))
shown-carried master (suc round ∷ rounds) (message ∷ messages) seats left same =
    ap (λ (l : List (Option Usi)). none ∷ l) (shown-carried master rounds messages seats left (omega arith))
