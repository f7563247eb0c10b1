-- The different messages: rising, each a message and each message among them; how many of them are smaller than one.
use Prim.Native.Nat.{ℕ, zero, suc, ◌≤◌, ◌<◌}
use native.Mathlib.Omega.{arith}
use mathlib.Core.Path.{◌≡◌, refl, ap, ◌∙◌}
use mathlib.Core.Bool.{Bool, cond, true, false}
use mathlib.Core.List.{List, [], ◌∷◌}
use lib.ListN.{length, get_or}
use Rattle.laws.specs.Everyone.{Everyone, nobody, also, Someone, this, another}
use Rattle.laws.proofs.Lists.{everyone-so}
use Rattle.arbitration_rules.proofs.LeastMessage.{AtMost}
use Rattle.night_rules.specs.Different.{smaller, placed, different, smaller_count, round_of}
use Rattle.night_rules.proofs.Order.{smaller-at-most, at-most-not-smaller, smaller-self, neither-smaller}
use Rattle.night_rules.proofs.Order.{smaller-then}

-- a message is one of some messages
abbrev pub Among : List ℕ → List (List ℕ) → Type 0
Among message messages = Someone (λ own. own ≡ message) messages

-- each message is smaller than all after it
pub data Rising : List (List ℕ) → Type 0 where
  nothing : Rising []
  before : {message : List ℕ} {messages : List (List ℕ)} → Everyone (λ other. smaller message other ≡ true) messages
      → Rising messages → Rising (message ∷ messages)

-- a message put before another, after it or not again, by two tests
abbrev put_by : (less more : Bool) → List ℕ → List ℕ → List (List ℕ) → List (List ℕ)
put_by less more message other others =
    cond less (message ∷ other ∷ others) (cond more (other ∷ placed message others) (other ∷ others))

-- what holds of all, who is there, how many they are
pub placed-all : {P : List ℕ → Type 0} {l : List (List ℕ)} (message : List ℕ) → P message → Everyone P l
    → Everyone P (placed message l)
placed-all message p nobody = also p nobody
placed-all {P} message p (also {a = other} {l = others} q rest) =
    go (smaller message other) (smaller other message) (placed-all message p rest)
  where
    go : (less more : Bool) → Everyone P (placed message others)
        → Everyone P (put_by less more message other others)
    go true more later = also p (also q rest)
    go false true later = also q later
    go false false later = also q rest

placed-rising : {l : List (List ℕ)} (message : List ℕ) → Rising l → Rising (placed message l)
placed-rising message nothing = before nobody nothing
placed-rising message (before {message = other} {messages = others} smallest rest) =
    go (smaller message other) refl (smaller other message) refl (placed-rising message rest)
  where
    go : (less : Bool) → smaller message other ≡ less → (more : Bool) → smaller other message ≡ more
        → Rising (placed message others)
        → Rising (put_by less more message other others)
    go true less more more? later =
        before
        (also less
        (everyone-so
        (λ own larger. smaller-then message other own less (smaller-at-most other own larger)) smallest))
        (before smallest rest)
    go false less true more later = before (placed-all message more smallest) later
    go false less false more later = before smallest rest

placed-there : {P : List ℕ → Type 0} {l : List (List ℕ)} (message : List ℕ) → Someone P l
    → Someone P (placed message l)
placed-there {P} message (this {a = other} {l = others} p) = go (smaller message other) (smaller other message)
  where
    go : (less more : Bool)
        → Someone P (put_by less more message other others)
    go true more = another (this p)
    go false true = this p
    go false false = this p
placed-there {P} message (another {a = other} {l = others} some) =
    go (smaller message other) (smaller other message) (placed-there message some)
  where
    go : (less more : Bool) → Someone P (placed message others)
        → Someone P (put_by less more message other others)
    go true more later = another (another some)
    go false true later = another later
    go false false later = another some

placed-itself : (message : List ℕ) (l : List (List ℕ)) → Among message (placed message l)
placed-itself message [] = this refl
placed-itself message (other ∷ others) =
    go (smaller message other) refl (smaller other message) refl (placed-itself message others)
  where
    go : (less : Bool) → smaller message other ≡ less → (more : Bool) → smaller other message ≡ more
        → Among message (placed message others)
        → Among message
        (put_by less more message other others)
    go true less more more? later = this refl
    go false less true more later = another later
    go false less false more later = this (neither-smaller other message more less)

placed-length : (message : List ℕ) (l : List (List ℕ)) → length (placed message l) ≤ suc (length l)
placed-length message [] = omega arith
placed-length message (other ∷ others) =
    go (smaller message other) (smaller other message) (placed-length message others)
  where
    go : (less more : Bool) → length (placed message others) ≤ suc (length others)
        → length (put_by less more message other others)
        ≤ suc (suc (length others))
    go true more later = omega arith
    go false true later = omega arith
    go false false later = omega arith

-- the different messages are rising, so no two are equal
pub different-rising : (messages : List (List ℕ)) → Rising (different messages)
different-rising [] = nothing
different-rising (message ∷ messages) = placed-rising message (different-rising messages)

-- each is one of the messages
pub different-among : (messages : List (List ℕ)) → Everyone (λ own. Among own messages) (different messages)
different-among [] = nobody
different-among (message ∷ messages) =
    placed-all message (this refl) (everyone-so (λ own among. another among) (different-among messages))

-- and each message is one of them
pub different-all : (messages : List (List ℕ)) → Everyone (λ own. Among own (different messages)) messages
different-all [] = nobody
different-all (message ∷ messages) =
    also (placed-itself message (different messages))
    (everyone-so (λ own. placed-there message) (different-all messages))

-- so they are no more than the messages
pub different-length : (messages : List (List ℕ)) → length (different messages) ≤ length messages
different-length [] = omega arith
different-length (message ∷ messages) =
    omega (arith, placed-length message (different messages), different-length messages)

-- how many are smaller than a message: at least as many as than one that is at most it
smaller-than-more : (own message other : List ℕ) → AtMost message other
    → cond (smaller own message) 1 0 ≤ cond (smaller own other) 1 0
smaller-than-more own message other order = go (smaller own message) refl
  where
    go : (less : Bool) → smaller own message ≡ less → cond less 1 0 ≤ cond (smaller own other) 1 0
    go true less = rw (smaller-then own message other less order) (omega arith)
    go false less = omega arith

count-at-most : (message other : List ℕ) (l : List (List ℕ)) → AtMost message other
    → smaller_count message l ≤ smaller_count other l
count-at-most message other [] order = omega arith
count-at-most message other (own ∷ l) order =
    omega (arith, smaller-than-more own message other order, count-at-most message other l order)

-- more than one of them that is smaller
pub count-smaller : (message other : List ℕ) {l : List (List ℕ)} → Among message l → smaller message other ≡ true
    → smaller_count message l < smaller_count other l
count-smaller message other (this {a = own} {l} same) less =
    let itself : smaller own message ≡ false = ap (λ m. smaller m message) same ∙ smaller-self message in
    let counted : smaller own other ≡ true = ap (λ m. smaller m other) same ∙ less in
    rw (itself, counted) (omega (arith, count-at-most message other l (smaller-at-most message other less)))
count-smaller message other (another {a = own} {l} some) less =
    omega (
      arith,
      smaller-than-more own message other (smaller-at-most message other less),
      count-smaller message other some less,
    )

-- fewer than there are, of one that is there
some_or_none : (less : Bool) → cond less 1 0 ≤ 1
some_or_none true = omega arith
some_or_none false = omega arith

count_most : (message : List ℕ) (l : List (List ℕ)) → smaller_count message l ≤ length l
count_most message [] = omega arith
count_most message (own ∷ l) = omega (arith, some_or_none (smaller own message), count_most message l)

pub count-within : (message : List ℕ) {l : List (List ℕ)} → Among message l → smaller_count message l < length l
count-within message (this {a = own} {l} same) =
    let itself : smaller own message ≡ false = ap (λ m. smaller m message) same ∙ smaller-self message in
    rw itself (omega (arith, count_most message l))
count-within message (another {a = own} some) =
    omega (arith, some_or_none (smaller own message), count-within message some)

-- in rising messages, as many as stand before it
count_none : (message : List ℕ) {l : List (List ℕ)} → Everyone (λ other. smaller message other ≡ true) l
    → smaller_count message l ≡ 0
count_none message nobody = refl
count_none message (also {a = other} less more) =
    rw (at-most-not-smaller (smaller-at-most message other less)) (omega (arith, count_none message more))

pub everyone-at : {P : List ℕ → Type 0} {l : List (List ℕ)} → Everyone P l → (k : ℕ) → k < length l → P (get_or l k [])
everyone-at nobody k inside = absurd (omega arith)
everyone-at (also p more) zero inside = p
everyone-at (also p more) (suc k) inside = everyone-at more k (omega arith)

pub among-at : (l : List (List ℕ)) (k : ℕ) → k < length l → Among (get_or l k []) l
among-at [] k inside = absurd (omega arith)
among-at (message ∷ l) zero inside = this refl
among-at (message ∷ l) (suc k) inside = another (among-at l k (omega arith))

pub count_at : {l : List (List ℕ)} → Rising l → (k : ℕ) → k < length l → smaller_count (get_or l k []) l ≡ k
count_at nothing k inside = absurd (omega arith)
count_at (before {message} smallest rest) zero inside =
    rw (smaller-self message) (omega (arith, count_none message smallest))
count_at (before {message} {messages} smallest rest) (suc k) inside =
    let later : k < length messages = omega arith in
    rw (everyone-at smallest k later) (omega (arith, count_at rest k later))

-- so there is a different message for each round, and a smaller message has an earlier one
pub round-at : (messages : List (List ℕ)) (k : ℕ) → k < length (different messages)
    → round_of messages (get_or (different messages) k []) ≡ suc k
round-at messages k inside = ap suc (count_at (different-rising messages) k inside)

pub earlier-round : (messages : List (List ℕ))
    → Everyone
    (λ message. (other : List ℕ) → smaller message other ≡ true
    → round_of messages message < round_of messages other) messages
earlier-round messages =
    everyone-so (λ message among other less. omega (arith, count-smaller message other among less))
    (different-all messages)
