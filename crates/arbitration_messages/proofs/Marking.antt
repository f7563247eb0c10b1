-- Marks set at the beginnings of parts and of messages: what holds at each loop's head.
use Prim.Native.Nat.{ℕ, zero, suc, ◌+◌, ◌-◌, ◌<◌, ◌≤◌}
use mathlib.Core.Path.{◌≡◌, refl, sym, ap, ap₂, ◌∙◌}
use mathlib.Core.Bool.{Bool, false}
use mathlib.Core.List.{List, [], ◌∷◌, ◌++◌, append_assoc, append-nil}
use native.Mathlib.Numerals.{add-one}
use native.Mathlib.Omega.{arith}
use borrow.Author.Tests.{eqb-false}
use lib.ListN.{length, get_or, set, take, drop, replicate, length-replicate, drop_of_length-le, length-append}
use lib.ListN.{replicate-append-replicate, take-append-drop}
use lib.Seq.{drop-cons, set-append_seam, take-set-le, drop-set-add, take-add, drop-drop}
use Rattle.laws.specs.Search.{any}
use Rattle.laws.proofs.Bools.{neither}
use Rattle.arbitration_rules.specs.Reply.{is_empty, total, marks_after}
use Rattle.arbitration_messages.specs.Marks.{max_sent, started}
use Rattle.arbitration_messages.proofs.Sums.{summed-more, summed-all}

-- where no element passes a test, none at an index does
pub none-at : {A : Type 0} (test : A → Bool) (list : List A) (i : ℕ) (empty : A) → any test list ≡ false
    → i < length list → test (get_or list i empty) ≡ false
none-at test [] i empty none less = absurd (omega arith)
none-at test (a ∷ list) zero empty none less = (neither (test a) (any test list) none).0
none-at test (a ∷ list) (suc i) empty none less =
    none-at test list i empty (neither (test a) (any test list) none).1 (omega arith)

-- the marks of one part that begins with a restart
abbrev begun : ℕ → List ℕ
begun zero = []
begun (suc more) = 0 ∷ replicate more 256

begun_first : (part : ℕ) (parts : List ℕ) → marks_after (part ∷ parts) ≡ begun part ++ marks_after parts
begun_first zero parts = refl
begun_first (suc more) parts = refl

begun-length : (part : ℕ) → length (begun part) ≡ part
begun-length zero = refl
begun-length (suc more) = ap suc (length-replicate more 256)

-- a restart set where the rest has none
set-begun : (done : List ℕ) (part room : ℕ) → 0 < part → part ≤ room
    → set (done ++ replicate room 256) (length done) 0 ≡ (done ++ begun part) ++ replicate (room - part) 256
set-begun done zero room some fits = absurd (omega arith)
set-begun done (suc more) zero some fits = absurd (omega arith)
set-begun done (suc more) (suc room) some fits =
    let left : more + (suc room - suc more) ≡ room = omega arith in
    set-append_seam done 256 (replicate room 256) 0
    ∙ ap (λ (k : ℕ). done ++ 0 ∷ replicate k 256) (sym left)
    ∙ ap (λ (l : List ℕ). done ++ 0 ∷ l) (sym (replicate-append-replicate more (suc room - suc more) 256))
    ∙ sym (append_assoc done (0 ∷ replicate more 256) (replicate (suc room - suc more) 256))

-- the first i parts are marked, and end at an index
pub record Marked (parts marks : List ℕ) (at i : ℕ) : Type 0 where
  pub within : i ≤ length parts
  pub summed : at + total (drop i parts) ≡ total parts
  pub done : List ℕ
  pub long : length done ≡ at
  pub rest : marks_after parts ≡ done ++ marks_after (drop i parts)
  pub front : marks ≡ done ++ replicate (max_sent - at) 256

pub marked_start : (parts marks : List ℕ) → marks ≡ replicate max_sent 256 → Marked parts marks 0 0
marked_start parts marks none =
    record { within = omega arith; summed = omega arith; done = []; long = refl; rest = refl; front = none }

module _ (parts marks : List ℕ) (at i : ℕ) (marked : Marked parts marks at i) where
  module _ (full : any is_empty parts ≡ false) (fits : total parts ≤ max_sent) (less : i < length parts) where
    abbrev part : ℕ
    part = get_or parts i 0

    some : 0 < part
    some =
        let unequal : part ≡ 0 → ⊥ = eqb-false part 0 (none-at is_empty parts i 0 full less) in omega arith

    summed-next : at + part + total (drop (i + 1) parts) ≡ total parts
    summed-next = summed-more parts i at marked.summed less

    pub marked-fits : at + part ≤ max_sent
    marked-fits = omega (arith, summed-next)

    pub marked-room : at < max_sent
    marked-room = omega (arith, some, marked-fits)

    split : marks_after (drop i parts) ≡ begun part ++ marks_after (drop (i + 1) parts)
    split =
        ap marks_after (drop-cons parts i 0 less)
        ∙ begun_first part (drop (suc i) parts)
        ∙ ap (λ (k : ℕ). begun part ++ marks_after (drop k parts)) (sym (add-one i))

    pub marked_more : Marked parts (set marks at 0) (at + part) (i + 1)
    marked_more =
        let room : max_sent - at - part ≡ max_sent - (at + part) = omega arith in
        let fits-room : part ≤ max_sent - at = omega (arith, marked-fits) in
        record {
          within = omega arith;
          summed = summed-next;
          done = marked.done ++ begun part;
          long = length-append marked.done (begun part) ∙ ap₂ ◌+◌ marked.long (begun-length part);
          rest =
              marked.rest
              ∙ ap (λ (l : List ℕ). marked.done ++ l) split
              ∙ sym (append_assoc marked.done (begun part) (marks_after (drop (i + 1) parts)));
          front =
              ap₂ (λ (l : List ℕ) (k : ℕ). set l k 0) marked.front (sym marked.long)
              ∙ set-begun marked.done part (max_sent - at) some fits-room
              ∙ ap (λ (k : ℕ). (marked.done ++ begun part) ++ replicate k 256) room;
        }

  pub marked-done : length parts ≤ i → marks ≡ marks_after parts ++ replicate (max_sent - total parts) 256
  marked-done all =
      let none : marks_after (drop i parts) ≡ [] = ap marks_after (drop_of_length-le parts all) in
      let whole : marked.done ≡ marks_after parts =
      sym (marked.rest ∙ ap (λ (l : List ℕ). marked.done ++ l) none ∙ append-nil marked.done) in
      marked.front
      ∙ ap₂ (λ (l : List ℕ) (k : ℕ). l ++ replicate (max_sent - k) 256) whole
      (summed-all parts i at marked.summed all)

-- the first i messages are marked, and end at an index
pub record Started (lengths marks₀ marks : List ℕ) (from i : ℕ) : Type 0 where
  pub same : started lengths marks₀ ≡ take from marks ++ started (drop i lengths) (drop from marks)

module _ (lengths marks₀ marks : List ℕ) (from i : ℕ) (begin : Started lengths marks₀ marks from i) where
  pub started-more : i < length lengths
      → Started lengths marks₀ (set marks from 256) (from + get_or lengths i 0) (i + 1)
  started-more less =
      let next = set marks from 256 in
      let count = get_or lengths i 0 in
      let fresh : set (drop from marks) 0 256 ≡ drop from next =
      sym (drop-set-add from marks 0 256) ∙ ap (λ (k : ℕ). drop from (set marks k 256)) (omega arith) in
      let left = drop (suc i) lengths in
      let kept = sym (take-set-le from marks from 256 (omega arith)) in
      record {
        same =
            begin.same
            ∙ ap₂ (λ (l k : List ℕ). l ++ started k (drop from marks)) kept (drop-cons lengths i 0 less)
            ∙ ap (λ (l : List ℕ). take from next ++ (take count l ++ started left (drop count l))) fresh
            ∙ sym
            (append_assoc (take from next) (take count (drop from next))
            (started left (drop count (drop from next))))
            ∙ ap₂ (λ (l k : List ℕ). l ++ started left k) (sym (take-add from count next)) (drop-drop count from next)
            ∙ ap (λ (k : ℕ). take (from + count) next ++ started (drop k lengths) (drop (from + count) next))
            (sym (add-one i));
      }

  pub started-done : length lengths ≤ i → marks ≡ started lengths marks₀
  started-done all =
      sym
      (begin.same
      ∙ ap (λ (l : List ℕ). take from marks ++ started l (drop from marks)) (drop_of_length-le lengths all)
      ∙ take-append-drop from marks)
