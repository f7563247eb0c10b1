-- Text put into a buffer piece by piece: `Put` of each piece is `Put` of the whole.
use mathlib.Core.Path.{◌≡◌, refl, sym, ap, ◌∙◌}
use mathlib.Core.Bool.{Bool, true, false, cond}
use mathlib.Core.List.{List, [], ◌∷◌, ◌++◌, append_assoc, append-nil}
use Prim.Native.Nat.{ℕ, suc, ◌+◌, ◌≤◌, ◌<◌, min}
use native.Mathlib.Nat.{le_refl, min-eq_left, min-eq_right}
use native.Mathlib.Numerals.{add-one}
use native.Mathlib.Omega.{arith}
use lib.Dec.{leb}
use lib.ListN.{length, get_or, set, take, length-append, length-set}
use lib.Seq.{sets, length-sets, set_out, length-take-le, take-suc, take_all}
use borrow.Author.Tests.{leb-true, leb-false}
use Rattle.text.specs.Output.{Put}

-- past the end nothing is stored
pub sets-out : (text l : List ℕ) (i : ℕ) → length l ≤ i → sets l i text ≡ l
sets-out [] l i h = refl
sets-out (a ∷ text) l i h =
    let past : length (set l i a) ≤ suc i = omega (arith, length-set l i a) in
    sets-out text (set l i a) (suc i) past ∙ set_out l i a h

pub sets-append : (s t l : List ℕ) (i : ℕ) → sets l i (s ++ t) ≡ sets (sets l i s) (i + length s) t
sets-append [] t l i = ap (λ (k : ℕ). sets l k t) (omega arith)
sets-append (a ∷ s) t l i =
    let on : suc i + length s ≡ i + suc (length s) = omega arith in
    sets-append s t (set l i a) (suc i) ∙ ap (λ (k : ℕ). sets (sets (set l i a) (suc i) s) k t) on

-- a position past the end is as good as the end
sets-min : (text l : List ℕ) (k : ℕ) → sets l (min k (length l)) text ≡ sets l k text
sets-min text l k = by-test (leb k (length l)) refl
  where
    at-min : {i : ℕ} → min k (length l) ≡ i → sets l (min k (length l)) text ≡ sets l i text
    at-min e = ap (λ (j : ℕ). sets l j text) e

    by-test : (b : Bool) → leb k (length l) ≡ b → sets l (min k (length l)) text ≡ sets l k text
    by-test true e = at-min (min-eq_left (leb-true k (length l) e))
    by-test false e =
        let past : length l ≤ k = omega (arith, leb-false k (length l) e) in
        at-min (min-eq_right past) ∙ sets-out text l (length l) (le_refl (length l)) ∙ sym (sets-out text l k past)

module _ (old : List ℕ) (at : ℕ) where
  pub put_holds : (text new : List ℕ) (next : ℕ)
      → new ≡ sets old at text → next ≡ min (at + length text) (length old) → Put old at text new next
  put_holds text new next s m =
      let within : next ≤ length new = omega (arith, ap length s ∙ length-sets old at text) in
      record { stored = s; moved = m; within = within; counted = sym (length-take-le next new within) }

  pub put-length : {text new : List ℕ} {next : ℕ} → Put old at text new next → length new ≡ length old
  put-length {text} p = ap length p.stored ∙ length-sets old at text

  pub put_as : {text s new : List ℕ} {next : ℕ} → text ≡ s → Put old at s new next → Put old at text new next
  put_as e p = rw e p

  -- one text, and another after it
  pub put_then : (text s t : List ℕ) {mid new : List ℕ} {next end : ℕ}
      → text ≡ s ++ t → Put old at s mid next → Put mid next t new end → Put old at text new end
  put_then text s t {mid} {new} {next} {end} e p q =
      let long : length mid ≡ length old = put-length p in
      let far : length text ≡ length s + length t = ap length e ∙ length-append s t in
      let here : next ≡ min (at + length s) (length mid) = omega (arith, p.moved) in
      put_holds text new end
      (q.stored
      ∙ ap (λ (k : ℕ). sets mid k t) here
      ∙ sets-min t mid (at + length s)
      ∙ ap (λ (l : List ℕ). sets l (at + length s) t) p.stored
      ∙ sym (ap (sets old at) e ∙ sets-append s t old at))
      (omega (arith, p.moved, q.moved))

  pub put_next : {s t mid new : List ℕ} {next end : ℕ}
      → Put old at s mid next → Put mid next t new end → Put old at (s ++ t) new end
  put_next p q = put_then _ _ _ refl p q

  pub put-none : (next : ℕ) → next ≡ min at (length old) → Put old at [] old next
  put-none next m = put_holds [] old next refl (omega arith)

  -- the text byte by byte: one byte more
  pub put-more : (text : List ℕ) (i : ℕ) {mid new : List ℕ} {next end : ℕ} → i < length text
      → Put old at (take i text) mid next → Put mid next (get_or text i 0 ∷ []) new end
      → Put old at (take (i + 1) text) new end
  put-more text i h p q =
      put_then (take (i + 1) text) (take i text) (get_or text i 0 ∷ []) (rw add-one (take-suc text i 0 h)) p q

  pub put_all : (text : List ℕ) (i : ℕ) {new : List ℕ} {next : ℕ} → length text ≤ i
      → Put old at (take i text) new next → Put old at text new next
  put_all text i h p = rw (take_all i text h) at p

-- one byte, where there is room and where there is none
pub put_one : (old : List ℕ) (at b : ℕ) → at < length old → Put old at (b ∷ []) (set old at b) (at + 1)
put_one old at b h = put_holds old at (b ∷ []) (set old at b) (at + 1) refl (omega arith)

pub put_full : (old : List ℕ) (at b : ℕ) → length old ≤ at → Put old at (b ∷ []) old (length old)
put_full old at b h = put_holds old at (b ∷ []) old (length old) (sym (set_out old at b h)) (omega arith)

-- A text put piece by piece, by a loop: what is put so far, and what is left, are the whole.
pub record Putting (old : List ℕ) (at : ℕ) (whole rest new : List ℕ) (next : ℕ) : Type 0 where
  pub front : List ℕ
  pub put : Put old at front new next
  pub parts : front ++ rest ≡ whole

pub putting-none : (old : List ℕ) (at : ℕ) (whole : List ℕ) (next : ℕ)
    → next ≡ min at (length old) → Putting old at whole whole old next
putting-none old at whole next m = record { front = []; put = put-none old at next m; parts = refl }

pub putting-more : {old whole rest mid new : List ℕ} {at next end : ℕ} (piece left : List ℕ) → rest ≡ piece ++ left
    → Putting old at whole rest mid next → Put mid next piece new end → Putting old at whole left new end
putting-more {old} {whole} {rest} {mid} {new} {at} {next} {end} piece left e p q =
    record {
      front = p.front ++ piece;
      put = put_next old at p.put q;
      parts = append_assoc p.front piece left ∙ sym (ap (λ (l : List ℕ). p.front ++ l) e) ∙ p.parts;
    }

pub putting-done : {old whole rest new : List ℕ} {at next : ℕ} → rest ≡ []
    → Putting old at whole rest new next → Put old at whole new next
putting-done {old} {whole} {rest} {new} {at} {next} e p =
    put_as old at (sym p.parts ∙ ap (λ (l : List ℕ). p.front ++ l) e ∙ append-nil p.front) p.put

pub putting-length : {old whole rest new : List ℕ} {at next : ℕ}
    → Putting old at whole rest new next → length new ≡ length old
putting-length {old} {whole} {rest} {new} {at} {next} p = put-length old at p.put

-- a text by cases
pub put_first : {old new : List ℕ} {at next : ℕ} (b : Bool) (s t : List ℕ) → b ≡ true
    → Put old at s new next → Put old at (cond b s t) new next
put_first b s t e p = rw e p

pub put_second : {old new : List ℕ} {at next : ℕ} (b : Bool) (s t : List ℕ) → b ≡ false
    → Put old at t new next → Put old at (cond b s t) new next
put_second b s t e p = rw e p

-- rules by which `search` puts a text together of the pieces that were put
pub ruleset puts = (put_next, put_first, put_second)
