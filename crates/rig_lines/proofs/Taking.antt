-- A line taken byte by byte from a source.
use mathlib.Core.Path.{◌≡◌, refl, sym, ap, ◌∙◌}
use mathlib.Core.Bool.{Bool, true, false, ◌&&◌}
use mathlib.Core.List.{List, [], ◌∷◌, ◌++◌, append_assoc, append-nil}
use Prim.Native.Nat.{ℕ, ◌+◌, ◌-◌, ◌≤◌, ◌<◌, min}
use native.Mathlib.Omega.{arith}
use lib.ListN.{length, get_or, length-append}
use borrow.Author.Tests.{ne_eqb}
use mathlib.Core.Logic.{◌↔◌}
use Rattle.std.proofs.lemmas.List.Recursion.{and_at, and_from_places}
use Rattle.text.specs.Output.{Put}
use Rattle.text.proofs.Putting.{put_next, put-none}
use Rattle.rig_lines.specs.Bytes.{every}
use Rattle.rig_lines.specs.Numbers.{largest}
use Rattle.rig_lines.specs.Input.{next_number, Fed, nothing, byte, read, after_read, Refilled, NextByte}
use Rattle.rig_lines.specs.Input.{judged_line, judged_last, stored_in}
use Rattle.rig_lines.specs.Input.{no_newline, Took, whole, last, endless}
use Rattle.rig_lines.specs.declared.input.Next.{Next}
use Rattle.rig_lines.specs.declared.input.Next.TheVariants.{Byte, End as NoByte}
use Rattle.rig_lines.specs.declared.input.Source.{Source}
use Rattle.rig_lines.specs.declared.input.Taken.{Taken}
use Rattle.rig_lines.specs.declared.input.Line.TheVariants.{TooLong}

-- a source with a new piece
pub read-once : (old new : List ℕ) (s s' : Source) (n errno : ℕ) → s' ≡ after_read n errno s → s.end ≤ s.at
    → s.done ≡ false → n ≤ length new → length new ≡ length old → Refilled old s new s'
read-once old new s s' n errno e h d l k =
    let within : n ≤ length old = omega arith in
    rw e (record { fed = read new n errno nothing h d k within; kept = k })

-- what a source hands on, and then more
pub fed_then : {p q : List ℕ} {s t : Source} {r : List ℕ} {u : Source} {bs cs : List ℕ} → Fed p s bs q t → Fed q t cs r u
    → Fed p s (bs ++ cs) r u
fed_then f nothing = rw append-nil f
fed_then f (byte g h k) = rw (← append_assoc) (byte (fed_then f g) h k)
fed_then f (read new n e g h d l m) = read new n e (fed_then f g) h d l m

module _ (test : ℕ → Bool) where
  -- each byte passes the test, or one fails it
  pub every-is : (s : List ℕ) (answer : Bool) → (answer ≡ true ↔ ((k : ℕ) → k < length s → test (get_or s k 0) ≡ true))
      → answer ≡ every test s
  unfolding every
  every-is s true is = sym (and_from_places (every test) test refl (λ x xs. refl) s 0 (is.0 refl))
  every-is s false is = go (every test s) refl
    where
      go : (all : Bool) → every test s ≡ all → false ≡ all
      go true so = is.1 (λ k less. and_at (every test) test refl (λ x xs. refl) s k 0 less so)
      go false so = refl

  -- one byte more at the end
  pub every_more : (s : List ℕ) (b : ℕ) → every test s ≡ true → test b ≡ true → every test (s ++ (b ∷ [])) ≡ true
  unfolding every
  every_more [] b e t = rw t
  every_more (a ∷ s) b e t = both (test a) (every_more s b) e
    where
      both : (v : Bool) → (every test s ≡ true → test b ≡ true → every test (s ++ (b ∷ [])) ≡ true)
          → (v && every test s) ≡ true → (v && every test (s ++ (b ∷ []))) ≡ true
      both true f q = f q t
      both false f q = q

module _ (piece line : List ℕ) (s : Source) where
  -- a line of which some bytes are taken, none of them a newline
  pub record Taking (piece' line' : List ℕ) (s' : Source) (n turns : ℕ) : Type 0 where
    pub bytes : List ℕ
    pub plain : every no_newline bytes ≡ true
    pub put : Put line 0 bytes line' n
    pub fed : Fed piece s bytes piece' s'
    pub left : length bytes + turns ≡ largest

  pub taking-none : Taking piece line s 0 largest
  unfolding every
  taking-none =
      record { bytes = []; plain = refl; put = put-none line 0 0 (omega arith); fed = nothing; left = refl }

  pub taking-more : {piece' line' piece'' line'' : List ℕ} {s' s'' : Source} {n n'' turns : ℕ} (r : Next) (b : ℕ)
      → r ≡ Byte b s'' → (b ≡ 0x0a → ⊥) → NextByte piece' s' piece'' r → Put line' n (b ∷ []) line'' n'' → 0 < turns
      → Taking piece' line' s' n turns → Taking piece'' line'' s'' n'' (turns - 1)
  taking-more r b e h f p g t =
      record {
        bytes = t.bytes ++ (b ∷ []);
        plain = every_more no_newline t.bytes b t.plain (rw (ne_eqb b 0x0a h));
        put = put_next line 0 t.put p;
        fed = fed_then t.fed (rw e at f);
        left = omega (arith, length-append t.bytes (b ∷ []));
      }

module _ (piece line : List ℕ) (s : Source) {piece' line' : List ℕ} {from s' : Source} {n turns : ℕ}
    (e : from ≡ next_number s) (t : Taking piece line from piece' line' s' n turns) where
  fed-so : Fed piece (next_number s) t.bytes piece' s'
  fed-so = rw e at t.fed

  stored-so : n ≡ stored_in line t.bytes
  stored-so = t.put.moved ∙ ap (λ (k : ℕ). min k (length line)) (omega arith)

  -- a newline came
  pub taking-whole : {piece'' : List ℕ} (r : Next) (b : ℕ) (taken : Taken) → r ≡ Byte b taken.source → b ≡ 0x0a
      → NextByte piece' s' piece'' r → taken.line ≡ judged_line line' n → Took piece line s piece'' line' taken
  taking-whole r b taken g h f j =
      whole t.bytes t.plain t.put.stored (rw h at (fed_then fed-so (rw g at f)))
      (j ∙ ap (judged_line line') stored-so)

  -- the input ended
  pub taking-last : {piece'' : List ℕ} (r : Next) (taken : Taken) → r ≡ NoByte taken.source
      → NextByte piece' s' piece'' r → taken.line ≡ judged_last taken.source.errno line' n
      → Took piece line s piece'' line' taken
  taking-last r taken g f j =
      let last_of = rw g at f in
      last t.bytes t.plain t.put.stored (rw append-nil at (fed_then fed-so last_of.0)) last_of.1
      (j ∙ ap (judged_last taken.source.errno line') stored-so)

  -- the turns are used up
  pub taking-endless : (taken : Taken) → turns ≡ 0 → taken.source ≡ s' → taken.line ≡ TooLong
      → Took piece line s piece' line' taken
  taking-endless taken h f j =
      endless t.bytes (omega (arith, t.left)) t.put.stored (rw f fed-so) j
