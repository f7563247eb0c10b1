-- A text put past its first bytes, chunk by chunk: chunks one after another are the whole.
use mathlib.Core.Path.{◌≡◌, refl, sym, ap, ◌∙◌}
use mathlib.Core.List.{List, [], ◌∷◌, ◌++◌, append_assoc, append-nil}
use Prim.Native.Nat.{ℕ, zero, suc, ◌+◌, ◌*◌, ◌-◌, ◌≤◌, min}
use native.Mathlib.Nat.{zero-sub, sub-zero, suc-sub-suc}
use native.Mathlib.Omega.{arith}
use lib.ListN.{length, take, drop, length-append}
use lib.Seq.{sets-eq, take_at, drop-nil}
use Rattle.laws.proofs.Lists.{drop-least}
use Rattle.text.specs.Output.{Put}
use Rattle.text.proofs.Putting.{put_as, put_then, put-none, put-length}
use Rattle.dump.specs.declared.writer.Point.{Point}
use Rattle.dump.specs.Window.{PutPast}

-- what two lists are without their first n elements
pub drop-over : (n : ℕ) (s t : List ℕ) → drop n (s ++ t) ≡ drop n s ++ drop (n - length s) t
drop-over zero s t = rw (zero-sub (length s))
drop-over (suc n) [] t = rw (sub-zero (suc n))
drop-over (suc n) (a ∷ s) t = rw (suc-sub-suc n (length s)) (drop-over n s t)

pub past-holds : (old chunk new : List ℕ) (from to : Point) (first : ℕ) → first ≡ min from.skip (length chunk)
    → to.skip ≡ from.skip - first → Put old from.at (drop first chunk) new to.at → PutPast old from chunk new to
past-holds old chunk new from to first least less put =
    record {
      put =
          put_as old from.at (sym (ap (λ (k : ℕ). drop k chunk) least ∙ drop-least from.skip chunk)) put;
      left = omega (arith, least, less);
    }

pub past-as : {old new s chunk : List ℕ} {from to : Point} → s ≡ chunk → PutPast old from s new to
    → PutPast old from chunk new to
past-as same past = rw same at past

pub past_next : {old mid new s t : List ℕ} {from to end : Point}
    → PutPast old from s mid to → PutPast mid to t new end → PutPast old from (s ++ t) new end
past_next {old} {mid} {new} {s} {t} {from} {to} {end} one two =
    let cut : drop from.skip (s ++ t) ≡ drop from.skip s ++ drop to.skip t =
    drop-over from.skip s t ∙ ap (λ (k : ℕ). drop from.skip s ++ drop k t) (sym one.left) in
    record {
      put = put_then old from.at _ _ _ cut one.put two.put;
      left = omega (arith, one.left, two.left, length-append s t);
    }

pub past-length : {old new chunk : List ℕ} {from to : Point} → PutPast old from chunk new to → length new ≡ length old
past-length {old} {new} {chunk} {from} {to} past = put-length old from.at past.put

past-none : (old : List ℕ) (from : Point) → from.at ≤ length old → PutPast old from [] old from
past-none old from within =
    let here : from.at ≡ min from.at (length old) = omega arith in
    record {
      put = put_as old from.at (drop-nil from.skip) (put-none old from.at from.at here);
      left = omega arith;
    }

-- a text that has room is what the slice then starts with
pub put_front : (old text new : List ℕ) (next : ℕ) → Put old 0 text new next → length text ≤ length old
    → take next new ≡ text
put_front old text new next put fits =
    let long : length text ≡ next = omega (arith, put.moved) in
    let room : 0 + length text ≤ length old = omega arith in
    ap (take next) (put.stored ∙ sets-eq text old 0 room) ∙ take_at text (drop (0 + length text) old) next long

-- of the whole, `front` is put and `rest` is left; so many chunks of at most 18 bytes made the front
pub record Writing (old : List ℕ) (from : Point) (whole rest new : List ℕ) (to : Point) (chunks : ℕ) : Type 0 where
  pub front : List ℕ
  pub past : PutPast old from front new to
  pub parts : whole ≡ front ++ rest
  pub few : length front ≤ 18 * chunks

pub writing-none : (old whole : List ℕ) (from : Point) → from.at ≤ length old → Writing old from whole whole old from 0
writing-none old whole from within =
    record { front = []; past = past-none old from within; parts = refl; few = omega arith }

pub writing_more : {old whole rest mid new : List ℕ} {from to end : Point} {chunks : ℕ} (chunk next : List ℕ)
    → rest ≡ chunk ++ next → length chunk ≤ 18 → Writing old from whole rest mid to chunks → PutPast mid to chunk new end
    → Writing old from whole next new end (chunks + 1)
writing_more {old} {whole} {rest} {mid} {new} {from} {to} {end} {chunks} chunk next split small so_far past =
    record {
      front = so_far.front ++ chunk;
      past = past_next so_far.past past;
      parts =
          so_far.parts ∙ ap (λ (l : List ℕ). so_far.front ++ l) split ∙ sym (append_assoc so_far.front chunk next);
      few = omega (arith, length-append so_far.front chunk, so_far.few);
    }

module _ {old whole rest new : List ℕ} {from to : Point} {chunks : ℕ} (empty : rest ≡ [])
    (writing : Writing old from whole rest new to chunks) where
  all : whole ≡ writing.front
  all = writing.parts ∙ ap (λ (l : List ℕ). writing.front ++ l) empty ∙ append-nil writing.front

  pub writing-done : PutPast old from whole new to
  writing-done = rw all writing.past

  pub writing-few : length whole ≤ 18 * chunks
  writing-few = rw all writing.few
