-- A piece filled by one read after another.
use mathlib.Core.Path.{◌≡◌, ap, sym, ◌∙◌, subst}
use mathlib.Core.List.{List, ◌++◌, append-nil}
use Prim.Native.Nat.{ℕ, ◌+◌, ◌-◌, ◌≤◌}
use native.Mathlib.Omega.{arith}
use lib.ListN.{length, take, drop_of_length-le}
use borrow.Rule.Slice.PartMut.{put_mid, Post-is}
use Rattle.rig_lines.specs.Input.{Read, more}

-- what a read leaves in a piece whose first n bytes were there
pub read_more : {piece now : List ℕ} {n : ℕ} (new : List ℕ) (count : ℕ) → Read piece now n → n ≤ length now
    → n + length new ≡ length now → count ≤ length new → Read piece (put_mid n (length now - n) now new) (n + count)
read_more {piece} {now} {n} new count read within long less =
    subst (λ (l : List ℕ). Read piece l (n + count)) (sym whole) (more new count read long less)
  where
    refl-≤ : (k : ℕ) → k ≤ k
    refl-≤ k = omega arith

    whole : put_mid n (length now - n) now new ≡ take n now ++ new
    whole =
        ap (λ (l : List ℕ). take n now ++ (new ++ l))
        (Post-is n (length now) now within ∙ drop_of_length-le now (refl-≤ (length now)))
        ∙ ap (λ (l : List ℕ). take n now ++ l) (append-nil new)

-- the same of a read that delivers nothing
pub read-nothing : {piece now : List ℕ} {n : ℕ} (new : List ℕ) → Read piece now n → n ≤ length now
    → n + length new ≡ length now → Read piece (put_mid n (length now - n) now new) n
read-nothing {piece} {now} {n} new read within long =
    let none : n + 0 ≡ n = omega arith in
    subst (λ (k : ℕ). Read piece (put_mid n (length now - n) now new) k) none
    (read_more new 0 read within long (omega arith))
