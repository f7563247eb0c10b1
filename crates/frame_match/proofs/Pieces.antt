-- What the frames of a capture are: nothing is lost, each but perhaps the first begins with a START, and no other START
-- stands in one.
use Prim.Native.Nat.{ℕ}
use mathlib.Core.Path.{◌≡◌, refl, ap, ◌∙◌}
use mathlib.Core.Bool.{Bool, true, false, cond}
use mathlib.Core.List.{List, [], ◌∷◌, ◌++◌}
use lib.ListN.{get_or, drop}
use Rattle.laws.specs.Search.{any}
use Rattle.laws.specs.Everyone.{Everyone, nobody, also}
use Rattle.frame_match.specs.Frames.{is_start, joined, cut}

-- frames one after another
abbrev pub together : List (List ℕ) → List ℕ
together [] = []
together (frame ∷ frames) = frame ++ together frames

pub cut-whole : (events : List ℕ) → together (cut events) ≡ events
cut-whole [] = refl
cut-whole (event ∷ events) = go (cut events) ∙ ap (λ (rest : List ℕ). event ∷ rest) (cut-whole events)
  where
    first : (start : Bool) (frame : List ℕ) (frames : List (List ℕ))
        → together (cond start ((event ∷ []) ∷ frame ∷ frames) ((event ∷ frame) ∷ frames)) ≡ event ∷ together (frame ∷ frames)
    first true frame frames = refl
    first false frame frames = refl

    go : (frames : List (List ℕ)) → together (joined event frames) ≡ event ∷ together frames
    go [] = refl
    go (frame ∷ frames) = first (is_start (get_or frame 0 0)) frame frames

-- no START stands in a frame but as its first event; and the frames after the first begin with one
pub record Frames (frames : List (List ℕ)) : Type 0 where
  pub inside : Everyone (λ (frame : List ℕ). any is_start (drop 1 frame) ≡ false) frames
  pub begin : Everyone (λ (frame : List ℕ). is_start (get_or frame 0 0) ≡ true) (drop 1 frames)

joined-frames : (event : ℕ) (frames : List (List ℕ)) → Frames frames → Frames (joined event frames)
joined-frames event [] are = record { inside = also refl nobody; begin = nobody }
joined-frames event (frame ∷ frames) are = go (is_start (get_or frame 0 0)) refl are.inside are.begin
  where
    alone : (frame : List ℕ) → is_start (get_or frame 0 0) ≡ false → any is_start (drop 1 frame) ≡ false → any is_start frame ≡ false
    alone [] is rest = refl
    alone (other ∷ frame) is rest = rw is rest

    go : (start : Bool) → is_start (get_or frame 0 0) ≡ start
        → Everyone (λ (frame : List ℕ). any is_start (drop 1 frame) ≡ false) (frame ∷ frames)
        → Everyone (λ (frame : List ℕ). is_start (get_or frame 0 0) ≡ true) frames
        → Frames (cond start ((event ∷ []) ∷ frame ∷ frames) ((event ∷ frame) ∷ frames))
    go true is inside begin = record { inside = also refl inside; begin = also is begin }
    go false is (also here inside) begin = record { inside = also (alone frame is here) inside; begin = begin }

pub cut-frames : (events : List ℕ) → Frames (cut events)
cut-frames [] = record { inside = nobody; begin = nobody }
cut-frames (event ∷ events) = joined-frames event (cut events) (cut-frames events)
