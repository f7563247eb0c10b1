-- The frames of a capture: a START and all events after it up to the next (ours).
use Rattle.std.specs.Prelude.{ℕ, Bool, cond, List, [], ◌∷◌, eqb, get_or, drop}
use Rattle.trace.specs.Events.{start_event}

-- a START, not a repeated one
abbrev pub is_start : ℕ → Bool
is_start event = eqb event start_event

-- an event before frames: it belongs to the first of them, unless that begins with a START
abbrev pub joined : ℕ → List (List ℕ) → List (List ℕ)
joined event [] = (event ∷ []) ∷ []
joined event (frame ∷ frames) =
    cond (is_start (get_or frame 0 0)) ((event ∷ []) ∷ frame ∷ frames) ((event ∷ frame) ∷ frames)

-- events cut before each START
abbrev pub cut : List ℕ → List (List ℕ)
cut [] = []
cut (event ∷ events) = joined event (cut events)

-- the first frame, and those after it
abbrev pub frame_of : List (List ℕ) → List ℕ
frame_of frames = get_or frames 0 []

abbrev pub later_than : List (List ℕ) → List (List ℕ)
later_than frames = drop 1 frames

-- the frame that begins at a place
abbrev pub frame_at : List ℕ → ℕ → List ℕ
frame_at seen from = frame_of (cut (drop from seen))
