-- Cuts: document 01, "Cut". A cut is the list of its counts, station 1 first; a place is a station counted from 0, so place p is station p + 1.
-- In order: a count, the start, a step forward and back, the events in a cut, the cuts of a recording.
use Rattle.std.specs.Prelude.{List, [], ◌∷◌, ℕ, zero, suc, pred, ◌+◌, ◌≤◌, get_or, replicate}

-- c_p: the event number of the station at place p
abbrev pub at : List ℕ → ℕ → ℕ
at c p = get_or c p 0

-- "the all-zero cut", of n stations
abbrev pub zeros : ℕ → List ℕ
zeros n = replicate n 0

-- "step forward .. by one event of a named station"
abbrev pub forward : ℕ → List ℕ → List ℕ
forward p [] = []
forward zero (x ∷ c) = suc x ∷ c
forward (suc p) (x ∷ c) = x ∷ forward p c

-- ".. or back"
abbrev pub back : ℕ → List ℕ → List ℕ
back p [] = []
back zero (x ∷ c) = pred x ∷ c
back (suc p) (x ∷ c) = x ∷ back p c

-- the events in a cut; "T is their sum" at the full cut
abbrev pub total : List ℕ → ℕ
total [] = 0
total (x ∷ c) = x + total c

-- "One event number c_p per station, 0 to m_p": c is a cut of a recording whose stations have m events
abbrev pub Within : List ℕ → List ℕ → Type 0
Within [] [] = Unit {0}
Within [] (x ∷ c) = ⊥
Within (k ∷ m) [] = ⊥
Within (k ∷ m) (x ∷ c) = (x ≤ k) × Within m c
