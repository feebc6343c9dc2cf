-- Ways from the start: document 01, "Path", before its end is asked for.
-- A WAY IS WRITTEN LAST STEP FIRST, as places: the law's "station list, read from its end". Its moments are its tails.
use Rattle.std.specs.Prelude.{List, [], ◌∷◌, ℕ, ◌<◌, length}
use Rattle.cuts.specs.Cut.{at, zeros, forward}

-- the cut that a way comes to, in a recording whose stations have m events
abbrev pub cut_of : List ℕ → List ℕ → List ℕ
cut_of m [] = zeros (length m)
cut_of m (p ∷ way) = forward p (cut_of m way)

-- "steps of one event each", all of the recording, and P holds of every cut on the way, first and last included
pub data Along (m : List ℕ) (P : List ℕ → Type 0) : List ℕ → Type 0 where
  start : P (cut_of m []) → Along m P []
  step : {p : ℕ} {way : List ℕ} → p < length m → at (cut_of m way) p < at m p → P (cut_of m (p ∷ way)) → Along m P way → Along m P (p ∷ way)

-- P holds of some cut on the way, "first and last cut included"
pub data Moment (m : List ℕ) (P : List ℕ → Type 0) : List ℕ → Type 0 where
  last : {way : List ℕ} → P (cut_of m way) → Moment m P way
  earlier : {p : ℕ} {way : List ℕ} → Moment m P way → Moment m P (p ∷ way)

-- a way is a beginning of another
pub data Begins (way : List ℕ) : List ℕ → Type 0 where
  whole : Begins way way
  longer : {p : ℕ} {on : List ℕ} → Begins way on → Begins way (p ∷ on)
