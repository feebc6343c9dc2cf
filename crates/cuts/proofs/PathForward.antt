-- A path in its own direction: what `Verdict` says of a station list read from its end, said of the list from its beginning; and a path has T steps.
-- Assumes nothing.
use mathlib.Core.Path.{◌≡◌, refl, sym, ap, ◌∙◌}
use mathlib.Core.Logic.{◌↔◌}
use mathlib.Core.List.{List, [], ◌∷◌, reverse, reverse_aux}
use Prim.Native.Nat.{ℕ, ◌<◌}
use lib.ListN.{length}
use Rattle.cuts.specs.Cut.{at, zeros, forward, total}
use Rattle.cuts.specs.Way.{cut_of, Along, start, step}
use Rattle.cuts.specs.Verdict.{Lattice, IsPath}
use Rattle.cuts.proofs.WayLaws.{along_last, along_total}

-- the cut after the steps of a path from c
abbrev pub end_of : List ℕ → List ℕ → List ℕ
end_of c [] = c
end_of c (p ∷ path) = end_of (forward p c) path

pub end-cut_of : (m path way : List ℕ) → cut_of m (reverse_aux path way) ≡ end_of (cut_of m way) path
end-cut_of m [] way = refl
end-cut_of m (p ∷ path) way = end-cut_of m path (p ∷ way)

module _ (m : List ℕ) (P : List ℕ → Type 0) where
  -- the steps of a path from c are steps of the recording, and P holds of every cut, c and the last included
  pub data Steps : List ℕ → List ℕ → Type 0 where
    end : {c : List ℕ} → P c → Steps c []
    go_on : {p : ℕ} {c path : List ℕ} → P c → p < length m → at c p < at m p → Steps (forward p c) path → Steps c (p ∷ path)

  steps_first : {c path : List ℕ} → Steps c path → P c
  steps_first (end x) = x
  steps_first (go_on x h r s) = x

  along_steps : (path way : List ℕ) → Along m P (reverse_aux path way) → Along m P way × Steps (cut_of m way) path
  along_steps [] way a = (a, end (along_last a))
  along_steps (p ∷ path) way a = let (b, f) = along_steps path (p ∷ way) a in one b f
    where
      one : Along m P (p ∷ way) → Steps (cut_of m (p ∷ way)) path → Along m P way × Steps (cut_of m way) (p ∷ path)
      one (step h r x b) f = (b, go_on (along_last b) h r f)

  steps_along : (path : List ℕ) {way : List ℕ} → Along m P way → Steps (cut_of m way) path → Along m P (reverse_aux path way)
  steps_along [] a s = a
  steps_along (p ∷ path) a (go_on x h r s) = steps_along path (step h r (steps_first s) a) s

  pub steps_is : (path : List ℕ) → Steps (zeros (length m)) path ↔ Along m P (reverse path)
  steps_is path = (λ s. steps_along path (start (steps_first s)) s, λ a. (along_steps path [] a).1)

-- "T steps"
pub path_length : (L : Lattice) (way : List ℕ) → IsPath L way → length way ≡ total L.counts
path_length L way (a, e) = sym (along_total a) ∙ ap total e
