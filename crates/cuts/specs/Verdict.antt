-- The marks and the verdicts: document 01, "Path", "Verdicts" and the four sentences on the marks. Ways are written last step first.
-- In order: what they are about; the marks; paths; Poss and Def; witness and shown path; the two answers.
use Rattle.std.specs.Prelude.{◌≡◌, ◌⊎◌, ◌↔◌, List, [], ◌∷◌, reverse, Bool, true, false, ℕ, ◌≤◌, ◌<◌}
use Rattle.std.proofs.Math.Option.{Option, none, some}
use Rattle.cuts.specs.Cut.{Within}
use Rattle.cuts.specs.Rank.{rank}
use Rattle.cuts.specs.Way.{cut_of, Along, Moment}

-- the events of each station, and two tests of a cut: is it consistent, does it satisfy the condition
pub record Lattice : Type 0 where
  pub counts : List ℕ
  pub consistent : List ℕ → Bool
  pub holds : List ℕ → Bool

-- dictionary order: xs is ys or comes before it
abbrev pub Dict : List ℕ → List ℕ → Type 0
Dict [] ys = Unit {0}
Dict (x ∷ xs) [] = ⊥
Dict (x ∷ xs) (y ∷ ys) = (x < y) ⊎ ((x ≡ y) × Dict xs ys)

module _ (L : Lattice) where
  abbrev pub Consistent : List ℕ → Type 0
  Consistent c = L.consistent c ≡ true

  abbrev pub Holds : List ℕ → Type 0
  Holds c = L.holds c ≡ true

  -- consistent and not satisfying
  abbrev pub Quiet : List ℕ → Type 0
  Quiet c = Consistent c × (L.holds c ≡ false)

  -- "reached from the start by single steps through consistent cuts none of which satisfies, itself included"
  abbrev pub Reached : List ℕ → Type 0
  Reached c = (way : List ℕ) × Along L.counts Quiet way × (cut_of L.counts way ≡ c)

  -- what the mark k says of the cut c
  pub record Says (c : List ℕ) (k : ℕ) : Type 0 where
    -- "0 inconsistent"
    pub is_0 : (k ≡ 0) ↔ (L.consistent c ≡ false)
    -- "1 consistent and satisfying"
    pub is_1 : (k ≡ 1) ↔ (Consistent c × Holds c)
    -- "2 consistent, not satisfying and on no avoiding way from the start"
    pub is_2 : (k ≡ 2) ↔ (Quiet c × ¬ Reached c)
    -- "3 reached from the start .."
    pub is_3 : (k ≡ 3) ↔ Reached c

  -- "T steps of one event each from the all-zero cut to the full cut, through consistent cuts only"
  abbrev pub IsPath : List ℕ → Type 0
  IsPath way = Along L.counts Consistent way × (cut_of L.counts way ≡ L.counts)

  -- it "meets a cut that satisfies, first and last cut included"
  abbrev pub Meets : List ℕ → Type 0
  Meets = Moment L.counts Holds

  -- "some consistent cut satisfies the condition"
  abbrev pub Poss : Type 0
  Poss = (c : List ℕ) × Within L.counts c × Consistent c × Holds c

  -- "every path meets a cut that satisfies"
  abbrev pub Def : Type 0
  Def = (way : List ℕ) → IsPath way → Meets way

  -- "the witness has the lowest rank"
  pub record Witness (c : List ℕ) : Type 0 where
    pub within : Within L.counts c
    pub consistent : Consistent c
    pub holds : Holds c
    pub lowest : (d : List ℕ) → Within L.counts d → Consistent d → Holds d → rank L.counts c ≤ rank L.counts d

  -- "that avoiding path whose station list, read from its end, comes first in dictionary order"
  pub record Shown (way : List ℕ) : Type 0 where
    pub path : IsPath way
    pub avoids : ¬ Meets way
    pub first : (other : List ℕ) → IsPath other → ¬ Meets other → Dict way other

  -- Poss is no, or yes with its witness
  abbrev pub PossIs : Option (List ℕ) → Type 0
  PossIs none = ¬ Poss
  PossIs (some c) = Witness c

  -- Def is yes, or no with the path shown, first step first
  abbrev pub DefIs : Option (List ℕ) → Type 0
  DefIs none = Def
  DefIs (some path) = Shown (reverse path)
