-- The marks of a box from flat tables, and what is read off them. A task hands in a recording as its full cut m. For the station at place p and its event e
-- (0 to m_p) row `bases p + e` of the tables has eight numbers of `needs`, how many events of each station have to be there, and one of `weights`, what
-- the station adds to the sum that decides the condition.
-- In order: the lattice that the tables describe, and its marks; when a box can be settled; the witness; the path; what is settled.
use Rattle.std.specs.Prelude.{◌≡◌, Bool, true, false, ◌&&◌, not, cond, List, ◌++◌, map, reverse, ℕ, suc, ◌+◌, ◌*◌, length, drop, leb, ltb, eqb, Option, Some, None}
use Rattle.std.proofs.Math.Option as math
use Rattle.cuts.specs.Below.{every, first, sum_to, tab}
use Rattle.cuts.specs.Cut.{at, total}
use Rattle.cuts.specs.Rank.{box, rank, unrank}
use Rattle.cuts.specs.Verdict.{Lattice}
use Rattle.cuts.specs.Computed.{table, walk}
use Rattle.cut.specs.Value.{is_full, counts_of}
use Rattle.cut.specs.declared.Cut.{Cut}
use Rattle.marks.specs.declared.Task.{Task}
use Rattle.marks.specs.declared.Verdicts.{Verdicts}

-- the n numbers of `needs` from place `from` on are no more than the counts of c
unfoldable pub row_met : ℕ → List ℕ → ℕ → List ℕ → Bool
row_met n needs from c = every n (λ q. leb (at needs (from + q)) (at c q))

-- a sum lies from least to most
unfoldable pub between : ℕ → ℕ → ℕ → Bool
between least most sum = leb least sum && leb sum most

-- tables of so many cells and rows have row r: eight cells and one number
unfoldable pub row_there : ℕ → ℕ → ℕ → Bool
row_there cells rows r = ltb r rows && leb (8 * r + 8) cells

module _ (m : Cut) (bases : List ℕ) (least most : ℕ) (needs weights : List ℕ) where
  -- every station's event needs no more than the cut has
  unfoldable pub flat_consistent : List ℕ → Bool
  flat_consistent c = every m.n (λ p. row_met m.n needs (8 * (at bases p + at c p)) c)

  -- the sum of what the stations add lies from least to most
  unfoldable pub flat_holds : List ℕ → Bool
  flat_holds c = between least most (sum_to m.n (λ p. at weights (at bases p + at c p)))

  abbrev pub flat : Lattice
  flat = record { counts = counts_of m; consistent = flat_consistent; holds = flat_holds }

  -- the marks of the box: the table of the lattice, and the rest of the room as before
  unfoldable pub filled : List ℕ → List ℕ
  filled room = table flat ++ drop (box (counts_of m)) room

-- m is a full cut, its box is within 65,536 and within the room of the marks, the room of the path has a step for each event, and tables of so many cells and
-- rows have every row
unfoldable pub settleable : Cut → List ℕ → ℕ → ℕ → ℕ → ℕ → Bool
settleable m bases cells rows marks path =
    is_full m && leb (box (counts_of m)) 65536 && leb (box (counts_of m)) marks && leb (total (counts_of m)) path
    && every m.n (λ p. row_there cells rows (at bases p + at m.counts p))

-- a lattice of which only the counts matter
abbrev pub plain : List ℕ → Lattice
plain k = record { counts = k; consistent = λ c. true; holds = λ c. false }

-- n counts as a cut of eight
abbrev pub cut_of_counts : ℕ → List ℕ → Cut
cut_of_counts n c = record { counts = tab 8 (at c); n = n }

-- the witness as a cut of n stations, if there is one
abbrev pub witness_in : ℕ → math.Option (List ℕ) → Option Cut
witness_in n math.none = None
witness_in n (math.some c) = Some (cut_of_counts n c)

-- the verdicts by the witness, if there is one, and Def
abbrev pub settled_of : ℕ → math.Option (List ℕ) → Bool → Verdicts
settled_of n w def = record { witness = witness_in n w; def = def }

-- the cut of the first rank of the box that is marked 1
unfoldable pub witness_of : Cut → List ℕ → math.Option (List ℕ)
witness_of m marks =
    let b = box (counts_of m) in
    let r = first (λ r. eqb (at marks r) 1) b in
    cond (ltb r b) (math.some (unrank (counts_of m) r)) math.none

-- the full cut is marked 3
unfoldable pub avoided : Cut → List ℕ → Bool
avoided m marks = eqb (at marks (rank (counts_of m) (counts_of m))) 3

-- the path room afterwards: where the full cut is marked 3 the walk back from it, as station numbers, first step first, and the rest as before
unfoldable pub walked : Cut → List ℕ → List ℕ → List ℕ
walked m marks room =
    let k = counts_of m in
    cond (avoided m marks) (map suc (reverse (walk (plain k) (λ c. at marks (rank k c)) (total k) k)) ++ drop (total k) room) room

module _ (task : Task) where
  -- the box of the task can be settled in rooms of so many bytes
  abbrev pub can_settle : ℕ → ℕ → Bool
  can_settle = settleable task.full task.bases (length task.needs.now) (length task.weights.now)

  module _ (marks path : List ℕ) where
    abbrev ready : Bool
    ready = can_settle (length marks) (length path)

    abbrev after : List ℕ
    after = filled task.full task.bases task.least task.most task.needs.now task.weights.now marks

    -- the reply r and the rooms afterwards: all is read off the marks; or nothing is done, and the rooms are as before
    pub record Settles (r : Option Verdicts) (marks' path' : List ℕ) : Type 0 where
      pub reply : r ≡ cond ready (Some (settled_of task.full.n (witness_of task.full after) (not (avoided task.full after)))) None
      pub marks_after : marks' ≡ cond ready after marks
      pub path_after : path' ≡ cond ready (walked task.full after path) path
