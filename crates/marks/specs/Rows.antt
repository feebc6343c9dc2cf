-- What the code works with on its way through a box, row by row of station 1: the cuts of a row differ in their first count only, and follow in rank.
-- Nothing here has to be believed: the contracts of the entries cite `Flat` alone.
-- In order: cuts and strides; a step back; the other stations of a row; the rows of the tables; the lattice of a task, its marks so far, and when it can be
-- filled; a row and its marks; what is read off them; the way back; what the searches find.
use Rattle.std.specs.Prelude.{◌≡◌, Bool, false, not, ◌&&◌, ◌||◌, cond, List, [], ◌∷◌, ◌++◌, map, reverse, ℕ, zero, suc, ◌+◌, ◌-◌, ◌*◌, ◌≤◌, ◌<◌, max, length, take, drop, set, replicate, ltb, eqb, Option, Some, None}
use Rattle.cuts.specs.Below.{every, any, sum_to, tab}
use Rattle.cuts.specs.Cut.{at}
use Rattle.cuts.specs.Rank.{box, rank, unrank, weight}
use Rattle.cuts.specs.Verdict.{Lattice}
use Rattle.cuts.specs.Computed.{number, tabled, mark_of, walk}
use Rattle.cut.specs.Value.{counts_of, FullCut}
use Rattle.cut.specs.declared.Cut.{Cut}
use Rattle.marks.specs.declared.Task.{Task}
use Rattle.marks.specs.declared.Verdicts.{Verdicts}
use Rattle.marks.specs.declared.frame.Others.{Others}
use Rattle.marks.specs.Flat.{row_met, between, flat, plain, settled_of, witness_of, avoided}

-- the eight counts of the cut with rank r
unfoldable pub cut_at : Cut → ℕ → List ℕ
cut_at m r = tab 8 (at (unrank (counts_of m) r))

-- the eight counts of the last cut of row j
unfoldable pub top_at : Cut → ℕ → List ℕ
top_at m j = tab 8 (at (at m.counts 0 ∷ unrank (drop 1 (counts_of m)) j))

-- what one event of each station adds to a rank, 0 beyond n
unfoldable pub strides_of : Cut → List ℕ
strides_of m = tab m.n (weight m.counts) ++ drop m.n (replicate 8 0)

-- from the cut c of rank r a step back of the station at place p leads to a 3
unfoldable pub leads_back : List ℕ → List ℕ → List ℕ → ℕ → ℕ → Bool
leads_back marks c strides r p = ltb 0 (at c p) && eqb (at marks (r - at strides p)) 3

-- no step back from the cut c of rank r leaves the box
abbrev pub StepsBack : ℕ → List ℕ → List ℕ → ℕ → Type 0
StepsBack n c strides r = (p : ℕ) → p < n → 0 < at c p → (1 ≤ at strides p) × (at strides p ≤ r)

-- the largest of f's first n numbers
unfoldable pub most_to : ℕ → (ℕ → ℕ) → ℕ
most_to zero f = 0
most_to (suc n) f = max (most_to n f) (f n)

-- of the cut c: the rows of the stations but the first are met
unfoldable pub others_met : ℕ → List ℕ → List ℕ → List ℕ → Bool
others_met n bases needs c = every (n - 1) (λ i. row_met n needs (8 * (at bases (i + 1) + at c (i + 1))) c)

-- how many events of station 1 those rows need
unfoldable pub others_need : ℕ → List ℕ → List ℕ → List ℕ → ℕ
others_need n bases needs c = most_to (n - 1) (λ i. at needs (8 * (at bases (i + 1) + at c (i + 1))))

-- what the stations but the first add
unfoldable pub others_add : ℕ → List ℕ → List ℕ → List ℕ → ℕ
others_add n bases weights c = sum_to (n - 1) (λ i. at weights (at bases (i + 1) + at c (i + 1)))

-- what they ask and add; nothing where they are not met
unfoldable pub others_of : Task → List ℕ → Option Others
others_of task c =
    cond (others_met task.full.n task.bases task.needs.now c)
    (Some (record { low = others_need task.full.n task.bases task.needs.now c; sum = others_add task.full.n task.bases task.weights.now c }))
    None

-- .. in numbers: where they are not met they ask for more events than a station can have
abbrev pub asked : Option Others → Others
asked (Some others) = others
asked None = record { low = 65536; sum = 0 }

-- eight bases and eight counts, of n stations, and the tables have the rows of these at the cut c
pub record RowsThere (n : ℕ) (bases needs weights c : List ℕ) : Type 0 where
  pub some : 1 ≤ n
  pub most : n ≤ 8
  pub starts : length bases ≡ 8
  pub eight : length c ≡ 8
  pub needed : (p : ℕ) → p < n → 8 * (at bases p + at c p) + 8 ≤ length needs
  pub weighed : (p : ℕ) → p < n → at bases p + at c p < length weights

-- the lattice that the tables describe
abbrev pub lattice_of : Task → Lattice
lattice_of task = flat task.full task.bases task.least task.most task.needs.now task.weights.now

-- the marks of the first r ranks
unfoldable pub marks_to : Task → ℕ → List ℕ
marks_to task r = tabled (mark_of (lattice_of task)) (counts_of task.full) r

-- the box can be filled
pub record Ready (task : Task) : Type 0 where
  pub full : FullCut task.full
  pub limit : box (counts_of task.full) ≤ 65536
  pub rows : RowsThere task.full.n task.bases task.needs.now task.weights.now task.full.counts

-- top is the last cut of a row whose first cut has rank first
pub record RowAt (m : Cut) (top : List ℕ) (first : ℕ) : Type 0 where
  pub eight : length top ≡ 8
  pub last : at top 0 ≡ at m.counts 0
  pub cuts : (x : ℕ) → x ≤ at m.counts 0 → set top 0 x ≡ cut_at m (first + x)
  pub within : first + at m.counts 0 < box (counts_of m)

-- the mark of the cut c, whose first count is x, of rank r, from the marks of the ranks below, where the other stations are met and add sum
unfoldable pub cut_mark : Task → ℕ → List ℕ → List ℕ → ℕ → ℕ → ℕ
cut_mark task sum marks c x r =
    number (row_met task.full.n task.needs.now (8 * (at task.bases 0 + x)) c)
    (between task.least task.most (sum + at task.weights.now (at task.bases 0 + x)))
    (eqb r 0 || any (leads_back marks c (strides_of task.full) r) task.full.n)

-- the marks of the ranks below first, and of the first x cuts of the row
unfoldable pub row_marks : Task → Others → List ℕ → ℕ → List ℕ → ℕ → List ℕ
row_marks task others top first below zero = below
row_marks task others top first below (suc x) =
    let l = row_marks task others top first below x in
    l ++ (cond (ltb x others.low) 0 (cut_mark task others.sum l (set top 0 x) x (first + x)) ∷ [])

-- the marks after the row from rank first on, whose last cut is top
abbrev pub row_filled : Task → List ℕ → ℕ → List ℕ → List ℕ
row_filled task top first marks =
    let width = at task.full.counts 0 + 1 in
    row_marks task (asked (others_of task top)) top first (take first marks) width ++ drop (first + width) marks

-- the verdicts off the marks of the box of m
abbrev pub read_off : Cut → List ℕ → Verdicts
read_off m marks = settled_of m.n (witness_of m marks) (not (avoided m marks))

-- k station numbers back from the cut c, first step first
unfoldable pub way_to : List ℕ → List ℕ → ℕ → List ℕ → List ℕ
way_to full marks k c = map suc (reverse (walk (plain full) (λ d. at marks (rank full d)) k c))

-- the place p below n, if it is
unfoldable pub place_of : ℕ → ℕ → Option ℕ
place_of n p = cond (ltb p n) (Some p) None

-- so many marks from rank first on are zeros
abbrev pub BlankFrom : List ℕ → ℕ → ℕ → Type 0
BlankFrom marks first width = (x : ℕ) → x < width → at marks (first + x) ≡ 0

-- none of the marks of the first r ranks is a 1
abbrev pub NoneTo : List ℕ → ℕ → Type 0
NoneTo marks r = (q : ℕ) → q < r → eqb (at marks q) 1 ≡ false
