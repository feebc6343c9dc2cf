-- The cut as a value of the code: document 01, "A cut is a value of eight counts with the number of stations; counts beyond n are 0".
-- In order: full cuts and the cuts of their recording, as tests and in the law's words; the two steps; the box with its ceiling; the rank; T.
-- A recording is handed in as its full cut m: its n and the events of each station.
use Rattle.std.specs.Prelude.{◌≡◌, Bool, true, false, ◌&&◌, cond, List, ℕ, ◌+◌, ◌-◌, ◌≤◌, ◌<◌, min, leb, ltb, eqb, take, set, Option, Some, None}
use Rattle.cuts.specs.Below.{every}
use Rattle.cuts.specs.Cut.{at, total}
use Rattle.cuts.specs.Rank.{rank, box}
use Rattle.cut.specs.declared.Cut.{Cut}

-- the counts of the n stations: the cut of the mathematics
abbrev pub counts_of : Cut → List ℕ
counts_of c = take c.n c.counts

-- the events of the station at place p, none beyond n
unfoldable pub most_at : Cut → ℕ → ℕ
most_at m p = cond (ltb p m.n) (at m.counts p) 0

-- no count of c is above m's, and none beyond m's n is other than 0
unfoldable pub under : Cut → Cut → Bool
under m c = every 8 (λ p. leb (at c.counts p) (most_at m p))

-- m is the full cut of some recording: "n from 1 to 8", "counts beyond n are 0"
unfoldable pub is_full : Cut → Bool
is_full m = leb 1 m.n && leb m.n 8 && under m m

-- c is a cut of the recording: not "another n, a count above its m, a count beyond n that is not 0"
unfoldable pub is_cut : Cut → Cut → Bool
is_cut m c = is_full m && eqb c.n m.n && under m c

-- is_full in the law's words
pub record FullCut (m : Cut) : Type 0 where
  -- "n from 1 to 8"
  pub some_station : 1 ≤ m.n
  pub most_eight : m.n ≤ 8
  -- "counts beyond n are 0"
  pub beyond : (p : ℕ) → p < 8 → m.n ≤ p → at m.counts p ≡ 0

-- is_cut in the law's words
pub record CutOf (m c : Cut) : Type 0 where
  pub full : FullCut m
  -- not "another n"
  pub same_n : c.n ≡ m.n
  -- no "count above its m"
  pub no_above : (p : ℕ) → p < m.n → at c.counts p ≤ at m.counts p
  -- no "count beyond n that is not 0"
  pub beyond : (p : ℕ) → p < 8 → m.n ≤ p → at c.counts p ≡ 0

-- "the station is .. 1 to n"
unfoldable pub is_station : Cut → ℕ → Bool
is_station m s = leb 1 s && leb s m.n

-- c with the count x at place p
abbrev pub with_count : Cut → ℕ → ℕ → Cut
with_count c p x = record { counts = set c.counts p x; n = c.n }

-- "a new cut or .. none"
unfoldable pub moved : Bool → Cut → Option Cut
moved true new = Some new
moved false new = None

-- one event of station s forward: the named count would not leave 0 to m
unfoldable pub forward_of : Cut → Cut → ℕ → Option Cut
forward_of m c s = moved (is_cut m c && is_station m s && ltb (at c.counts (s - 1)) (at m.counts (s - 1))) (with_count c (s - 1) (at c.counts (s - 1) + 1))

-- one event of station s back
unfoldable pub back_of : Cut → Cut → ℕ → Option Cut
back_of m c s = moved (is_cut m c && is_station m s && ltb 0 (at c.counts (s - 1))) (with_count c (s - 1) (at c.counts (s - 1) - 1))

-- the box, 65,537 once it is above 65,536; 0, the number of its cuts, where m is the full cut of no recording
unfoldable pub box_of : Cut → ℕ
box_of m = cond (is_full m) (min (box (counts_of m)) 65537) 0

-- the rank of a cut of the recording, where the box is within its limit
unfoldable pub rank_of : Cut → Cut → Option ℕ
rank_of m c = cond (is_cut m c && leb (box (counts_of m)) 65536) (Some (rank (counts_of m) (counts_of c))) None

-- T, the events of the recording; 0 where m is the full cut of no recording
unfoldable pub events_of : Cut → ℕ
events_of m = cond (is_full m) (total (counts_of m)) 0
