-- The marks, the witness and the shown path, computed: in rank order, each mark from those one step back. Nothing here has to be believed:
-- `MarksRight` and `VerdictRight` prove that it meets what `Verdict` asks.
use Rattle.std.specs.Prelude.{Bool, true, false, ◌&&◌, ◌||◌, cond, List, [], ◌∷◌, ◌++◌, reverse, ℕ, zero, suc, length, get_or, ltb, eqb}
use Rattle.std.proofs.Math.Option.{Option, none, some}
use Rattle.cuts.specs.Below.{first, any}
use Rattle.cuts.specs.Cut.{at, back, total}
use Rattle.cuts.specs.Rank.{rank, unrank, box}
use Rattle.cuts.specs.Verdict.{Lattice}

-- Marks of any kind: f c g is the mark of the cut c, where g p is the mark of the cut one event of p back (0 where there is none).
module _ (f : List ℕ → (ℕ → ℕ) → ℕ) where
  -- the mark of a cut with k events
  unfoldable pub by_back : ℕ → List ℕ → ℕ
  by_back zero c = f c (λ p. 0)
  by_back (suc k) c = f c (λ p. cond (ltb 0 (at c p)) (by_back k (back p c)) 0)

  abbrev pub value : List ℕ → ℕ
  value c = by_back (total c) c

  -- the marks of the first r ranks, in rank order
  unfoldable pub tabled : List ℕ → ℕ → List ℕ
  tabled m zero = []
  tabled m (suc r) =
      let l = tabled m r in
      let c = unrank m r in
      l ++ (f c (λ p. cond (ltb 0 (at c p)) (get_or l (rank m (back p c)) 0) 0) ∷ [])

-- a mark's number, of a cut that is: consistent? satisfying? met by a step from a 3, or the start?
abbrev pub number : Bool → Bool → Bool → ℕ
number false s w = 0
number true true w = 1
number true false true = 3
number true false false = 2

-- from c one can step back at p, to a cut whose mark is 3, where g p is the mark one step back at p
abbrev pub leads : List ℕ → (ℕ → ℕ) → ℕ → Bool
leads c g p = ltb 0 (at c p) && eqb (g p) 3

-- c is the start, or a step back of one of the n stations leads to a 3
unfoldable pub met : ℕ → List ℕ → (ℕ → ℕ) → Bool
met n c g = eqb (total c) 0 || any (leads c g) n

module _ (L : Lattice) where
  -- the mark of a cut, from those one step back
  unfoldable pub mark_of : List ℕ → (ℕ → ℕ) → ℕ
  mark_of c g = number (L.consistent c) (L.holds c) (met (length L.counts) c g)

  -- the marks of all ranks, in rank order
  abbrev pub table : List ℕ
  table = tabled mark_of L.counts (box L.counts)

  -- the mark that the table has for a cut
  abbrev pub looked : List ℕ → ℕ
  looked c = get_or table (rank L.counts c) 0

  abbrev pub is_one : ℕ → Bool
  is_one r = eqb (get_or table r 0) 1

  -- k steps back from c, each at the lowest station whose step back leads to a 3
  unfoldable pub walk : (List ℕ → ℕ) → ℕ → List ℕ → List ℕ
  walk mark zero c = []
  walk mark (suc k) c = let p = first (leads c (λ p. mark (back p c))) (length L.counts) in p ∷ walk mark k (back p c)

  -- the cut of the first rank that is marked 1
  unfoldable pub poss_of : Option (List ℕ)
  poss_of = let r = first is_one (box L.counts) in cond (ltb r (box L.counts)) (some (unrank L.counts r)) none

  -- the walk back from the full cut, if that is marked 3
  unfoldable pub def_of : Option (List ℕ)
  def_of = cond (eqb (looked L.counts) 3) (some (reverse (walk looked (total L.counts) L.counts))) none
