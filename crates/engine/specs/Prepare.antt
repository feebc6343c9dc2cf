-- The tables that the marks are filled from, made of a recording laid out flat and a condition. Row `rows_to p + e` is that of event e of the station at
-- place p; event 0 is the start. Nothing here has to be believed: `PrepareRight` proves that the lattice of the tables is that of the job.
use Rattle.std.specs.Prelude.{◌≡◌, cond, List, [], ◌++◌, ℕ, zero, suc, ◌+◌, ◌-◌, ◌*◌, ◌%◌, ◌≤◌, length, eqb, ltb}
use Rattle.cuts.specs.Below.{sum_to, tab}
use Rattle.cuts.specs.Cut.{at}
use Rattle.cut.specs.declared.Cut.{Cut}
use Rattle.condition.specs.Weigh.{weigh_of, within}
use Rattle.condition.specs.declared.Condition.{Condition}
use Rattle.condition.specs.declared.Limits.{Limits}
use Rattle.marks.specs.Flat.{between}

-- stretches one behind the other: of `size p` numbers, the j-th of stretch p being f p j
unfoldable pub stretches : (ℕ → ℕ) → (ℕ → ℕ → ℕ) → ℕ → List ℕ
stretches size f zero = []
stretches size f (suc p) = stretches size f p ++ tab (size p) (f p)

-- number j of the needs of the station at place p, eight to a row, where its records begin at `first`: what its events need of the other stations; its own
-- place and the start need nothing
unfoldable pub station_need : List ℕ → ℕ → ℕ → ℕ → ℕ
station_need stamps p first j = cond (ltb j 8) 0 (cond (eqb (j % 8) p) 0 (at stamps (8 * first + (j - 8))))

-- what the station at place p, whose excess start level is `start`, adds after its event e
unfoldable pub station_weight : Condition → ℕ → List ℕ → ℕ → ℕ → ℕ → ℕ
station_weight c start levels p first e = weigh_of c p (cond (ltb e 1) start (at levels (first + (e - 1))))

-- a full cut of at most eight stations with at most 511 events each
pub record Short (m : Cut) : Type 0 where
  pub eight : length m.counts ≡ 8
  pub n_most : m.n ≤ 8
  pub few : (p : ℕ) → at m.counts p ≤ 511

module _ (m : List ℕ) where
  -- the rows, and the records, of the stations before place p
  unfoldable pub rows_to : ℕ → ℕ
  rows_to p = sum_to p (λ q. suc (at m q))

  unfoldable pub first_of : ℕ → ℕ
  first_of p = sum_to p (at m)

  -- the needs, and what is added, of the first p stations
  unfoldable pub needs_to : List ℕ → ℕ → List ℕ
  needs_to stamps p = stretches (λ q. 8 * suc (at m q)) (λ q. station_need stamps q (first_of q)) p

  unfoldable pub weights_to : Condition → List ℕ → List ℕ → ℕ → List ℕ
  weights_to c starts levels p = stretches (λ q. 1 * suc (at m q)) (λ q. station_weight c (at starts q) levels q (first_of q)) p

-- the limits r of a sum itself are those of a condition, l, which are 32,768 above
pub record Shifts (l r : Limits) : Type 0 where
  pub decides : (s : ℕ) → between r.least r.most s ≡ within l s
