-- The lattice that the tables describe is the job's, on every cut of the recording: a cell of the needs is the stamp's count, or 0 at the own place and for
-- the start, where there is nothing to compare; and the sum of what the stations add decides the condition.
-- In order: cells of the needs; consistency; what the stations add; the condition. Assumes nothing.
use mathlib.Core.Path.{◌≡◌, refl, sym, ap, ap₂, ◌∙◌}
use mathlib.Core.Bool.{Bool, true, false, ◌||◌, cond, false≢true}
use mathlib.Core.List.{List, ◌++◌}
use Prim.Native.Nat.{ℕ, zero, suc, ◌+◌, ◌-◌, ◌*◌, ◌≤◌, ◌<◌}
use native.Mathlib.Nat.{lt_of_not-le}
use native.Mathlib.Decide.{ℕ_discrete, dec_lt}
use native.Mathlib.Omega.{arith}
use lib.IntN.{ℤ}
use lib.ListN.{length, get_or-append}
use lib.Dec.{leb, ltb, eqb}
use borrow.Author.Tests.{le-leb, le-ltb, eq-eqb, ne_eqb}
use Rattle.cuts.specs.Below.{sum_to, tab}
use Rattle.cuts.specs.Cut.{at, Within}
use Rattle.cuts.specs.Trace.{Messages, Stamps, Levels, agrees, at_cut}
use Rattle.cut.specs.declared.Cut.{Cut}
use Rattle.cuts.proofs.BelowLaws.{every_same, sum_to-scale, sum_to-same, get_d-tab}
use Rattle.cuts.proofs.CutLaws.{within_at}
use Rattle.levels.specs.Level.{level_of}
use Rattle.condition.specs.Condition.{window_at, holds_of}
use Rattle.condition.specs.Weigh.{weigh_of, limits_of}
use Rattle.condition.specs.declared.Condition.{Condition}
use Rattle.condition.specs.declared.Limits.{Limits}
use Rattle.condition.proofs.ConditionRight.{unasked_level}
use Rattle.condition.proofs.WeighRight.{holds_weigh_to}
use Rattle.marks.specs.Flat.{flat_consistent, flat_holds, row_met, between}
use Rattle.engine.specs.Prepare.{station_need, station_weight, stretches, rows_to, first_of, needs_to, weights_to, Shifts}
use Rattle.engine.proofs.PrepareLaws.{need_start, need_own, need_other, stretches_at, length_stretches}
use Rattle.recording.proofs.SumLaws.{sum_to-part}

-- number j of stretch p, in a table that begins with n stretches
front_at : (size : ℕ → ℕ) (f : ℕ → ℕ → ℕ) (n p j : ℕ) (rest : List ℕ) → p < n → j < size p → at (stretches size f n ++ rest) (sum_to p size + j) ≡ f p j
front_at size f n p j rest h k =
    get_or-append (stretches size f n) rest 0 (sum_to p size + j) (omega (arith, length_stretches size f n, sum_to-part size n p (suc j) h k)) ∙ stretches_at size f n p j h k

module _ (m : Cut) (stamps bases needs rest : List ℕ) (n_most : m.n ≤ 8) (bases-are : bases ≡ tab 8 (rows_to m.counts)) (needs-are : needs ≡ needs_to m.counts stamps m.n ++ rest) where
  need_at : (p e q : ℕ) → p < m.n → e ≤ at m.counts p → q < 8 → at needs (8 * (at bases p + e) + q) ≡ station_need stamps p (first_of m.counts p) (8 * e + q)
  unfolding needs_to rows_to
  need_at p e q h k l =
      ap₂ at needs-are place ∙ front_at (λ i. 8 * suc (at m.counts i)) (λ i. station_need stamps i (first_of m.counts i)) m.n p (8 * e + q) rest h (omega arith)
    where
      base : at bases p ≡ sum_to p (λ i. suc (at m.counts i))
      base = ap (λ (b : List ℕ). at b p) bases-are ∙ get_d-tab 8 _ 0 p (omega arith)

      place : 8 * (at bases p + e) + q ≡ sum_to p (λ i. 8 * suc (at m.counts i)) + (8 * e + q)
      place = omega (arith, base, sum_to-scale p 8 (λ i. suc (at m.counts i)))

  module _ (T : Messages) (S : Stamps) (counts_are : (p : ℕ) → p < m.n → at T.counts p ≡ at m.counts p) (n_is : length T.counts ≡ m.n)
      (start : (p q : ℕ) → S p 0 q ≡ 0)
      (stamps_are : (p e q : ℕ) → p < m.n → e < at m.counts p → q < m.n → at stamps (8 * (first_of m.counts p + e) + q) ≡ S p (suc e) q) where
    -- what the test of one pair comes to
    pair_same : (p e q x : ℕ) → p < m.n → e ≤ at m.counts p → q < m.n → leb (station_need stamps p (first_of m.counts p) (8 * e + q)) x ≡ (eqb p q || leb (S p e q) x)
    pair_same p zero q x h k l =
        let z : 8 * 0 + q ≡ q = omega arith in
        rw (z, ← need_start stamps p (first_of m.counts p) q (omega arith), start p q, le-leb 0 x (omega arith)) (sym (or_yes (eqb p q)))
      where
        or_yes : (b : Bool) → (b || true) ≡ true
        or_yes true = refl
        or_yes false = refl
    pair_same p (suc e) q x h k l = go (ℕ_discrete p q)
      where
        go : Dec (p ≡ q) → leb (station_need stamps p (first_of m.counts p) (8 * suc e + q)) x ≡ (eqb p q || leb (S p (suc e) q) x)
        go (yes y) = rw (← need_own stamps p (first_of m.counts p) (8 * suc e + q) (omega arith) (omega arith), eq-eqb p q y) (le-leb 0 x (omega arith))
        go (no y) =
            let i : 8 * first_of m.counts p + (8 * suc e + q - 8) ≡ 8 * (first_of m.counts p + e) + q = omega arith in
            rw (← need_other stamps p (first_of m.counts p) (8 * suc e + q) (omega arith) (λ z. y (omega arith)), i, stamps_are p e q h (omega arith) l, ne_eqb p q y) refl

    -- consistency by the tables is consistency by the stamps
    pub consistent_same : (least most : ℕ) (weights c : List ℕ) → Within T.counts c → flat_consistent m bases least most needs weights c ≡ agrees T S c
    unfolding flat_consistent row_met agrees
    consistent_same least most weights c w =
        rw n_is (every_same m.n _ _ (λ p h. every_same m.n _ _ (λ q l. ap (λ (x : ℕ). leb x (at c q)) (need_at p (at c p) q h (fits p h) (omega arith)) ∙ pair_same p (at c p) q (at c q) h (fits p h) l)))
      where
        fits : (p : ℕ) → p < m.n → at c p ≤ at m.counts p
        fits p h = omega (arith, within_at T.counts c w p, counts_are p h)

module _ (m : Cut) (C : Condition) (starts levels bases weights rest : List ℕ) (n_most : m.n ≤ 8) (bases-are : bases ≡ tab 8 (rows_to m.counts))
    (weights-are : weights ≡ weights_to m.counts C starts levels m.n ++ rest) where
  -- the excess level of the station at place p after its event e
  level_in : ℕ → ℕ → ℕ
  level_in p e = cond (ltb e 1) (at starts p) (at levels (first_of m.counts p + (e - 1)))

  weight_at : (p e : ℕ) → p < m.n → e ≤ at m.counts p → at weights (at bases p + e) ≡ weigh_of C p (level_in p e)
  unfolding weights_to rows_to station_weight level_in
  weight_at p e h k =
      ap₂ at weights-are place ∙ front_at (λ i. 1 * suc (at m.counts i)) (λ i. station_weight C (at starts i) levels i (first_of m.counts i)) m.n p e rest h (omega arith)
    where
      base : at bases p ≡ sum_to p (λ i. suc (at m.counts i))
      base = ap (λ (b : List ℕ). at b p) bases-are ∙ get_d-tab 8 _ 0 p (omega arith)

      place : at bases p + e ≡ sum_to p (λ i. 1 * suc (at m.counts i)) + e
      place = omega (arith, base, sum_to-scale p 1 (λ i. suc (at m.counts i)))

  module _ (W : Levels ℤ) (k : List ℕ) (fits : (p : ℕ) → p < m.n → at k p ≤ at m.counts p) (starts-are : (p : ℕ) → p < m.n → level_of (at starts p) ≡ W p 0)
      (levels_are : (p e : ℕ) → p < m.n → e < at m.counts p → level_of (at levels (first_of m.counts p + e)) ≡ W p (suc e))
      (unasked : (p : ℕ) → m.n ≤ p → p < 8 → (window_at C p).asked ≡ false) where
    level_same : (p e : ℕ) → p < m.n → e ≤ at m.counts p → level_of (level_in p e) ≡ W p e
    unfolding level_in
    level_same p zero h l = starts-are p h
    level_same p (suc e) h l =
        let i : suc e - 1 ≡ e = omega arith in
        rw (le-ltb (suc e) 1 (omega arith), i) (levels_are p e h l)

    -- the condition by the tables is the condition of the levels
    pub holds_same : (r : Limits) (needs : List ℕ) → Shifts (limits_of C) r → flat_holds m bases r.least r.most needs weights k ≡ at_cut W (holds_of C) k
    unfolding flat_holds
    holds_same r needs d =
        ap (between r.least r.most) (sum_to-same m.n _ (λ p. weigh_of C p (level_in p (at k p))) (λ p h. weight_at p (at k p) h (fits p h)))
        ∙ d.decides _
        ∙ sym (holds_weigh_to C (λ p. level_in p (at k p)) m.n n_most unasked)
        ∙ unasked_level C (λ p. level_of (level_in p (at k p))) (λ p. W p (at k p)) asked_same
      where
        asked_same : (p : ℕ) → p < 8 → (window_at C p).asked ≡ true → level_of (level_in p (at k p)) ≡ W p (at k p)
        asked_same p h a = go (dec_lt p m.n)
          where
            go : Dec (p < m.n) → level_of (level_in p (at k p)) ≡ W p (at k p)
            go (yes l) = level_same p (at k p) l (fits p l)
            go (no l) = absurd (false≢true (sym (unasked p (omega (arith, lt_of_not-le l)) h) ∙ a))
