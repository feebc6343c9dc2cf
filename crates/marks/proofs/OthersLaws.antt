-- Laws of the search through the stations but the first: what is so after some of them, one station more, one whose row is not met, the last. Assumes nothing.
use mathlib.Core.Path.{◌≡◌, refl, sym, ◌∙◌}
use mathlib.Core.Bool.{Bool, true, false}
use Rattle.std.specs.Prelude.{Some, None}
use mathlib.Core.List.{List}
use Prim.Native.Nat.{ℕ, ◌+◌, ◌-◌, ◌*◌, ◌≤◌, ◌<◌, max}
use native.Mathlib.Nat.{le_antisymm}
use native.Mathlib.Omega.{arith}
use Rattle.cuts.specs.Below.{every, sum_to}
use Rattle.cuts.specs.Cut.{at}
use Rattle.cuts.proofs.BelowLaws.{every_false, every_more, sum_to-more}
use Rattle.marks.specs.declared.Task.{Task}
use Rattle.marks.specs.Flat.{row_met}
use Rattle.marks.specs.Rows.{most_to, others_met, others_need, others_add, others_of}
use Rattle.marks.proofs.SearchLaws.{most_to-more}

module _ (task : Task) (c : List ℕ) where
  abbrev n : ℕ
  n = task.full.n

  abbrev needs : List ℕ
  needs = task.needs.now

  abbrev weights : List ℕ
  weights = task.weights.now

  -- the row of the station at place p
  abbrev row : ℕ → ℕ
  row p = at task.bases p + at c p

  -- what is so of the first i stations after station 1
  pub record OthersTo (i low sum : ℕ) : Type 0 where
    pub met : every i (λ k. row_met n needs (8 * row (k + 1)) c) ≡ true
    pub need : low ≡ most_to i (λ k. at needs (8 * row (k + 1)))
    pub add : sum ≡ sum_to i (λ k. at weights (row (k + 1)))
    pub small : sum ≤ 65535 * i

  -- of none
  pub others_start : OthersTo 0 0 0
  unfolding every most_to sum_to
  others_start = record { met = refl; need = refl; add = refl; small = omega arith }

  others_next : (i low sum : ℕ) → OthersTo i low sum → row_met n needs (8 * row (i + 1)) c ≡ true → at weights (row (i + 1)) < 65536
      → OthersTo (i + 1) (max low (at needs (8 * row (i + 1)))) (sum + at weights (row (i + 1)))
  others_next i low sum t h l = record {
    met = every_more _ _ t.met h;
    need = rw (most_to-more, t.need) refl;
    add = rw (sum_to-more, t.add) refl;
    small = omega (arith, t.small);
  }

  module _ (p low sum : ℕ) (some : 1 ≤ p) where
    before : p - 1 + 1 ≡ p
    before = omega arith

    -- the station at place p: whether its row is met
    module _ (here : p < n) (t : Bool) (tested : t ≡ row_met n needs (8 * row p) c) where
      -- it is: the station too
      pub others_more : OthersTo (p - 1) low sum → t ≡ true → at weights (row p) < 65536
          → OthersTo (p + 1 - 1) (max low (at needs (8 * row p))) (sum + at weights (row p))
      others_more s f small =
          let e : p + 1 - 1 ≡ p = omega arith in
          rw e (rw before at (others_next (p - 1) low sum s (rw before (sym tested ∙ f)) (rw before small)))

      -- it is not
      pub others_unmet : t ≡ false → None ≡ others_of task c
      unfolding others_of others_met
      others_unmet f =
          sym (rw (every_false (n - 1) (λ k. row_met n needs (8 * row (k + 1)) c) (p - 1) (omega arith) (rw before (sym tested ∙ f))) refl)

    -- all of them
    pub others_done : OthersTo (p - 1) low sum → p ≤ n → n ≤ p → n ≤ 8
        → (Some (record { low = low; sum = sum }) ≡ others_of task c) × (sum ≤ 524280)
    unfolding others_of others_met others_need others_add
    others_done t h l g =
        let e : p ≡ n = le_antisymm h l in
        let u = rw e at t in
        (sym (rw (u.met, ← u.need, ← u.add) refl), omega (arith, t.small))
