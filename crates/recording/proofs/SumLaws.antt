-- Sums of counts: the records before a station's, and where its own stand among all. Assumes nothing.
use mathlib.Core.Path.{◌≡◌}
use Prim.Native.Nat.{ℕ, zero, suc, ◌+◌, ◌-◌, ◌*◌, ◌≤◌, ◌<◌}
use native.Mathlib.Nat.{add-zero, add-suc}
use native.Mathlib.Omega.{arith}
use Rattle.cuts.specs.Below.{sum_to}
use Rattle.cuts.proofs.BelowLaws.{sum_to-more}

pub sum_to-grows : (f : ℕ → ℕ) (p d : ℕ) → sum_to p f ≤ sum_to (p + d) f
unfolding sum_to
sum_to-grows f p zero = rw (add-zero p) (omega arith)
sum_to-grows f p (suc d) = rw (add-suc p d) (omega (arith, sum_to-grows f p d))

-- the terms up to p, and part of the next, are within those up to n
pub sum_to-part : (f : ℕ → ℕ) (n p e : ℕ) → p < n → e ≤ f p → sum_to p f + e ≤ sum_to n f
sum_to-part f n p e h l =
    let j : p + 1 + (n - (p + 1)) ≡ n = omega arith in
    omega (arith, sum_to-more p f, rw j at (sum_to-grows f (p + 1) (n - (p + 1))))

pub sum_to-most : (f : ℕ → ℕ) (b n : ℕ) → ((p : ℕ) → f p ≤ b) → sum_to n f ≤ b * n
unfolding sum_to
sum_to-most f b zero h = omega arith
sum_to-most f b (suc n) h = omega (arith, sum_to-most f b n h, h n)
