-- The limits of a sum, where those of the condition are 32,768 above: one law for each way out. Assumes nothing.
use mathlib.Core.Path.{◌≡◌, refl, ap₂}
use mathlib.Core.Bool.{false, ◌&&◌}
use Prim.Native.Nat.{ℕ, zero, suc, ◌+◌, ◌-◌, ◌≤◌, ◌<◌}
use native.Mathlib.Omega.{arith}
use lib.Dec.{leb}
use borrow.Author.Tests.{lt-leb}
use Rattle.cuts.proofs.BelowLaws.{and_false}
use Rattle.levels.proofs.LevelLaws.{leb_same}
use Rattle.condition.specs.Weigh.{within}
use Rattle.condition.specs.declared.Limits.{Limits}
use Rattle.marks.specs.Flat.{between}

-- no sum is within limits that end below it
pub shift_none : (l : Limits) → l.most < 32768 → (s : ℕ) → between 1 0 s ≡ within l s
unfolding between within
shift_none l h s = rw (lt-leb (s + 32768) l.most (omega arith), and_false (leb l.least (s + 32768))) (go s)
  where
    go : (s : ℕ) → (leb 1 s && leb s 0) ≡ false
    go zero = refl
    go (suc s) = rw (lt-leb (suc s) 0 (omega arith)) (and_false (leb 1 (suc s)))

-- the lower limit x and the upper one
pub shift_some : (l : Limits) (x : ℕ) → 32768 ≤ l.most → x ≡ l.least - 32768 → (s : ℕ) → between x (l.most - 32768) s ≡ within l s
unfolding between within
shift_some l x h e s =
    ap₂
    ◌&&◌
    (leb_same x s l.least (s + 32768) (λ k. omega arith) (λ k. omega arith))
    (leb_same s (l.most - 32768) (s + 32768) l.most (λ k. omega arith) (λ k. omega arith))
