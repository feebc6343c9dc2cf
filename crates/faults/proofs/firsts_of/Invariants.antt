-- After p turns the first p + 1 sums stand, and zeros behind them; no sum is above so many counts of 16 bits.
use mathlib.Core.Path.{◌≡◌}
use mathlib.Core.List.{◌++◌}
use Prim.Native.Nat.{ℕ, ◌+◌, ◌*◌, ◌≤◌}
use lib.ListN.{drop, replicate}
use Rattle.cuts.specs.Below.{sum_to, tab}
use Rattle.cuts.specs.Cut.{at}
use Rattle.faults.proofs.firsts_of.Given as goal

abbrev pub invariant-loop-p : goal.invariant-loop-p
invariant-loop-p l =
    (l.firsts ≡ tab (l.p + 1) (λ q. sum_to q (at l.counts)) ++ drop (l.p + 1) (replicate 9 0)) × (sum_to l.p (at l.counts) ≤ 65535 * l.p)
