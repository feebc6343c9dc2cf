-- After p turns the counts of the stations up to place p are the digits of j, and left is what remains of it.
use mathlib.Core.Path.{◌≡◌}
use mathlib.Core.List.{◌++◌}
use Prim.Native.Nat.{◌-◌, ◌/◌}
use lib.ListN.{drop}
use Rattle.cuts.specs.Below.{tab}
use Rattle.cuts.specs.Rank.{weight}
use Rattle.marks.proofs.RowLaws.{digit_at}
use Rattle.marks.proofs.frame.lay_top.Given as goal

abbrev pub invariant-loop-p : goal.invariant-loop-p
invariant-loop-p l =
    (l.left ≡ l.j / weight (drop 1 l.full.counts) (l.p - 1)) × (l.counts ≡ tab l.p (digit_at l.full.counts l.j) ++ drop l.p l.initial.counts)
