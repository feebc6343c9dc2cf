-- After p turns the first p strides are the weights of their places, and w is the next.
use mathlib.Core.Path.{◌≡◌}
use mathlib.Core.List.{◌++◌}
use lib.ListN.{drop, replicate}
use Rattle.cuts.specs.Below.{tab}
use Rattle.cuts.specs.Rank.{weight}
use Rattle.marks.proofs.frame.strides_of.Given as goal

abbrev pub invariant-loop-p : goal.invariant-loop-p
invariant-loop-p l = (l.w ≡ weight l.full.counts l.p) × (l.strides ≡ tab l.p (weight l.full.counts) ++ drop l.p (replicate 8 0))
