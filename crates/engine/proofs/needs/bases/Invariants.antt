-- After p turns the first p places hold the rows before their stations', and the sum those before the next station's.
use mathlib.Core.Path.{◌≡◌}
use mathlib.Core.List.{◌++◌}
use Prim.Native.Nat.{ℕ, ◌≤◌}
use lib.ListN.{drop}
use Rattle.cuts.specs.Below.{tab}
use Rattle.cuts.specs.Cut.{at}
use Rattle.engine.specs.Prepare.{rows_to}
use Rattle.engine.proofs.needs.bases.Given as goal

abbrev pub invariant-loop-p : goal.invariant-loop-p
invariant-loop-p l = (l.rows ≡ rows_to l.full.counts l.p) × (l.bases ≡ tab l.p (rows_to l.full.counts) ++ drop l.p l.initial.bases) × ((q : ℕ) → at l.full.counts q ≤ 511)
