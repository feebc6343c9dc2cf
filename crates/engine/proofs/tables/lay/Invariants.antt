-- After p turns what the events of the first p stations need, and what these stations add, stand in front, one station behind the other, and the rest is
-- as it was.
use mathlib.Core.Path.{◌≡◌}
use mathlib.Core.List.{◌++◌}
use Prim.Native.Nat.{◌*◌}
use lib.ListN.{length, drop}
use Rattle.engine.specs.Prepare.{rows_to, needs_to, weights_to}
use Rattle.engine.proofs.tables.lay.Given as goal

abbrev pub invariant-loop-p : goal.invariant-loop-p
invariant-loop-p l =
    (length l.needed ≡ 32768) × (length l.added ≡ 4096) × (l.needed ≡ needs_to l.full.counts l.accepted.stamps.now l.p ++ drop (8 * rows_to l.full.counts l.p) l.initial.needed)
    × (l.added ≡ weights_to l.full.counts l.c l.starts l.accepted.levels.now l.p ++ drop (1 * rows_to l.full.counts l.p) l.initial.added)
