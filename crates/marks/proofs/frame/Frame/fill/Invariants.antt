-- After j rows the marks of their ranks are the lattice's, and those behind are blank.
use mathlib.Core.Path.{◌≡◌}
use mathlib.Core.List.{◌++◌}
use Prim.Native.Nat.{◌*◌}
use lib.ListN.{drop, replicate}
use Rattle.marks.specs.Rows.{marks_to}
use Rattle.marks.proofs.frame.Frame.fill.Given as goal

abbrev pub invariant-loop-j : goal.invariant-loop-j
invariant-loop-j l =
    (l.marks ≡ marks_to l.self.task (l.j * l.width) ++ drop (l.j * l.width) (replicate l.self.size 0))
    × (drop l.self.task.full.n l.counts ≡ drop l.self.task.full.n (replicate 8 0))
