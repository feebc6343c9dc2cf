-- The row is blank at first; after x turns the first x cuts have their marks, and the counts are those of the row but for the first.
use mathlib.Core.Path.{◌≡◌}
use mathlib.Core.List.{◌++◌}
use Prim.Native.Nat.{◌+◌, min}
use lib.ListN.{take, drop, set}
use Rattle.cuts.specs.Cut.{at}
use Rattle.marks.specs.Rows.{row_marks}
use Rattle.marks.proofs.frame.Frame.fill_row.Given as goal

abbrev pub invariant-loop-x : goal.invariant-loop-x
invariant-loop-x l =
    (l.counts ≡ set l.initial.counts 0 (at l.counts 0))
    × (l.marks ≡ row_marks l.self.task l.others l.initial.counts l.first (take l.first l.initial.marks) (min l.x (at l.self.task.full.counts 0 + 1)) ++ drop (l.first + min l.x (at l.self.task.full.counts 0 + 1)) l.initial.marks)
