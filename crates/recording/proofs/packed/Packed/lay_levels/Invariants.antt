-- After r turns the first r numbers are the table's, and the rest is as it was.
use mathlib.Core.Path.{◌≡◌}
use mathlib.Core.List.{◌++◌}
use lib.ListN.{drop}
use Rattle.cuts.specs.Below.{tab}
use Rattle.recording.specs.Decode.{level_cell}
use Rattle.recording.specs.Packed.{over}
use Rattle.recording.proofs.packed.Packed.lay_levels.Given as goal

abbrev pub invariant-loop-r : goal.invariant-loop-r
invariant-loop-r l = l.level-items ≡ tab l.r (over l.self level_cell l.n) ++ drop l.r l.initial.level-items
