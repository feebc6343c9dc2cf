-- After r turns the first r stamps are the table's, and the rest is as it was; within a turn also the first q places of the next.
use mathlib.Core.Path.{◌≡◌}
use mathlib.Core.List.{◌++◌}
use Prim.Native.Nat.{◌+◌, ◌*◌}
use lib.ListN.{drop}
use Rattle.cuts.specs.Below.{tab}
use Rattle.recording.specs.Decode.{stamp_cell}
use Rattle.recording.specs.Packed.{over}
use Rattle.recording.proofs.packed.Packed.lay_stamps.Given as goal

abbrev pub invariant-loop-r : goal.invariant-loop-r
invariant-loop-r l = l.out ≡ tab (8 * l.r) (over l.self stamp_cell l.n) ++ drop (8 * l.r) l.fn.out

abbrev pub invariant-loop-q : goal.invariant-loop-q
invariant-loop-q l = l.out ≡ tab (8 * l.r + l.q) (over l.self stamp_cell l.n) ++ drop (8 * l.r + l.q) l.fn.out
