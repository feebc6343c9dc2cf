-- No rank of the pieces passed over is marked 1.
use Prim.Native.Nat.{◌*◌}
use Rattle.marks.specs.Rows.{NoneTo}
use Rattle.marks.proofs.frame.passed_over.Given as goal

abbrev pub invariant-loop-i : goal.invariant-loop-i
invariant-loop-i l = NoneTo l.marks (256 * l.i)
