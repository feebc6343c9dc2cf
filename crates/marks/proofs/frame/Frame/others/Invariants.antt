-- After the stations up to place p low is the largest of their needs and the sum that of their weights; one whose row is not met ends the search.
use Prim.Native.Nat.{◌-◌}
use Rattle.marks.proofs.OthersLaws.{OthersTo}
use Rattle.marks.proofs.frame.Frame.others.Given as goal

abbrev pub invariant-loop-p : goal.invariant-loop-p
invariant-loop-p l = OthersTo l.self.task l.counts (l.p - 1) l.low l.sum
