-- The full cut has the last rank. Where it is marked 3 each turn takes one step of the way from its end: the place that the search finds, and the rank and
-- counts one step back, to a cut that is marked 3 too.
use Rattle.marks.proofs.BackLaws.{Walked}
use Rattle.marks.proofs.frame.Frame.walk.Given as goal

abbrev pub invariant-loop-p : goal.invariant-loop-p
invariant-loop-p l = Walked l.self.task l.self.ready l.marks l.initial.path l.path l.counts l.r l.k

abbrev pub decreases-loop-p : goal.decreases-loop-p
decreases-loop-p l = l.k
