-- After p turns the counts of the first p places are taken in, and all of them will do; after eight that is the whole cut.
use Rattle.cut.proofs.WalkLaws.{Turned}
use Rattle.cut.proofs.walk.Given as goal

abbrev pub invariant-loop-p : goal.invariant-loop-p
invariant-loop-p l = Turned l.full.n l.full.counts l.c.counts l.size l.rank l.events l.p
