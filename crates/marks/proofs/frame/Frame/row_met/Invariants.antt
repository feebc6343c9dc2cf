-- Of the first q numbers those of stations are no more than the counts.
use mathlib.Core.Path.{◌≡◌}
use mathlib.Core.Bool.{◌||◌}
use Prim.Native.Nat.{◌+◌}
use lib.Dec.{leb}
use Rattle.cuts.specs.Below.{every}
use Rattle.cuts.specs.Cut.{at}
use Rattle.marks.proofs.frame.Frame.row_met.Given as goal

abbrev pub invariant-loop-q : goal.invariant-loop-q
invariant-loop-q l =
    l.met ≡ every l.q (λ i. leb l.self.task.full.n i || leb (at l.self.task.needs.now (l.from + i)) (at l.counts i))
