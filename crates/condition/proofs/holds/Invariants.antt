-- After p turns the sum is what the first p stations add, 32,768 above; after eight the limits decide.
use Rattle.std.proofs.Common.{◌≡◌, ◌+◌, ◌*◌, ◌≤◌}
use Rattle.cuts.specs.Below.{sum_to}
use Rattle.cuts.specs.Cut.{at}
use Rattle.condition.specs.Weigh.{weigh_of}
use Rattle.condition.proofs.holds.Given as goal

abbrev pub invariant-loop-p : goal.invariant-loop-p
invariant-loop-p l = (l.sum ≡ sum_to l.p (λ q. weigh_of l.c q (at l.fn.levels q)) + 32768) × (l.sum ≤ 32768 + 65535 * l.p)
