-- After p turns the first p windows stand in front, and all of them are in order.
use Rattle.std.proofs.Common.{◌≡◌, ◌++◌, true, drop}
use Rattle.cuts.specs.Below.{every, tab}
use Rattle.condition.specs.Condition.{window_ok, window_of}
use Rattle.condition.proofs.fields.windows.Given as goal

abbrev pub invariant-loop-p : goal.invariant-loop-p
invariant-loop-p l = (l.place-items ≡ tab l.p (window_of l.s) ++ drop l.p l.initial.place-items) × (every l.p (window_ok l.s) ≡ true)
