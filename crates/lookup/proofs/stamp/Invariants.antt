-- After q turns the first q places hold the first q counts, and the others 0.
use mathlib.Core.Path.{◌≡◌}
use Prim.Native.Nat.{◌+◌}
use mathlib.Core.List.{◌++◌}
use lib.ListN.{drop}
use Rattle.cuts.specs.Below.{tab}
use Rattle.recording.specs.Form.{record_bit}
use Rattle.lookup.specs.Lookup.{counted}
use Rattle.lookup.proofs.stamp.Given as goal

abbrev pub invariant-loop-q : goal.invariant-loop-q
invariant-loop-q l = l.stamp ≡ tab l.q (counted l.form.width l.s l.n (record_bit l.form.lead l.form.width l.n l.r + 16 + l.form.width)) ++ drop l.q l.initial.stamp
