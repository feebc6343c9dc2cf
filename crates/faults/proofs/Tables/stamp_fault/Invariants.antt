-- Rows that lack one of the stamps are a fault. After q turns the first q places of the stamp are right; a place that is not is a fault, and after n turns none is.
use mathlib.Core.Path.{◌≡◌}
use mathlib.Core.Bool.{true}
use Prim.Native.Nat.{◌-◌, ◌/◌, ◌≤◌, ◌<◌}
use lib.ListN.{length}
use Rattle.cuts.specs.Below.{every}
use Rattle.faults.specs.Fault.{place_right}
use Rattle.faults.proofs.Tables.stamp_fault.Given as goal

abbrev pub invariant-loop-q : goal.invariant-loop-q
invariant-loop-q l =
    (l.e < length l.self.rows.now / 8 - l.first) × (l.k ≤ length l.self.rows.now / 8 - l.sender) × (every l.q (place_right l.self.rows.now l.p l.first l.e l.sender l.k) ≡ true)
