-- Up to p no station is asked and above n; one that is refutes the whole.
use mathlib.Core.Path.{◌≡◌}
use mathlib.Core.Bool.{true}
use Prim.Native.Nat.{◌≤◌}
use Rattle.engine.proofs.RoomLaws.{unasked_to}
use Rattle.engine.proofs.rooms.none_above.Given as goal

abbrev pub invariant-loop-p : goal.invariant-loop-p
invariant-loop-p l = (l.n ≤ l.p) × (unasked_to l.c l.n l.p ≡ true)
