-- After j turns the first j numbers are pasted in, and the rest is as it was.
use mathlib.Core.Path.{◌≡◌}
use Prim.Native.Nat.{ℕ, ◌<◌}
use lib.ListN.{length}
use Rattle.engine.proofs.PrepareLaws.{pasted}
use Rattle.engine.proofs.tables.lay_each.Given as goal

abbrev pub invariant-loop-j : goal.invariant-loop-j
invariant-loop-j g l =
    (length l.room ≡ length l.initial.room)
    × ((h : ℕ → ℕ) → ((j r : ℕ) → j < l.k → goal.F-post g l.f j r → r ≡ h j) → l.room ≡ pasted l.initial.room l.at l.j h)
