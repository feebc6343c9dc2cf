-- After r turns the rows of the first r records stand, and after q turns of the inner loop the first q places of the next.
use mathlib.Core.Path.{◌≡◌}
use Prim.Native.Nat.{ℕ, ◌+◌, ◌*◌, ◌<◌}
use lib.ListN.{length}
use Rattle.cuts.specs.Cut.{at}
use Rattle.writer.proofs.Given.lay_stamps.Given as goal

abbrev pub invariant-loop-r : goal.invariant-loop-r
invariant-loop-r l = (length l.rows ≡ 32704) × ((i p : ℕ) → i < l.r → p < l.n → at l.rows (8 * i + p) ≡ at l.self.stamps.now (i * l.n + p))

abbrev pub invariant-loop-q : goal.invariant-loop-q
invariant-loop-q l =
    (length l.rows ≡ 32704) × ((i p : ℕ) → i < l.r → p < l.n → at l.rows (8 * i + p) ≡ at l.self.stamps.now (i * l.n + p)) × ((p : ℕ) → p < l.q → at l.rows (8 * l.r + p) ≡ at l.self.stamps.now (l.r * l.n + p))
