-- The sums are those of the counts handed in, each of which is a byte.
use mathlib.Core.Path.{◌≡◌, ap, ◌∙◌}
use mathlib.Core.List.{List}
use Prim.Native.Nat.{ℕ, ◌≤◌}
use native.Mathlib.Omega.{arith}
use Rattle.cuts.specs.Below.{sum_to}
use Rattle.cuts.specs.Cut.{at}
use Rattle.cuts.proofs.BelowLaws.{get_d-tab}
use Rattle.faults.proofs.FaultLaws.{sums_made}
use Rattle.recording.proofs.SumLaws.{sum_to-most}
use Rattle.writer.proofs.firsts_of.Goals as goal

pub returns-clause-sums : goal.returns-clause-sums
returns-clause-sums c p h =
    let byte : (q : ℕ) → at c.args.counts.now q ≤ 255 = λ q. omega (arith, c.type_inv.counts q) in
    let e : at c.firsts_of.result p ≡ sum_to p (at c.args.counts.now) =
    ap (λ (l : List ℕ). at l p) (sums_made _ _ _ c.events_of.ensures c.firsts_of.ensures) ∙ get_d-tab 9 _ 0 p h in
    (e, omega (arith, e, sum_to-most (at c.args.counts.now) 255 p byte))
