use mathlib.Core.Path.{◌≡◌, refl, sym, ◌∙◌}
use Prim.Native.Nat.{◌+◌}
use native.Mathlib.Omega.{arith}
use Rattle.cuts.specs.Below.{sum_to, tab}
use Rattle.cuts.specs.Cut.{at}
use Rattle.cuts.proofs.BelowLaws.{sum_to-more}
use Rattle.cuts.proofs.TabLaws.{tab_more}
use Rattle.faults.proofs.FaultLaws.{front_at}
use Rattle.faults.proofs.firsts_of.Goals as goal

pub loop-p-init : goal.loop-p-init
unfolding tab sum_to
loop-p-init c = (refl, omega arith)

pub overflow_add-firsts : goal.overflow_add-firsts
overflow_add-firsts c =
    let L = c.loop-p in
    omega (arith, front_at _ (L.p + 1) L.p _ _ L.invariant.0 (omega arith), L.invariant.1)

pub loop-p-preserved : goal.loop-p-preserved
loop-p-preserved c =
    let L = c.loop-p in
    let m = c.args.counts.now in
    let here : at L.firsts L.p ≡ sum_to L.p (at m) = front_at _ (L.p + 1) L.p _ _ L.invariant.0 (omega arith) in
    let next : at L.firsts L.p + c.from.result ≡ sum_to (L.p + 1) (at m) = rw (here, c.from.ensures) (sym (sum_to-more L.p (at m))) in
    (rw (next, L.invariant.0) (tab_more (L.p + 1) _ _ (omega arith)), omega (arith, sum_to-more L.p (at m), L.invariant.1, c.from.ensures, c.from.type_inv))
