use mathlib.Core.Path.{refl, ap, ◌∙◌}
use Prim.Native.Nat.{ℕ, ◌*◌}
use native.Mathlib.Omega.{arith}
use Rattle.engine.proofs.PrepareLaws.{begins, needs_to-none, needs_to-more, weights_to-none, weights_to-more}
use Rattle.engine.proofs.tables.lay.Goals as goal

pub loop-p-init : goal.loop-p-init
loop-p-init c = let pre = c.requires in (pre.1, pre.2, needs_to-none _ _ _, weights_to-none _ _ _ _ _)

pub overflow_sub-station : goal.overflow_sub-station
overflow_sub-station c = (begins _ c.requires.0 _ c.bases-bases.ensures c.loop-p.p (omega arith)).low

pub invariant_of-station : goal.invariant_of-station
invariant_of-station c =
    let h = begins _ c.requires.0 _ c.bases-bases.ensures c.loop-p.p (omega arith) in
    record { few = omega (arith, h.few); records = omega arith; rows = omega (arith, h.high) }

pub loop-p-preserved : goal.loop-p-preserved
loop-p-preserved c =
    let L = c.loop-p in
    let h = begins _ c.requires.0 _ c.bases-bases.ensures L.p (omega arith) in
    let pre = c.requires in (
      c.lay_station_needs.auto.needs ∙ L.invariant.0,
      c.lay_station_weights.auto.weights ∙ L.invariant.1,
      needs_to-more _ _ _ _ _ L.p _ _ _ L.invariant.2 (rw c.from.ensures at c.lay_station_needs.ensures) h.first (ap (λ (j : ℕ). 8 * j) h.row) refl (omega (arith, h.high, pre.1)),
      weights_to-more _ _ _ _ _ _ _ L.p _ _ _ _ L.invariant.3 (rw c.from.ensures at c.lay_station_weights.ensures) (rw c.starts-starts.ensures refl) h.first (h.row ∙ omega arith) (omega arith) (omega (arith, h.high, pre.2)),
    )
