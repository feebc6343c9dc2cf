use mathlib.Core.Path.{sym}
use native.Mathlib.Omega.{arith}
use Rattle.cuts.proofs.TabLaws.{tab_none, tab_more}
use Rattle.engine.proofs.PrepareLaws.{rows_to-zero, rows_to-more, rows_to-le}
use Rattle.engine.proofs.needs.bases.Goals as goal

pub loop-p-init : goal.loop-p-init
loop-p-init c = (sym (rows_to-zero _), tab_none _ _, c.requires.few)

pub overflow_add-rows-in-loop-p : goal.overflow_add-rows-in-loop-p
overflow_add-rows-in-loop-p c =
    let L = c.loop-p in
    omega (arith, rows_to-le c.args.full.counts L.invariant.2 L.p, L.invariant.0, L.invariant.2 L.p)

pub loop-p-preserved : goal.loop-p-preserved
loop-p-preserved c =
    let L = c.loop-p in
    (rw (L.invariant.0, c.from.ensures) (sym (rows_to-more _ _)), rw (L.invariant.1, L.invariant.0) (tab_more L.p _ _ (omega arith)), L.invariant.2)
