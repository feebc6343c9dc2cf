use native.Mathlib.Omega.{arith}
use Rattle.std.proofs.Common.{rules}
use Rattle.marks.proofs.OthersLaws.{others_start, others_more, others_unmet, others_done}
use Rattle.marks.proofs.frame.Frame.others.Goals as goal

pub loop-p-init : goal.loop-p-init
loop-p-init c = others_start _ _

pub returns-then-not-row_met : goal.returns-then-not-row_met
returns-then-not-row_met c =
    let loop = c.loop-p in
    (others_unmet _ _ _ loop.low loop.sum loop.auto.p (omega arith) _ (rw c.from.ensures at c.row_met.ensures) c.if-not-row_met.true, omega arith)

pub loop-p-preserved : goal.loop-p-preserved
loop-p-preserved c =
    let loop = c.loop-p in
    rw (c.max-low.ensures, c.from-in-loop-p.ensures, c.from-sum.ensures, c.from.ensures)
    (others_more _ _ _ loop.low loop.sum loop.auto.p (omega arith) _ (rw c.from.ensures at c.row_met.ensures) loop.invariant c.if-not-row_met.false (search rules))

pub returns : goal.returns
returns c =
    let loop = c.loop-p in
    others_done _ _ _ _ _ loop.auto.p loop.invariant (omega (arith, c.requires.some)) (omega arith) c.requires.most
