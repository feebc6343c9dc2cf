use Rattle.std.proofs.Common.{◌≡◌, ◌&&◌, leb, refl, ◌∙◌, le_antisymm, rules, arith}
use Rattle.cuts.specs.Below.{sum_to}
use Rattle.condition.proofs.WeighRight.{sum_more, holds_sum}
use Rattle.condition.proofs.holds.Goals as goal

pub loop-p-init : goal.loop-p-init
unfolding sum_to
loop-p-init c = (refl, omega arith)

pub loop-p-preserved : goal.loop-p-preserved
loop-p-preserved c = (sum_more _ _ _ _ c.loop-p.invariant.0 (c.from.ensures ∙ c.weigh.ensures), omega arith)

pub returns : goal.returns
returns c =
    let e = rw (le_antisymm c.loop-p.auto.p-end c.loop-p-test.false) at c.loop-p.invariant.0 in
    let t : c.contains.result ≡ (leb c.limits_of-limits.result.least c.loop-p.sum && leb c.loop-p.sum c.limits_of-limits.result.most) = search rules in
    t ∙ holds_sum _ _ _ _ c.limits_of-limits.ensures e
