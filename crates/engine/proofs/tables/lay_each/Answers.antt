use mathlib.Core.Path.{◌≡◌, refl, ◌∙◌}
use native.Mathlib.Omega.{arith}
use lib.ListN.{length-set}
use Rattle.engine.proofs.PrepareLaws.{pasted_is, pasted_none, pasted_more}
use Rattle.engine.proofs.tables.lay_each.Goals as goal

pub loop-j-init : goal.loop-j-init
loop-j-init g c = (refl, λ h says. pasted_none _ _ _)

pub loop-j-preserved : goal.loop-j-preserved
loop-j-preserved g c =
    let L = c.loop-j in
    (simp length-set L.invariant.0, λ h says. rw (L.invariant.1 h says, says L.j c.f.result (omega arith) c.f.ensures) (pasted_more _ _ L.j _ (omega arith)))

pub returns : goal.returns
returns g c h says = let e : c.loop-j.j ≡ c.args.k = omega arith in rw e at (c.loop-j.invariant.1 h says) ∙ pasted_is _ _ _ _
