-- One window more that is in order; or one that is not, and so not all are.
use Rattle.std.proofs.Common.{refl}
use Rattle.std.proofs.lemmas.Result.{err_from_is_err_and}
use Rattle.cuts.specs.Below.{every, tab}
use Rattle.cuts.proofs.BelowLaws.{every_more, every_false}
use Rattle.condition.proofs.FieldLaws.{ok_by, err_by, err_if, filled_more}
use Rattle.condition.proofs.fields.windows.Goals as goal

pub loop-p-init : goal.loop-p-init
unfolding every tab
loop-p-init c = (refl, refl)

pub returns-in_err-place : goal.returns-in_err-place
returns-in_err-place c =
    let (f, v) = err_by _ c.in_err-place.was c.window.ensures in
    let r = err_from_is_err_and c.from_residual.result c.from_residual.ensures.1 in
    rw (r.1, r.2, v) (err_if _ (every_false 8 _ c.loop-p.p c.loop-p-test.true f))

pub loop-p-preserved : goal.loop-p-preserved
loop-p-preserved c =
    let (t, v) = ok_by _ c.in_ok-place.was c.window.ensures in
    (filled_more _ _ _ c.loop-p.invariant.0 v c.loop-p-test.true, every_more _ _ c.loop-p.invariant.1 t)
