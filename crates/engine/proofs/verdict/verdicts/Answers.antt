-- The rooms are tested first; then the tables are laid of the recording and the condition, and the box is settled from them: `computed` says that what is
-- settled is the recording's.
use mathlib.Core.Path.{refl}
use Rattle.std.proofs.lemmas.Result.{err_from_is_err_and}
use Rattle.engine.proofs.FullLaws.{short_full}
use Rattle.engine.proofs.JudgeLaws.{refused_room, settled, answered}
use Rattle.engine.proofs.VerdictLaws.{computed, there}
use Rattle.engine.proofs.verdict.verdicts.Goals as goal

pub returns-in_err-check : goal.returns-in_err-check
returns-in_err-check c =
    let p = err_from_is_err_and c.from_residual.result c.from_residual.ensures.1 in
    rw (p.1, p.2) (refused_room _ _ _ _ _ _ c.args.accepted.laid _ c.full_cut-full.ensures _ c.check.ensures _ c.in_err-check.was)

pub lay-bases-requires : goal.lay-bases-requires
lay-bases-requires c = (short_full _ _ c.args.accepted.laid.accepts c.full_cut-full.ensures, refl, refl)

pub unwrap-requires : goal.unwrap-requires
unwrap-requires c =
    let z = settled _ _ c.args.marks.now c.args.path.now _ _ c.args.accepted.laid _ c.full_cut-full.ensures _ c.check.ensures c.in_ok-check.was in
    there _ _ _ _ _ _ _ z _ _ _ refl refl refl c.lay-bases.ensures.bases c.lay-bases.ensures.needs c.lay-bases.ensures.weights c.sum_limits-limits.ensures _ _ _ c.settle.ensures

pub returns : goal.returns
returns c =
    let z = settled _ _ c.args.marks.now c.args.path.now _ _ c.args.accepted.laid _ c.full_cut-full.ensures _ c.check.ensures c.in_ok-check.was in
    answered _ _ _ _ _ _ c.args.accepted.laid _ c.full_cut-full.ensures _ c.check.ensures _ _ _ c.in_ok-check.was
    (computed _ _ _ _ _ _ _ z _ _ _ refl refl refl c.lay-bases.ensures.bases c.lay-bases.ensures.needs c.lay-bases.ensures.weights c.sum_limits-limits.ensures _ _ _ (rw c.unwrap.ensures at c.settle.ensures))
