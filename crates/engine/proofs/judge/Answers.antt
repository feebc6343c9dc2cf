-- Refused by the condition, or by the recording's own checks; or the recording's tables are laid, and the rest is for `verdicts`.
use Rattle.std.proofs.lemmas.Result.{err_from_is_err_and}
use Rattle.std.proofs.Common.{rules, ◌≡◌, Err, sym}
use mathlib.Core.Path.{◌∙◌}
use Rattle.engine.proofs.JudgeLaws.{part_is, refused_condition, job_long, refused_recording, judged}
use Rattle.engine.proofs.judge.Goals as goal

pub returns-in_err-condition : goal.returns-in_err-condition
returns-in_err-condition c =
    let p = err_from_is_err_and c.from_residual.result c.from_residual.ensures.1 in
    rw (p.1, p.2) (refused_condition _ _ _ _ (sym c.read.ensures ∙ c.in_err-condition.was))

pub slice_bounds-s-count : goal.slice_bounds-s-count
slice_bounds-s-count c = job_long _ _ (sym c.read.ensures ∙ c.in_ok-condition.was)

pub slice_bounds-s-start : goal.slice_bounds-s-start
slice_bounds-s-start c = job_long _ _ (sym c.read.ensures ∙ c.in_ok-condition.was)

pub returns-in_err-decode : goal.returns-in_err-decode
returns-in_err-decode c =
    let r : c.from_residual-in_err-decode.result ≡ Err c.in_err-decode.field-0.0 = search rules in
    rw r
    (judged _ _ (sym c.read.ensures ∙ c.in_ok-condition.was) _ _ _ _ _ _ (part_is _)
    (refused_recording _ _ _ _ _ (rw c.in_err-decode.was at c.decode.ensures)))

pub returns : goal.returns
returns c =
    judged _ _ (sym c.read.ensures ∙ c.in_ok-condition.was) _ _ _ _ _ _ (part_is _) c.verdicts.ensures
