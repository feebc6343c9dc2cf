-- The tests go in the written order, and each `return` is the law of the first that fails.
use native.Mathlib.Omega.{arith}
use mathlib.Core.Logic.{⊎_elim}
use Rattle.std.proofs.lemmas.Grind.{common_steps}
use Rattle.recording.proofs.WholeLaws.{form_fault-empty, form_fault-none, form_fault-many, form_fault-end}
use Rattle.recording.proofs.packed.Packed.check_form.Goals as goal

pub returns-then-is_empty : goal.returns-then-is_empty
returns-then-is_empty c = form_fault-empty _ _ _ (grind (arith, common_steps))

pub returns-then-n-lt1 : goal.returns-then-n-lt1
returns-then-n-lt1 c =
    ⊎_elim (form_fault-none _ _ _ (grind (arith, common_steps)) _ c.stations-n.ensures.0) (λ (_, h). form_fault-many _ _ _ (grind (arith, common_steps)) _ c.stations-n.ensures.0 h) c.then-n-lt1.either

pub returns : goal.returns
returns c =
    form_fault-end _ _ _ (grind (arith, common_steps)) _ c.stations-n.ensures.0 c.if-n-lt1.false c.if-n-gt8.false _ _ _ c.total.ensures.0 c.record_bit.ensures.0 c.check_end.ensures
