-- The whole is checked first; the rows are laid for the checks of the records.
use mathlib.Core.Path.{◌≡◌, sym, ◌∙◌}
use Rattle.std.proofs.Common.{rules}
use Rattle.std.specs.Prelude.{Err}
use Rattle.refusal.specs.Refusal.{whole}
use Rattle.recording.proofs.WholeLaws.{form_fault-stations, checked_of-fault, checked_of-records}
use Rattle.recording.proofs.packed.Packed.check_rows.Goals as goal

pub returns-in_err-check_form : goal.returns-in_err-check_form
returns-in_err-check_form c =
    let r : c.from_residual.result ≡ Err (whole c.in_err-check_form.field-0.0) = search rules in
    record { reply = r ∙ checked_of-fault _ _ _ _ c.in_err-check_form.ensures; laid = λ h. cc }

pub lay_stamps-requires : goal.lay_stamps-requires
lay_stamps-requires c = (form_fault-stations _ _ _ (sym (c.in_ok-check_form.ensures))).1

pub tabled-requires : goal.tabled-requires
tabled-requires c = ((form_fault-stations _ _ _ (sym (c.in_ok-check_form.ensures))).0, c.lay_stamps.ensures)

pub returns : goal.returns
returns c =
    record { reply = rw c.tabled.ensures at c.check_records.ensures ∙ checked_of-records _ _ _ c.in_ok-check_form.ensures; laid = λ _. c.lay_stamps.ensures }
