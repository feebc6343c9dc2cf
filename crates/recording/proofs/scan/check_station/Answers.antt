-- The scan ends at the first refusal, or behind the last record.
use mathlib.Core.Path.{◌≡◌, sym, ◌∙◌}
use native.Mathlib.Omega.{arith}
use native.Mathlib.Nat.{le_antisymm}
use Rattle.std.proofs.Common.{rules}
use Rattle.std.specs.Prelude.{Err}
use Rattle.recording.proofs.CheckLaws.{scan_none, scan_more, scan_found}
use Rattle.recording.proofs.scan.check_station.Goals as goal

pub loop-e-init : goal.loop-e-init
loop-e-init g c = scan_none _

pub loop-e-preserved : goal.loop-e-preserved
loop-e-preserved g c = scan_more _ _ c.loop-e.invariant ∙ sym (c.in_ok-check_record.ensures)

pub returns-in_err-check_record : goal.returns-in_err-check_record
returns-in_err-check_record g c =
    let r : c.from_residual.result ≡ Err c.in_err-check_record.field-0.0 = search rules in
    r ∙ scan_found _ _ _ _ (omega arith) c.loop-e.invariant c.in_err-check_record.ensures

pub returns : goal.returns
returns g c = sym (rw (le_antisymm c.loop-e.auto.e-end c.loop-e-test.false) at c.loop-e.invariant)
