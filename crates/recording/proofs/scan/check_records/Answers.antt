-- The scan ends at the first refusal, or behind the last station.
use mathlib.Core.Path.{◌≡◌, sym, ◌∙◌}
use native.Mathlib.Omega.{arith}
use native.Mathlib.Nat.{le_antisymm}
use Rattle.std.proofs.Common.{rules}
use Rattle.std.specs.Prelude.{Err}
use Rattle.recording.specs.Fault.{scanned_faults}
use Rattle.recording.proofs.CheckLaws.{scan_none, scan_more, scan_found}
use Rattle.recording.proofs.scan.check_records.Goals as goal

pub loop-p-init : goal.loop-p-init
unfolding scanned_faults
loop-p-init g c = scan_none _

pub loop-p-preserved : goal.loop-p-preserved
unfolding scanned_faults
loop-p-preserved g c = scan_more _ _ c.loop-p.invariant ∙ sym (rw c.count_at.ensures at c.in_ok-check_station.ensures)

pub returns-in_err-check_station : goal.returns-in_err-check_station
unfolding scanned_faults
returns-in_err-check_station g c =
    let r : c.from_residual.result ≡ Err c.in_err-check_station.field-0.0 = search rules in
    r ∙ scan_found _ _ _ _ (omega arith) c.loop-p.invariant (rw c.count_at.ensures at c.in_err-check_station.ensures)

pub returns : goal.returns
returns g c = sym (rw (le_antisymm c.loop-p.auto.p-end c.loop-p-test.false) at c.loop-p.invariant)
