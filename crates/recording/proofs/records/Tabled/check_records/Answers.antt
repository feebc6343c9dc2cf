-- Where a record stands, nothing but its own fault is found, so the scan is that of all records.
use mathlib.Core.Path.{◌∙◌}
use Rattle.recording.proofs.FaultRight.{records_scan}
use Rattle.recording.proofs.records.Tabled.check_records.Goals as goal

pub returns : goal.returns
returns c = c.check_records.ensures ∙ records_scan c.args.self.now.laid
