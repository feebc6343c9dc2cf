-- After p turns none of the first p stations has a record that is refused.
use mathlib.Core.Path.{◌≡◌}
use Rattle.std.specs.Prelude.{Ok}
use Rattle.recording.specs.Fault.{scanned_faults}
use Rattle.recording.proofs.scan.check_records.Given as goal

abbrev pub invariant-loop-p : goal.invariant-loop-p
invariant-loop-p g l = scanned_faults l.p l.counts (g.R.Records.wrong l.records) ≡ Ok tt
