-- After e turns none of the first e records is refused.
use mathlib.Core.Path.{◌≡◌}
use Rattle.std.specs.Prelude.{Ok}
use Rattle.recording.specs.Check.{scan_to}
use Rattle.refusal.specs.Refusal.{at_record}
use Rattle.recording.proofs.scan.check_station.Given as goal

abbrev pub invariant-loop-e : goal.invariant-loop-e
invariant-loop-e g l = scan_to l.e (λ e. at_record l.p e (g.R.Records.wrong l.records l.p e)) ≡ Ok tt
