-- A fault is refused with the record.
use mathlib.Core.Path.{◌≡◌, ◌∙◌}
use Rattle.std.specs.Prelude.{Ok, Err}
use Rattle.std.proofs.Common.{rules}
use Rattle.recording.proofs.CheckLaws.{at_record-is}
use Rattle.recording.proofs.scan.check_record.Goals as goal

pub returns : goal.returns
returns g c =
    at_record-is c.args.p c.args.e _ _
    (λ h. let e : c.fault.result ≡ Ok tt = c.fault.ensures ∙ h in search rules)
    (λ k h. let e : c.fault.result ≡ Err k = c.fault.ensures ∙ h in search rules)
