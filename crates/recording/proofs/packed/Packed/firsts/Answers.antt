use Rattle.faults.proofs.FaultLaws.{sums_made}
use Rattle.recording.specs.Decode.{records_to}
use Rattle.recording.proofs.packed.Packed.firsts.Goals as goal

pub returns : goal.returns
unfolding records_to
returns c = sums_made _ _ _ c.counts.ensures c.firsts_of.ensures
