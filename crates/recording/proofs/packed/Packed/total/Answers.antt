-- T is the last of the nine.
use native.Mathlib.Omega.{arith}
use Rattle.recording.proofs.WholeLaws.{total_read}
use Rattle.recording.proofs.packed.Packed.total.Goals as goal

pub overflow_cast-result : goal.overflow_cast-result
overflow_cast-result c = omega (arith, (total_read _ _ _ _ _ (omega arith) (omega arith) c.stations.ensures.0 c.firsts.ensures).1)

pub returns : goal.returns
returns c = total_read _ _ _ _ _ (omega arith) (omega arith) c.stations.ensures.0 c.firsts.ensures
