-- The last four leading bits are a field of four bits, below 16.
use mathlib.Core.Path.{refl}
use native.Mathlib.Omega.{arith}
use Rattle.recording.specs.Form.{n_at}
use Rattle.recording.proofs.PlaceLaws.{peeked_read}
use Rattle.recording.proofs.packed.Packed.stations.Goals as goal

pub overflow_cast-result : goal.overflow_cast-result
overflow_cast-result c = omega (arith, (peeked_read _ _ _ 4 4 _ c.peek.ensures refl (omega arith) (omega arith)).1)

pub returns : goal.returns
unfolding n_at
returns c = peeked_read _ _ _ 4 4 _ c.peek.ensures refl (omega arith) (omega arith)
