use mathlib.Core.Path.{refl}
use Rattle.writer.specs.Write.{needed_given}
use Rattle.writer.proofs.pack.Packing.needed.Goals as goal

pub returns : goal.returns
unfolding needed_given
returns c = rw (c.bytes_for.ensures.0, c.end.ensures.0) refl
