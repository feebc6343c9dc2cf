-- n and the counts are those of its form.
use mathlib.Core.Path.{refl}
use Rattle.recording.specs.Decode.{full_of}
use Rattle.recording.proofs.full_cut.Goals as goal

pub returns : goal.returns
unfolding full_of
returns c = rw (c.counts.ensures, c.stations-n.ensures.0, c.of-packed.ensures.0, c.of-packed.ensures.1, c.of-packed.ensures.2) refl
