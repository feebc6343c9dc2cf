-- The tables as they are read are what the checks of the records read.
use mathlib.Core.Path.{◌∙◌}
use Rattle.recording.proofs.WholeLaws.{laid_read}
use Rattle.recording.proofs.packed.Packed.tabled.Goals as goal

pub invariant_of-result : goal.invariant_of-result
invariant_of-result c = record { laid = laid_read _ _ _ _ _ _ _ c.requires.0 c.requires.1 (c.from.ensures ∙ c.stations-n.ensures.0) (rw c.from.ensures c.counts.ensures) (rw c.from.ensures c.firsts.ensures) }
