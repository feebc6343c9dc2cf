use mathlib.Core.Path.{◌∙◌}
use Rattle.writer.proofs.PackLaws.{turns_none, turns_more}
use Rattle.writer.proofs.pack.Packing.put_records.Goals as goal

pub loop-r-init : goal.loop-r-init
loop-r-init c = turns_none _ _

pub loop-r-preserved : goal.loop-r-preserved
loop-r-preserved c = c.put_record.ensures ∙ turns_more _ _ _ _ c.loop-r.invariant
