use mathlib.Core.Path.{ap, ◌∙◌}
use Rattle.writer.specs.Write.{handed}
use Rattle.writer.specs.Tables.{level_put}
use Rattle.writer.proofs.WriterLaws.{held_signed}
use Rattle.writer.proofs.PackLaws.{turns_none, station_more}
use Rattle.writer.proofs.pack.Packing.put_stations.Goals as goal

pub loop-p-init : goal.loop-p-init
loop-p-init c = turns_none _ _

pub loop-p-preserved : goal.loop-p-preserved
loop-p-preserved c =
    c.put_pair.ensures
    ∙ station_more _ _ (handed c.args.self.now.given) _ _ _ _ _ _ c.station_bit.ensures.0 (c.from-count.ensures ∙ rw c.from-place.ensures at c.item.ensures)
    (ap level_put (held_signed _ c.item-start.type_inv ∙ rw c.from-place.ensures at c.item-start.ensures)) c.loop-p.invariant
