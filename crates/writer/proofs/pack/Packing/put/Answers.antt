use Rattle.writer.proofs.PackLaws.{pack_is}
use Rattle.writer.specs.Write.{handed}
use Rattle.writer.proofs.pack.Packing.put.Goals as goal

pub returns : goal.returns
returns c = pack_is _ _ (handed c.args.self.now.given) _ _ _ _ c.put_ends.ensures c.put_stations.ensures c.put_records.ensures
