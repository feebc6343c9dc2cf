-- n is put in front, and behind the last record as many zero bits as its byte lacks.
use Rattle.writer.specs.Write.{handed}
use Rattle.writer.proofs.PackLaws.{ends_are}
use Rattle.writer.proofs.pack.Packing.put_ends.Goals as goal

pub returns : goal.returns
returns c =
    ends_are _ _ (handed c.args.self.now.given) _ _ _ _ _ c.end-end.ensures.0 c.bytes_for.ensures.0 (rw c.from.ensures at c.put.ensures.bytes) c.put-2.ensures.bytes
