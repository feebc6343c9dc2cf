-- The byte of bit at + i is set to itself with the bit made b.
use Rattle.put.proofs.PutLaws.{set_code}
use Rattle.put.proofs.put_bit.Goals as goal

pub returns : goal.returns
returns c = set_code _ _ _ _ _ c.with_bit.ensures
