use native.Mathlib.Omega.{arith}
use Rattle.text.proofs.TextLaws.{written_copy}
use Rattle.text.proofs.put_bytes.Goals as goal

pub returns : goal.returns
returns c = written_copy _ _ _ _ _ c.requires (omega arith) c.copy_from_slice.ensures.after
