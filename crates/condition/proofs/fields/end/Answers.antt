-- 16 bits in two's complement, and 32,768 more, wrapped.
use Rattle.bits.specs.Bits.{peeked}
use Rattle.bits.proofs.BitsLaws.{field_lt}
use Rattle.condition.proofs.FieldLaws.{raised_wraps}
use Rattle.condition.proofs.fields.end.Goals as goal

pub returns : goal.returns
unfolding peeked
returns c = rw c.peek.ensures (raised_wraps _ (field_lt _ _ 16))
