-- The three bytes from the field's first on are a field of 24 bits; the shift drops the bits behind the field, the remainder those before it.
use mathlib.Core.Path.{sym}
use Rattle.bits.proofs.BitsLaws.{field_three, peeked_wide, peeked_three, remainder_16}
use Rattle.bits.proofs.BitReader.look.Goals as goal

pub returns-then-k-gt16 : goal.returns-then-k-gt16
returns-then-k-gt16 c = sym (peeked_wide _ _ _ c.if-k-gt16.true)

pub overflow_cast-result : goal.overflow_cast-result
overflow_cast-result c = record { fits = remainder_16 _ _ c.if-k-gt16.false }

pub returns : goal.returns
returns c =
    peeked_three _ _ _ _ c.if-k-gt16.false
    (field_three _ _ _ _ _ c.byte-a.ensures c.byte-b.ensures c.byte-c.ensures)
