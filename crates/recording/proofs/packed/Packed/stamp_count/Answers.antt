-- A place below n is that count of the record's stamp, the field of a count's bits after its origin, number, level and first counts, and one beyond n is 0.
use mathlib.Core.Path.{sym, ◌∙◌}
use native.Mathlib.Omega.{arith}
use Rattle.recording.specs.Form.{count_at}
use Rattle.recording.proofs.PlaceLaws.{peeked_read}
use Rattle.recording.proofs.DecodeLaws.{stamp_cell-count, stamp_cell-none}
use Rattle.recording.proofs.packed.Packed.stamp_count.Goals as goal

pub returns-then-q-n : goal.returns-then-q-n
unfolding count_at
returns-then-q-n c =
    let f = peeked_read _ _ _ _ 9 _ c.peek.ensures c.stamp_bit.ensures.0 (omega arith) (omega arith) in
    f.0 ∙ sym (stamp_cell-count _ _ _ _ _ _ c.if-q-n.true c.requires)

pub returns : goal.returns
returns c = sym (stamp_cell-none _ _ _ _ _ _ c.if-q-n.false c.requires)
