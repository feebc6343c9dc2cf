-- Below n it is the excess number of the field of 12 bits after the station's count, and beyond n 0.
use mathlib.Core.Path.{sym, ap, ◌∙◌}
use native.Mathlib.Omega.{arith}
use Rattle.levels.specs.Level.{excess_of}
use Rattle.recording.proofs.PlaceLaws.{peeked_read}
use Rattle.recording.proofs.DecodeLaws.{start_cell-in, start_cell-beyond}
use Rattle.recording.proofs.packed.Packed.start.Goals as goal

pub returns-then-p-n : goal.returns-then-p-n
returns-then-p-n c =
    let f = peeked_read _ _ _ 12 12 _ c.peek.ensures c.start_bit.ensures.0 (omega arith) (omega arith) in
    c.excess.ensures ∙ ap excess_of f.0 ∙ sym (start_cell-in _ _ _ _ _ c.if-p-n.true)

pub returns : goal.returns
returns c = sym (start_cell-beyond _ _ _ _ _ c.if-p-n.false)
