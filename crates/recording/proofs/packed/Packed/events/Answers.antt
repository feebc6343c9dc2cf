-- Below n it is the field of a count's bits at the station's first bit, so below 512, and beyond n none.
use mathlib.Core.Path.{sym, ◌∙◌}
use native.Mathlib.Omega.{arith}
use Rattle.recording.specs.Form.{m_at}
use Rattle.recording.proofs.PlaceLaws.{peeked_read}
use Rattle.recording.proofs.DecodeLaws.{events_at-in, events_at-beyond}
use Rattle.recording.proofs.packed.Packed.events.Goals as goal

pub returns-then-p-n : goal.returns-then-p-n
unfolding m_at
returns-then-p-n c =
    let f = peeked_read _ _ _ _ 9 _ c.peek.ensures c.station_bit.ensures.0 (omega arith) (omega arith) in
    (f.0 ∙ sym (events_at-in _ _ _ _ _ c.if-p-n.true), f.1)

pub returns : goal.returns
returns c = (sym (events_at-beyond _ _ _ _ _ c.if-p-n.false), omega arith)
