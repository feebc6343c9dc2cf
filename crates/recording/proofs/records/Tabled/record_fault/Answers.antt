-- The record stands where its station's records begin, and e records on; its origin and number there, with the tables, give its fault.
use mathlib.Core.Path.{refl, ap}
use native.Mathlib.Omega.{arith}
use Rattle.cuts.specs.Cut.{at}
use Rattle.recording.proofs.FaultRight.{record_small, record_right}
use Rattle.recording.proofs.PlaceLaws.{peeked_read}
use Rattle.recording.proofs.records.Tabled.record_fault.Goals as goal

pub overflow_add-r : goal.overflow_add-r
overflow_add-r c =
    let S = c.args.self.now in
    omega (arith, c.from-e.ensures, ap (at S.tables.firsts) c.from-p.ensures, record_small S.laid c.args.p c.args.e (omega arith) (omega arith) (omega arith))

pub overflow_cast-r : goal.overflow_cast-r
overflow_cast-r c =
    let S = c.args.self.now in
    omega (arith, c.from-e.ensures, ap (at S.tables.firsts) c.from-p.ensures, record_small S.laid c.args.p c.args.e (omega arith) (omega arith) (omega arith))

pub overflow_cast-o : goal.overflow_cast-o
overflow_cast-o c = omega (arith, (peeked_read _ _ _ 4 4 _ c.peek-o.ensures refl (omega arith) (omega arith)).1)

pub returns : goal.returns
returns c =
    let S = c.args.self.now in
    record_right S.laid c.args.p c.args.e (omega arith) (omega arith) (omega arith) _ _ c.peek-k.result _ (rw (c.from-p.ensures, c.from-e.ensures) at c.record_bit-start.ensures.0)
    c.peek-o.ensures c.peek-k.ensures (rw (c.from.ensures, c.from-p.ensures, c.from-e.ensures) at c.message_fault.ensures)
