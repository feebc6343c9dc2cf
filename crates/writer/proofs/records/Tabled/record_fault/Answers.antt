-- The record stands where its station's records begin, and e records on; what the lists have there, with the tables, gives its fault.
use mathlib.Core.Path.{ap, ◌∙◌}
use Prim.Native.Nat.{◌+◌}
use Rattle.cuts.specs.Cut.{at}
use Rattle.writer.proofs.WriterLaws.{held_signed}
use Rattle.writer.proofs.GivenRight.{record_right}
use Rattle.writer.proofs.records.Tabled.record_fault.Goals as goal

pub returns : goal.returns
returns c =
    let S = c.args.self.now in
    let e = c.from-p.ensures in
    rw (c.message_fault-fault.ensures, c.from.ensures, e, c.from-e.ensures, held_signed _ c.item.type_inv) at c.with_level.ensures
    ∙ record_right S.laid c.args.p c.args.e _ _ _ _ c.requires.0 c.requires.1 (ap (λ i. at S.tables.firsts c.args.p + i) c.from-e.ensures) (rw e at c.item-origin.ensures) (rw e at c.item-number.ensures)
    (rw e at c.item.ensures)
