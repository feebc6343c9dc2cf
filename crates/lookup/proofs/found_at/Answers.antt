-- Event 0 has the start level and zeros; the record of any other event stands after those of the stations before and of the events before.
use mathlib.Core.Path.{refl}
use native.Mathlib.Omega.{arith}
use Rattle.recording.proofs.PlaceLaws.{peeked_read, first_at-le}
use Rattle.lookup.proofs.LookupLaws.{start_signed, found_of-start, records_before, record_place, found_of-event}
use Rattle.lookup.proofs.found_at.Goals as goal

pub returns-then-e-eq0 : goal.returns-then-e-eq0
returns-then-e-eq0 c =
    let (ef, hn, hp, he) = c.requires in
    found_of-start _ _ _ _ ef hn _ hp _ _ c.if-e-eq0.true (start_signed _ _ _ _ _ _ _ c.start_bit.ensures.0 c.peek.ensures c.signed.ensures)

pub first-requires : goal.first-requires
first-requires c =
    let (ef, hn, hp, he) = c.requires in
    let F = c.args.form in
    omega (arith, records_before _ _ _ _ ef hn _ hp, first_at-le F.lead F.width c.args.s.now c.args.p (omega (arith, F.bounds)), F.bounds)

pub overflow_add-r : goal.overflow_add-r
overflow_add-r c =
    let (ef, hn, hp, he) = c.requires in
    omega (arith, record_place _ _ _ _ ef hn _ hp (omega (arith, c.args.form.bounds)) _ c.if-e-eq0.false he)

pub overflow_cast-result : goal.overflow_cast-result
overflow_cast-result c = omega (arith, peeked_read _ _ _ _ 4 _ c.peek-2.ensures refl (omega arith) (omega arith))

pub returns : goal.returns
returns c =
    let (ef, hn, hp, he) = c.requires in
    found_of-event _ _ _ _ ef hn _ hp (omega (arith, c.args.form.bounds)) _ c.if-e-eq0.false he _ _ c.first.ensures c.record_bit-b.ensures.0 _ c.level_bit.ensures.0 _ _ _ _ _
    c.peek-2.ensures c.peek-3.ensures c.peek-4.ensures c.signed-2.ensures c.stamp.ensures
