-- What the checks refuse changes nothing; what they accept is packed into the front of the room.
use Rattle.std.proofs.Common.{◌≡◌, Err, sym, arith, rules}
use Rattle.refusal.specs.Refusal.{whole}
use Rattle.writer.specs.Write.{handed}
use Rattle.writer.proofs.CheckedGiven.{Whole, whole_says, few_records, refused_before, refused_scanned, refused_room, all_fine}
use Rattle.writer.proofs.WriteRight.{wrote_done, wrote_refused}
use Rattle.writer.proofs.Given.write.Goals.{In_ok-check_lists}
use Rattle.writer.proofs.Given.write.Goals as goal

says : (c : In_ok-check_lists) → Whole (handed c.args.self.now)
says c = whole_says _ (sym c.in_ok-check_lists.ensures.said)

pub returns-in_err-check_lists : goal.returns-in_err-check_lists
returns-in_err-check_lists c =
    let r : c.from_residual.result ≡ Err (whole c.in_err-check_lists.field-0.0) = search rules in
    rw r (wrote_refused _ _ _ _ _ (refused_before _ _ _ _ _ (sym c.in_err-check_lists.ensures.said)))

pub check_records-requires : goal.check_records-requires
check_records-requires c = ((says c).most, few_records _ (says c) c.in_ok-check_lists.ensures.bytes, (says c).records)

pub returns-in_err-check_records : goal.returns-in_err-check_records
returns-in_err-check_records c =
    let r : c.from_residual-in_err-check_records.result ≡ Err c.in_err-check_records.field-0.0 = search rules in
    rw r (wrote_refused _ _ _ _ _ (refused_scanned _ _ _ _ (sym c.in_ok-check_lists.ensures.said) _ (sym (c.in_err-check_records.ensures))))

pub invariant_of-packing : goal.invariant_of-packing
invariant_of-packing c =
    let w = says (goal.at.invariant_of-packing c).In_ok-check_lists in
    record { records = w.records; few = omega (arith, few_records _ w c.in_ok-check_lists.ensures.bytes) }

pub returns-then-room-bytes : goal.returns-then-room-bytes
returns-then-room-bytes c =
    rw c.from.ensures
    (wrote_refused _ _ _ _ _
    (refused_room _ _ _ _ (sym c.in_ok-check_lists.ensures.said) (sym (c.in_ok-check_records.ensures)) _ (rw (c.of_today.ensures.0, c.of_today.ensures.1) at c.needed-bytes.ensures) c.if-room-bytes.true))

pub returns : goal.returns
returns c =
    let needed = rw (c.of_today.ensures.0, c.of_today.ensures.1) at c.needed-bytes.ensures in
    wrote_done _ _ _ _ _ _ (omega arith) (omega arith) (omega arith) c.in_ok-check_lists.ensures.bytes (λ j. omega (arith, (goal.at.returns c).In_ok-check_lists.type_inv.room j))
    (all_fine _ _ _ _ (sym c.in_ok-check_lists.ensures.said) (sym (c.in_ok-check_records.ensures)) _ needed c.if-room-bytes.false)
    (rw (c.of_today.ensures.0, c.of_today.ensures.1) at c.put.ensures) needed
