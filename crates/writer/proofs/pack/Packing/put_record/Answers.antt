-- The origin is put, the number and the level behind it as a pair, and the counts behind them.
use mathlib.Core.Path.{◌≡◌, ap, ◌∙◌}
use Prim.Native.Nat.{◌+◌, ◌*◌}
use native.Mathlib.Omega.{arith}
use native.Mathlib.Nat.{le_antisymm}
use Rattle.writer.specs.Write.{handed}
use Rattle.writer.specs.Tables.{level_put}
use Rattle.writer.proofs.WriterLaws.{held_signed}
use Rattle.writer.proofs.PackLaws.{turns_none, count_more, record_is}
use Rattle.writer.proofs.pack.Packing.put_record.Goals as goal

pub loop-q-init : goal.loop-q-init
loop-q-init c = turns_none _ _

pub loop-q-preserved : goal.loop-q-preserved
loop-q-preserved c =
    let w = c.args.self.now.form.width in
    let place : c.stamp_bit.result ≡ c.record_bit-bit.result + 16 + w + w * c.loop-q.q = omega (arith, c.stamp_bit.ensures.0, c.record_bit-bit.ensures.0) in
    rw place at c.put-in-loop-q.ensures.bytes ∙ count_more _ _ _ _ _ _ _ (rw c.from-in-loop-q.ensures at c.item-count.ensures) c.loop-q.invariant

pub returns : goal.returns
returns c =
    let e = c.from-place.ensures in
    record_is _ _ (handed c.args.self.now.given) c.args.r _ _ _ _ _ _ _ _ c.record_bit-bit.ensures.0 (c.from.ensures ∙ rw e at c.item.ensures) (rw e at c.item-number.ensures)
    (ap level_put (held_signed _ c.item-level.type_inv ∙ rw e at c.item-level.ensures)) c.put.ensures.bytes c.put_pair.ensures
    (rw (le_antisymm c.loop-q.auto.q-end c.loop-q-test.false, c.from-n.ensures, e) at c.loop-q.invariant)
