use Rattle.std.proofs.Common.{refl, sym, ◌∙◌, ◌+◌, ◌*◌, ◌<◌, length, arith}
use Rattle.put.specs.Put.{put_at}
use Rattle.put.proofs.PutLaws.{can_hold-fits, put_step, put_done, put_none, put_some}
use Rattle.put.proofs.put.Goals as goal

pub returns-then-not-can_hold : goal.returns-then-not-can_hold
returns-then-not-can_hold c = put_none _ _ _ _ (rw c.from-w.ensures at (sym c.can_hold.ensures ∙ c.if-not-can_hold.true))

pub loop-i-init : goal.loop-i-init
unfolding put_at
loop-i-init c = refl

pub overflow_shr-w : goal.overflow_shr-w
overflow_shr-w c = omega (arith, (can_hold-fits _ _ _ _ (sym c.can_hold.ensures ∙ c.if-not-can_hold.false)).1)

pub put_bit-requires : goal.put_bit-requires
put_bit-requires c =
    let (_, h₂, h₃, _) = can_hold-fits _ _ _ _ (sym c.can_hold.ensures ∙ c.if-not-can_hold.false) in
    let l : c.args.at + c.loop-i.i < 8 * length c.loop-i.s = omega arith in
    (omega arith, l, omega arith)

pub loop-i-preserved : goal.loop-i-preserved
loop-i-preserved c = put_step _ _ _ _ _ _ _ c.loop-i-test.true c.loop-i.invariant c.put_bit.ensures

pub returns : goal.returns
returns c =
    put_some _ _ _ _ _
    (rw c.from-w.ensures at (sym c.can_hold.ensures ∙ c.if-not-can_hold.false))
    (rw c.from-w.ensures at c.loop-i.invariant ∙ put_done _ _ _ _ _ c.loop-i.auto.i-end c.loop-i-test.false)
