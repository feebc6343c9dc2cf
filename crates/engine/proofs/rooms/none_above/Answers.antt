use native.Mathlib.Nat.{le_refl}
use native.Mathlib.Omega.{arith}
use Rattle.engine.proofs.RoomLaws.{unasked_none, unasked_more, asked_above, unasked_all}
use Rattle.engine.proofs.rooms.none_above.Goals as goal

pub loop-p-init : goal.loop-p-init
loop-p-init c = rw c.from-p.ensures (le_refl _, unasked_none _ _)

pub returns-then-c-p : goal.returns-then-c-p
returns-then-c-p c = asked_above _ _ _ c.loop-p.invariant.0 c.loop-p-test.true c.if-c-p.true

pub loop-p-preserved : goal.loop-p-preserved
loop-p-preserved c = (omega (arith, c.loop-p.invariant.0), unasked_more _ _ _ c.loop-p.invariant.1 c.if-c-p.false)

pub returns : goal.returns
returns c = unasked_all _ _ _ c.loop-p.invariant.1 c.loop-p-test.false
