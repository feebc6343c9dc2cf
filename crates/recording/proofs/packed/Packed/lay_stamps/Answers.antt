use mathlib.Core.Path.{◌≡◌, ap, ◌∙◌}
use Prim.Native.Nat.{ℕ, ◌+◌, ◌*◌}
use native.Mathlib.Omega.{arith}
use Rattle.cuts.proofs.TabLaws.{tab_none, tab_more, tab_front}
use Rattle.recording.proofs.WholeLaws.{rows_laid}
use Rattle.recording.proofs.packed.Packed.lay_stamps.Goals as goal

pub loop-r-init : goal.loop-r-init
loop-r-init c = tab_none _ _

pub loop-q-preserved : goal.loop-q-preserved
loop-q-preserved c =
    let R = c.loop-r in
    let Q = c.loop-q in
    let e : 8 * R.r + (Q.q + 1) ≡ 8 * R.r + Q.q + 1 = omega arith in
    rw (Q.invariant, c.stamp_count.ensures, c.from.ensures, c.from-in-loop-q.ensures, e) (tab_more (8 * R.r + Q.q) _ _ (omega arith))

pub returns : goal.returns
returns c =
    rows_laid _ _ _ _ _ _ _ (omega arith) c.stations-n.ensures.0 (ap (λ (t : ℕ). 8 * t) c.total-r-end.ensures.0) (c.loop-r.invariant ∙ tab_front _ _ _ _ (omega arith) (omega arith))
