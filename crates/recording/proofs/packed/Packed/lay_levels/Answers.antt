use native.Mathlib.Omega.{arith}
use Rattle.cuts.proofs.TabLaws.{tab_none, tab_more}
use Rattle.recording.proofs.DecodeLaws.{level_read}
use Rattle.recording.proofs.packed.Packed.lay_levels.Goals as goal

pub loop-r-init : goal.loop-r-init
loop-r-init c = tab_none _ _

pub loop-r-preserved : goal.loop-r-preserved
loop-r-preserved c =
    let L = c.loop-r in
    rw (L.invariant, level_read _ _ _ _ _ _ _ _ c.level_bit-at.ensures.0 c.peek.ensures c.excess.ensures) (tab_more L.r _ _ (omega arith))
