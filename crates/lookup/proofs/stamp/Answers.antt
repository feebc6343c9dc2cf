use mathlib.Core.Path.{sym, ◌∙◌}
use native.Mathlib.Omega.{arith}
use Rattle.cuts.proofs.TabLaws.{tab_none, tab_more}
use Rattle.recording.proofs.PlaceLaws.{peeked_read}
use Rattle.lookup.proofs.LookupLaws.{counted_in, stamp_whole}
use Rattle.lookup.proofs.stamp.Goals as goal

pub loop-q-init : goal.loop-q-init
loop-q-init c = tab_none _ _

pub loop-q-preserved : goal.loop-q-preserved
loop-q-preserved c =
    let S = c.args in
    let L = c.loop-q in
    let f = (peeked_read _ _ _ _ 9 _ c.peek.ensures c.stamp_bit.ensures.0 (omega arith) (omega arith)).0 ∙ sym (counted_in S.form.width S.s.now S.n _ L.q (omega arith)) in
    rw (L.invariant, f, c.from.ensures) (tab_more L.q _ _ (omega arith))

pub returns : goal.returns
returns c = c.loop-q.invariant ∙ stamp_whole _ _ _ _ _ (omega arith) (omega arith)
