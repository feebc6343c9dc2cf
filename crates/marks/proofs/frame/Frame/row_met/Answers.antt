use mathlib.Core.Path.{◌≡◌, refl, ◌∙◌}
use native.Mathlib.Omega.{arith}
use Rattle.cuts.specs.Below.{every}
use Rattle.marks.specs.Flat.{row_met}
use Rattle.marks.proofs.SearchLaws.{every_next, every_masked}
use Rattle.marks.proofs.frame.Frame.row_met.Goals as goal

pub loop-q-init : goal.loop-q-init
unfolding every
loop-q-init c = refl

pub loop-q-preserved : goal.loop-q-preserved
loop-q-preserved c = rw c.from-place.ensures (every_next _ _ _ _ c.loop-q.invariant refl)

pub returns : goal.returns
unfolding row_met
returns c =
    let frame = c.args.self.now in
    let all : c.loop-q.q ≡ 8 = omega arith in
    rw all at c.loop-q.invariant ∙ every_masked frame.task.full.n 8 _ frame.ready.rows.most
