use mathlib.Core.Path.{◌≡◌, refl}
use Prim.Native.Nat.{◌+◌}
use native.Mathlib.Omega.{arith}
use lib.ListN.{replicate}
use Rattle.cuts.specs.Below.{tab, product_to}
use Rattle.cuts.specs.Rank.{weight}
use Rattle.cuts.proofs.TabLaws.{tab_more}
use Rattle.cut.proofs.ValueLaws.{eight_counts, weight_le}
use Rattle.cut.proofs.ValueRight.{box_loop}
use Rattle.marks.specs.Rows.{strides_of}
use Rattle.marks.proofs.RowLaws.{weight_next}
use Rattle.marks.proofs.frame.strides_of.Goals as goal

pub loop-p-init : goal.loop-p-init
unfolding tab weight product_to
loop-p-init c = (refl, refl)

-- no weight is above the box
pub overflow_mul-w : goal.overflow_mul-w
overflow_mul-w c =
    let loop = c.loop-p in
    let box = box_loop _ c.requires.0 (eight_counts c.args.full _ c.well_formed.0) in
    let next = weight_next c.args.full.counts loop.p loop.w _ loop.invariant.0 c.from.ensures in
    omega (arith, next, weight_le c.args.full.counts (loop.p + 1) c.args.full.n (omega arith), box)

pub loop-p-preserved : goal.loop-p-preserved
loop-p-preserved c =
    let loop = c.loop-p in (
      weight_next _ _ _ _ loop.invariant.0 c.from.ensures,
      rw (loop.invariant.0, loop.invariant.1) (tab_more _ (weight c.args.full.counts) (replicate 8 0) (omega (arith, c.requires.0.most_eight))),
    )

pub returns : goal.returns
unfolding strides_of
returns c =
    let loop = c.loop-p in
    let e : loop.p ≡ c.args.full.n = omega arith in
    rw e at loop.invariant.1
