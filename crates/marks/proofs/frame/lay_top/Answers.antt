use mathlib.Core.Path.{◌≡◌, sym, ◌∙◌}
use Prim.Native.Nat.{◌-◌}
use native.Mathlib.Nat.{div-one}
use native.Mathlib.Omega.{arith}
use lib.ListN.{length-set}
use Rattle.cuts.specs.Below.{product_to}
use Rattle.cuts.specs.Rank.{weight}
use Rattle.cut.proofs.ValueLaws.{eight_counts}
use Rattle.marks.proofs.RowLaws.{top_one, top_next, top_at-laid}
use Rattle.marks.proofs.frame.lay_top.Goals as goal

pub loop-p-init : goal.loop-p-init
unfolding weight product_to
loop-p-init c = (sym (div-one _), top_one c.args.full.counts c.args.counts.now c.args.j (omega (arith, c.told-counts)))

pub loop-p-preserved : goal.loop-p-preserved
loop-p-preserved c =
    let loop = c.loop-p in
    top_next c.args.full.counts _ loop.counts c.args.j (loop.p - 1) loop.p loop.left _ (omega arith) (simp length-set c.told-counts)
    (omega (arith, c.requires.0.most_eight)) loop.invariant.0 c.from-k.ensures loop.invariant.1

pub returns : goal.returns
returns c =
    let loop = c.loop-p in
    let e : loop.p ≡ c.args.full.n = omega (arith, c.requires.0.some_station) in
    rw e at loop.invariant.1 ∙ top_at-laid c.args.full c.requires.0 (eight_counts c.args.full _ c.well_formed.0) _ _ _ c.requires.1
