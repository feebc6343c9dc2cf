use mathlib.Core.Path.{◌∙◌}
use borrow.Author.Tests.{eq-eqb, ne_eqb}
use Rattle.std.proofs.Common.{rules}
use Rattle.cuts.specs.Below.{every}
use Rattle.cuts.proofs.BelowLaws.{every_more}
use Rattle.faults.proofs.FaultLaws.{place_right-is, stamp_fault-wrong}
use Rattle.faults.proofs.Tables.stamp_fault.Goals as goal

pub loop-q-init : goal.loop-q-init
unfolding every
loop-q-init c = search rules

pub returns-then-place-max : goal.returns-then-place-max
returns-then-place-max c =
    stamp_fault-wrong _ _ _ _ _ _ _ _ c.loop-q-test.true
    (place_right-is _ _ _ _ _ _ _ _ _ _ _ _ c.place.ensures.0 c.place-before.ensures.0 c.place-sent.ensures.0 c.max.ensures c.from.ensures ∙ ne_eqb _ _ c.if-place-max.true)

pub loop-q-preserved : goal.loop-q-preserved
loop-q-preserved c =
    let i = c.loop-q.invariant in (
      i.0,
      i.1,
      every_more _ _ i.2
          (place_right-is _ _ _ _ _ _ _ _ _ _ _ _ c.place.ensures.0 c.place-before.ensures.0 c.place-sent.ensures.0 c.max.ensures c.from.ensures ∙ eq-eqb _ _ c.if-place-max.false),
    )
