use mathlib.Core.Path.{sym, ◌∙◌}
use native.Mathlib.Omega.{arith}
use Rattle.marks.proofs.SearchLaws.{none_joined}
use Rattle.marks.proofs.frame.passed_over.Goals as goal

pub loop-i-preserved : goal.loop-i-preserved
loop-i-preserved c = none_joined c.args.marks.now c.loop-i.i (omega arith) c.loop-i.invariant (sym c.contains.ensures.value ∙ c.if-contains.false)
