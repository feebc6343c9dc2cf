-- Each test decides one of the three questions that make the mark.
use Rattle.std.proofs.Common.{◌≡◌, ◌∙◌, ◌+◌, true, false, sym, rules}
use Rattle.marks.specs.Flat.{between}
use Rattle.marks.proofs.MarkLaws.{mark_unmet, mark_holds, mark_rest}
use Rattle.marks.proofs.frame.Frame.mark.Goals as goal

pub returns-then-not-row_met : goal.returns-then-not-row_met
returns-then-not-row_met c = mark_unmet _ _ _ _ _ _ (sym c.row_met.ensures ∙ c.if-not-row_met.true)

pub returns-then-contains : goal.returns-then-contains
unfolding between
returns-then-contains c =
    let task = c.args.self.now.task in
    let passes : between task.least task.most (c.args.sum + c.from.result) ≡ true = search rules in
    mark_holds _ _ _ _ _ _ (sym c.row_met.ensures ∙ c.if-not-row_met.false) (rw c.from.ensures at passes)

pub returns : goal.returns
unfolding between
returns c =
    let frame = c.args.self.now in
    let met = sym c.row_met.ensures ∙ c.if-not-row_met.false in
    let fails : between frame.task.least frame.task.most (c.args.sum + c.from.result) ≡ false = search rules in
    rw (c.from-2.ensures, c.is_some.ensures) (mark_rest _ _ _ _ _ _ met (rw c.from.ensures at fails) _ (rw frame.strided at c.first_back.ensures.0))
