-- The first rank marked 1 is below the box, and its cut is the witness, or there is none.
use mathlib.Core.Path.{sym, ◌∙◌}
use Rattle.marks.proofs.FlatLaws.{witness_none, witness_some}
use Rattle.marks.proofs.frame.Frame.witness.Goals as goal

pub returns-in_err-r : goal.returns-in_err-r
returns-in_err-r c =
    let whole = c.requires ∙ c.args.self.now.sized in
    c.from_residual.ensures ∙ witness_none _ _ (rw whole at (sym c.first_one.ensures ∙ c.in_err-r.was))

pub cut_of-requires : goal.cut_of-requires
cut_of-requires c =
    let whole = c.requires ∙ c.args.self.now.sized in
    rw c.args.self.now.sized ((witness_some _ _ _ (rw whole at (sym c.first_one.ensures ∙ c.in_ok-r.was))).0)

pub returns : goal.returns
returns c =
    let whole = c.requires ∙ c.args.self.now.sized in
    rw c.cut_of.ensures ((witness_some _ _ _ (rw whole at (sym c.first_one.ensures ∙ c.in_ok-r.was))).1)
