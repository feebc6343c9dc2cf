use mathlib.Core.Path.{◌∙◌}
use Prim.Native.Nat.{◌+◌}
use native.Mathlib.Omega.{arith}
use borrow.Author.Tests.{lt-ltb, le-ltb}
use lib.ListN.{length}
use Rattle.marks.proofs.FlatLaws.{row_there-is}
use Rattle.marks.proofs.Task.has_row.Goals as goal

pub returns-then-row-self : goal.returns-then-row-self
returns-then-row-self c =
    let task = c.args.self.now in
    let row = c.saturating_add-row in
    rw (lt-ltb _ _ c.if-row-self.true) at (row_there-is (length task.needs.now) (length task.weights.now) (c.args.base + c.args.e) row.result (omega (arith, row.ensures, c.from.ensures)) (omega arith))

pub returns-else-row-self : goal.returns-else-row-self
returns-else-row-self c =
    let task = c.args.self.now in
    let row = c.saturating_add-row in
    let short = le-ltb _ _ c.if-row-self.false in
    short ∙ rw short at (row_there-is (length task.needs.now) (length task.weights.now) (c.args.base + c.args.e) row.result (omega (arith, row.ensures, c.from.ensures)) (omega arith))
