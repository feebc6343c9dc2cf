-- The rank is its row times the width and its place in the row, and the row's last cut has the other counts.
use mathlib.Core.Path.{refl}
use Rattle.marks.specs.Rows.{cut_at}
use Rattle.marks.proofs.RowLaws.{set-top_at-rank}
use Rattle.marks.proofs.frame.Frame.cut_of.Goals as goal

pub returns : goal.returns
unfolding cut_at
returns c =
    let frame = c.args.self.now in
    rw (c.lay_top.ensures, c.width-width.ensures, set-top_at-rank frame.task.full frame.ready.full frame.ready.rows.eight c.args.r _ refl) refl
