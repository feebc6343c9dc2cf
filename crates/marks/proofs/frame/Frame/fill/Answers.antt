use mathlib.Core.Path.{◌≡◌, refl, ◌∙◌}
use mathlib.Core.List.{append-nil}
use Prim.Native.Nat.{ℕ, ◌+◌, ◌*◌, ◌/◌}
use native.Mathlib.Omega.{arith}
use lib.ListN.{replicate, length-replicate}
use Rattle.std.proofs.lemmas.List.{drop_all}
use Rattle.cuts.specs.Cut.{at}
use Rattle.cuts.specs.Computed.{tabled}
use Rattle.marks.specs.Rows.{marks_to}
use Rattle.marks.proofs.RowLaws.{row_at-here, rows_inside, rows_whole, top_at-kept}
use Rattle.marks.proofs.FillLaws.{blank_behind, row_marked}
use Rattle.marks.proofs.frame.Frame.fill.Goals as goal

pub loop-j-init : goal.loop-j-init
unfolding marks_to tabled
loop-j-init c =
    let none : 0 * c.width-width.result ≡ 0 = omega arith in
    (rw none (rw c.requires at (c.fill.ensures.after (λ y e. e))), refl)

pub fill_row-requires : goal.fill_row-requires
fill_row-requires c =
    let frame = c.args.self.now in
    let loop = c.loop-j in
    let inside = rows_inside loop.j (at frame.task.full.counts 0) frame.size (rw c.width-width.ensures at c.loop-j-test.true) in (
      rw (c.lay_top.ensures, c.width-width.ensures)
          (row_at-here frame.task.full frame.ready.full frame.ready.rows.eight (at frame.task.full.counts 0) loop.j _ refl (omega arith) (omega (arith, inside, frame.sized))),
      loop.auto.marks ∙ c.fill.ensures.len ∙ c.requires,
      rw (loop.invariant.0, c.width-width.ensures) (blank_behind frame.task frame.size _ _ inside),
    )

pub loop-j-preserved : goal.loop-j-preserved
loop-j-preserved c =
    let frame = c.args.self.now in
    let loop = c.loop-j in
    let width = at frame.task.full.counts 0 + 1 in
    let inside = rows_inside loop.j (at frame.task.full.counts 0) frame.size (rw c.width-width.ensures at c.loop-j-test.true) in
    let row = row_at-here frame.task.full frame.ready.full frame.ready.rows.eight (at frame.task.full.counts 0) loop.j (loop.j * width) refl (omega arith) (omega (arith, inside, frame.sized)) in
    let next : (loop.j + 1) * width ≡ loop.j * width + width = omega arith in (
      rw (c.width-width.ensures, next)
          (row_marked frame.task frame.ready _ _ row frame.size _ _ (rw c.width-width.ensures at loop.invariant.0)
          (rw (c.lay_top.ensures, c.width-width.ensures) at c.fill_row.ensures.0)),
      (top_at-kept frame.task.full frame.ready.full frame.ready.rows.eight _ _ _ _ c.lay_top.ensures c.fill_row.ensures.1).1,
    )

pub returns : goal.returns
returns c =
    let frame = c.args.self.now in
    let loop = c.loop-j in
    let width = at frame.task.full.counts 0 + 1 in
    let last : loop.j ≡ frame.size / c.width-width.result = omega arith in
    let whole : frame.size / width * width ≡ frame.size = rw frame.sized (rows_whole frame.task.full frame.ready.full frame.ready.rows.eight) in
    rw (last, c.width-width.ensures, whole, drop_all {X = ℕ} frame.size (replicate frame.size 0) (omega (arith, length-replicate {A = ℕ} frame.size 0)), append-nil (marks_to frame.task frame.size)) at loop.invariant.0
