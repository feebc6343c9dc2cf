use mathlib.Core.Path.{◌≡◌, sym, ap, ◌∙◌}
use Prim.Native.Nat.{◌+◌, ◌≤◌, min}
use lib.ListN.{length, length-set}
use native.Mathlib.Omega.{arith}
use lib.Seq.{set-get_or, get_or-set_same}
use Rattle.cuts.specs.Cut.{at}
use Rattle.marks.proofs.MarkLaws.{set_first, row_marks-start, row_marks-more}
use Rattle.marks.proofs.FillLaws.{rows_there, row_steps, row_short, row_inside}
use Rattle.marks.proofs.frame.Frame.fill_row.Goals as goal

pub others-requires : goal.others-requires
others-requires c = rows_there _ c.args.self.now.ready _ _ c.requires.0

-- where the others are not met the row stays blank
pub returns-in_default : goal.returns-in_default
returns-in_default c =
    let ready = c.args.self.now.ready in
    let width = at c.args.self.now.task.full.counts 0 + 1 in
    let e : min 65536 width ≡ width = omega (arith, row_short _ ready _ _ c.requires.0) in
    let unmet = sym c.others.ensures.0 ∙ c.in_default.is in
    let start = row_marks-start c.args.self.now.task (record { low = 65536; sum = 0 }) c.args.counts.now c.args.first c.args.marks.now width (omega (arith, row_inside _ ready _ _ c.requires.0, c.args.self.now.sized)) c.requires.2 in
    (rw unmet (rw e at start), sym (set-get_or c.args.counts.now 0 0))

pub loop-x-init : goal.loop-x-init
loop-x-init c = (
  sym (set-get_or c.args.counts.now 0 0),
  row_marks-start _ _ _ _ _ _ (omega (arith, row_inside _ c.args.self.now.ready _ _ c.requires.0, c.args.self.now.sized)) c.requires.2,
)

pub mark-requires : goal.mark-requires
mark-requires c =
    let frame = c.args.self.now in
    let loop = c.loop-x in
    let here : loop.x ≤ at frame.task.full.counts 0 = omega arith in (
      rw c.in-Some.is at c.others.ensures.1,
      here,
      rw (frame.strided, set_first loop.counts c.args.counts.now loop.x loop.invariant.0) (row_steps _ frame.ready _ _ c.requires.0 loop.x here),
      omega (arith, row_inside _ frame.ready _ _ c.requires.0, frame.sized, loop.auto.marks),
    )

pub loop-x-preserved : goal.loop-x-preserved
loop-x-preserved c =
    let frame = c.args.self.now in
    let loop = c.loop-x in
    let width = at frame.task.full.counts 0 + 1 in
    let here : loop.x ≤ at frame.task.full.counts 0 = omega arith in
    let same = set_first loop.counts c.args.counts.now loop.x loop.invariant.0 in
    let eight : length loop.counts ≡ 8 = ap length loop.invariant.0 ∙ length-set _ _ _ ∙ c.told-counts in
    let new = get_or-set_same loop.counts 0 loop.x 0 (omega arith) in
    let before : min loop.x width ≡ loop.x = omega arith in
    let after : min (loop.x + 1) width ≡ loop.x + 1 = omega arith in (
      rw new same,
      rw (c.mark.ensures, same, after)
          (row_marks-more _ _ _ _ c.args.marks.now _ _ (rw before at loop.invariant.1) loop.auto.x
          (omega (arith, row_inside _ frame.ready _ _ c.requires.0, frame.sized))
          (row_steps _ frame.ready _ _ c.requires.0 loop.x here)),
    )
