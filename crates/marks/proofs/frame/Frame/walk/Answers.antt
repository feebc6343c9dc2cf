use mathlib.Core.Path.{sym, ap, ◌∙◌}
use native.Mathlib.Omega.{arith}
use lib.ListN.{length}
use Rattle.cut.specs.Value.{counts_of}
use Rattle.cuts.proofs.RankLaws.{box_pos}
use Rattle.cut.proofs.ValueLaws.{set_back}
use Rattle.cut.proofs.ValueRight.{events_of-full}
use Rattle.marks.proofs.BackLaws.{walked_start, walked_steps, walked_inside, walked_left, walked_more, walked_done}
use Rattle.marks.proofs.FillLaws.{length-marks_to}
use Rattle.marks.proofs.FlatLaws.{rank_last, walked_none, walked_some}
use Rattle.marks.proofs.frame.Frame.walk.Goals as goal

pub overflow_sub-r : goal.overflow_sub-r
overflow_sub-r c =
    let frame = c.args.self.now in
    omega (arith, frame.sized, box_pos (counts_of frame.task.full))

pub bounds-marks-r : goal.bounds-marks-r
bounds-marks-r c =
    let frame = c.args.self.now in
    omega (arith, frame.sized, box_pos (counts_of frame.task.full), ap length c.requires.0, length-marks_to frame.task frame.size)

pub returns-then-marks-r-ne3 : goal.returns-then-marks-r-ne3
returns-then-marks-r-ne3 c =
    let frame = c.args.self.now in
    walked_none _ _ _ _ (rank_last frame.task.full frame.size frame.sized) c.if-marks-r-ne3.true

pub loop-p-init : goal.loop-p-init
loop-p-init c =
    let frame = c.args.self.now in
    walked_start _ _ _ _ _ _ (rank_last frame.task.full frame.size frame.sized) (c.events-k.ensures ∙ events_of-full _ frame.ready.full) c.if-marks-r-ne3.false

pub first_back-requires : goal.first_back-requires
first_back-requires c =
    let frame = c.args.self.now in
    let loop = c.loop-p in (
      rw frame.strided (walked_steps _ frame.ready _ _ _ _ _ _ loop.invariant),
      omega (arith, (walked_inside _ frame.ready _ _ _ _ _ _ loop.invariant).0, frame.sized, ap length c.requires.0, length-marks_to frame.task frame.size),
    )

pub overflow_sub-k : goal.overflow_sub-k
overflow_sub-k c =
    let frame = c.args.self.now in
    walked_left _ frame.ready _ _ _ _ _ _ c.loop-p.invariant c.in-Some.p (rw frame.strided at (sym c.first_back.ensures.0 ∙ c.in-Some.is))

pub bounds-path-k : goal.bounds-path-k
bounds-path-k c =
    let frame = c.args.self.now in
    let found = rw frame.strided at (sym c.first_back.ensures.0 ∙ c.in-Some.is) in
    omega (arith, (walked_inside _ frame.ready _ _ _ _ _ _ c.loop-p.invariant).1, walked_left _ frame.ready _ _ _ _ _ _ c.loop-p.invariant c.in-Some.p found, c.loop-p.auto.path)

pub loop-p-smaller : goal.loop-p-smaller
loop-p-smaller c =
    let frame = c.args.self.now in
    let found = rw frame.strided at (sym c.first_back.ensures.0 ∙ c.in-Some.is) in
    omega (arith, walked_left _ frame.ready _ _ _ _ _ _ c.loop-p.invariant c.in-Some.p found)

pub loop-p-preserved : goal.loop-p-preserved
loop-p-preserved c =
    let frame = c.args.self.now in
    rw (frame.strided, set_back c.loop-p.counts c.in-Some.p)
    (walked_more _ frame.ready _ _ _ _ _ _ c.loop-p.invariant c.in-Some.p (rw frame.strided at (sym c.first_back.ensures.0 ∙ c.in-Some.is)) (omega (arith, c.loop-p.auto.path)))

pub returns : goal.returns
returns c =
    let frame = c.args.self.now in
    walked_some _ _ _ _ _ (rank_last frame.task.full frame.size frame.sized) c.if-marks-r-ne3.false
    (walked_done _ frame.ready _ _ _ _ _ _ c.loop-p.invariant frame.size frame.sized c.requires.0 (rw frame.strided at (sym c.first_back.ensures.0 ∙ c.in_default.is)))
