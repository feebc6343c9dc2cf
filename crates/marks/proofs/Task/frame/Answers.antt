-- The size is that of a box with a cut, so of a full cut; the tests together say whether the box can be settled.
use Rattle.std.proofs.Common.{◌∙◌, sym, arith, rules}
use Rattle.std.proofs.lemmas.Grind.{common_steps}
use mathlib.Core.Bool.{false≢true}
use Rattle.cut.proofs.ValueRight.{events_of-full}
use Rattle.marks.proofs.FlatLaws.{full_sized, settled_size, not_settleable, settleable_is, tests_passed, ready_of}
use Rattle.marks.proofs.Task.frame.Goals.{else-size-marks-via-then-size-marks+then-events-path+else-covered, else-size-marks-via-then-size-marks+else-events-path, else-size-marks-via-else-size-marks}
use Rattle.marks.proofs.Task.frame.Goals as goal

pub returns-then-not-contains : goal.returns-then-not-contains
returns-then-not-contains c =
    not_settleable _ _ _ _ _ _ (λ f. let (e, some, limit) = settled_size _ _ _ _ _ _ _ c.box_of-size.ensures f in grind (arith, common_steps))

pub covered-requires : goal.covered-requires
covered-requires c = (full_sized _ c.box_of-size.result c.box_of-size.ensures (grind (arith, common_steps))).most_eight

pub new-requires-then-covered : goal.new-requires-then-covered
new-requires-then-covered c =
    let (f, e) = tests_passed _ _ _ _ _ c.args.path _ c.box_of-size.ensures _ (grind (arith, common_steps)) (grind (arith, common_steps)) c.if-size-marks.true c.events.ensures c.if-events-path.true (sym c.covered.ensures ∙ c.if-covered.true) in
    (ready_of c.args.self _ _ f (search rules) (search rules), e)

pub returns-then-covered : goal.returns-then-covered
returns-then-covered c =
    let (f, e) = tests_passed _ _ _ _ _ c.args.path _ c.box_of-size.ensures _ (grind (arith, common_steps)) (grind (arith, common_steps)) c.if-size-marks.true c.events.ensures c.if-events-path.true (sym c.covered.ensures ∙ c.if-covered.true) in
    ((settleable_is _ _ _ _ _ _).1 f, c.new-then-covered.ensures)

pub returns : goal.returns
returns c =
    not_settleable _ _ _ _ _ _
    (λ f.
    let e = (settled_size _ _ _ _ _ _ _ c.box_of-size.ensures f).0 in
    elim c.else-size-marks.branch [
      | else-size-marks-via-then-size-marks+then-events-path+else-covered w ↦ false≢true (sym w.if-covered.false ∙ w.covered.ensures ∙ f.there)
      | else-size-marks-via-then-size-marks+else-events-path w ↦ omega (arith, w.if-events-path.false, w.events.ensures, events_of-full _ f.full, f.way)
      | else-size-marks-via-else-size-marks w ↦ omega (arith, w.if-size-marks.false, e, f.fits)
    ])
