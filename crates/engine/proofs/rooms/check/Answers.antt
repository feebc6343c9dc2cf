-- Each way out is one law of the first test that fails.
use mathlib.Core.Path.{sym, ◌∙◌}
use Rattle.engine.proofs.RoomLaws.{room_9, room_10, room_11, room_12, room_0}
use Rattle.engine.proofs.rooms.check.Goals as goal

pub returns-then-not-none_above : goal.returns-then-not-none_above
returns-then-not-none_above c = room_9 _ _ _ _ _ _ (sym c.none_above.ensures ∙ c.if-not-none_above.true)

pub returns-then-b-gt65536 : goal.returns-then-b-gt65536
returns-then-b-gt65536 c =
    room_10 _ _ _ _ _ _ (sym c.none_above.ensures ∙ c.if-not-none_above.false) (rw c.box_of-b.ensures at c.if-b-gt65536.true)

pub returns-then-marks-b : goal.returns-then-marks-b
returns-then-marks-b c =
    room_11 _ _ _ _ _ _ (sym c.none_above.ensures ∙ c.if-not-none_above.false) (rw c.box_of-b.ensures at c.if-b-gt65536.false) (rw c.box_of-b.ensures at c.if-marks-b.true)

pub returns-then-path-events : goal.returns-then-path-events
returns-then-path-events c =
    room_12 _ _ _ _ _ _ (sym c.none_above.ensures ∙ c.if-not-none_above.false) (rw c.box_of-b.ensures at c.if-b-gt65536.false) (rw c.box_of-b.ensures at c.if-marks-b.false) (rw c.events.ensures at c.if-path-events.true)

pub returns : goal.returns
returns c =
    room_0 _ _ _ _ _ _ (sym c.none_above.ensures ∙ c.if-not-none_above.false) (rw c.box_of-b.ensures at c.if-b-gt65536.false) (rw c.box_of-b.ensures at c.if-marks-b.false) (rw c.events.ensures at c.if-path-events.false)
