-- Where the box can be settled all is done by the frame, and else nothing.
use Rattle.marks.proofs.FlatLaws.{rooms_suffice, settles_some}
use Rattle.marks.proofs.Task.settle.Goals as goal

pub settle-requires : goal.settle-requires
settle-requires c =
    let frame = c.in_ok-frame.frame in
    rooms_suffice c.args.self c.args.marks.now c.args.path.now frame.task c.in_ok-frame.ensures.1 c.in_ok-frame.ensures.0 frame.size frame.sized

pub returns : goal.returns
returns c =
    let frame = c.in_ok-frame.frame in
    let said = c.settle.ensures in
    settles_some _ _ _ frame.task c.in_ok-frame.ensures.1 c.in_ok-frame.ensures.0 frame.size frame.sized _ _ _ said.0 said.1 said.2
