-- The room is one byte longer than any text can be, so the whole text is taken and the newline has its place.
use Rattle.std.proofs.Common.{take, arith}
use Rattle.fits.proofs.RoomLaws.{text_put}
use Rattle.fits.proofs.TextFits.{text_fits}
use Rattle.batch.proofs.StreamLaws.{newline_place, long_after, newline_put}
use Rattle.batch.proofs.printed.Goals as goal

pub unwrap-k-requires : goal.unwrap-k-requires
unwrap-k-requires c = text_put _ _ _ (omega (arith, text_fits (take c.min.result c.args.job.now))) _ c.answer.ensures

pub bounds-room-k : goal.bounds-room-k
bounds-room-k c =
    let put = rw c.unwrap-k.ensures at c.answer.ensures in
    omega (arith, newline_place _ _ _ _ _ _ c.min.ensures (omega arith) put, long_after _ _ _ _ _ _ c.min.ensures (omega arith) put)

pub overflow_add-result : goal.overflow_add-result
overflow_add-result c =
    let put = rw c.unwrap-k.ensures at c.answer.ensures in
    omega (arith, newline_place _ _ _ _ _ _ c.min.ensures (omega arith) put, long_after _ _ _ _ _ _ c.min.ensures (omega arith) put)

pub returns-clause-room_after : goal.returns-clause-room_after
returns-clause-room_after c = (newline_put _ _ _ _ _ _ c.min.ensures (omega arith) (rw c.unwrap-k.ensures at c.answer.ensures)).0

pub returns-clause-prefix_len : goal.returns-clause-prefix_len
returns-clause-prefix_len c = (newline_put _ _ _ _ _ _ c.min.ensures (omega arith) (rw c.unwrap-k.ensures at c.answer.ensures)).1
