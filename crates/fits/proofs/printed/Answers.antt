-- The room is as long as any text can be, so the whole text is taken.
use Rattle.std.proofs.Common.{arith}
use Rattle.fits.proofs.RoomLaws.{text_put, taken_whole}
use Rattle.fits.proofs.TextFits.{text_fits}
use Rattle.fits.proofs.printed.Goals as goal

pub unwrap-requires : goal.unwrap-requires
unwrap-requires c = text_put _ _ _ (omega (arith, text_fits c.args.job.now)) _ c.answer.ensures

pub returns-clause-value : goal.returns-clause-value
returns-clause-value c = (taken_whole _ _ _ (omega (arith, text_fits c.args.job.now)) _ (rw c.unwrap.ensures at c.answer.ensures)).0

pub returns-clause-prefix_len : goal.returns-clause-prefix_len
returns-clause-prefix_len c = (taken_whole _ _ _ (omega (arith, text_fits c.args.job.now)) _ (rw c.unwrap.ensures at c.answer.ensures)).1
