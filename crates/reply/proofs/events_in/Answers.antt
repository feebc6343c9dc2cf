-- The part from byte 38 on is the job's recording.
use native.Mathlib.Omega.{arith}
use Rattle.engine.proofs.JudgeLaws.{part_is}
use Rattle.reply.proofs.AnswerLaws.{events_is}
use Rattle.reply.proofs.events_in.Goals as goal

pub slice_bounds-full_cut-count : goal.slice_bounds-full_cut-count
slice_bounds-full_cut-count c = omega arith

pub returns : goal.returns
returns c = events_is _ _ _ _ (part_is _) c.full_cut.ensures c.events.ensures
