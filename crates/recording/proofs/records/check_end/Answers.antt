-- The tests go in the written order, and each `return` is the law of the first that fails.
use Rattle.recording.proofs.WholeLaws.{end_fault-short, end_fault-long, end_fault-padding, end_fault-right}
use Rattle.recording.proofs.records.check_end.Goals as goal

pub returns-then-s-needed : goal.returns-then-s-needed
returns-then-s-needed c = end_fault-short _ _ _ c.bytes_for-needed.ensures.0 c.if-s-needed.true

pub returns-then-needed-s : goal.returns-then-needed-s
returns-then-needed-s c = end_fault-long _ _ _ c.bytes_for-needed.ensures.0 c.if-s-needed.false c.if-needed-s.true

pub returns-then-peek-ne0 : goal.returns-then-peek-ne0
returns-then-peek-ne0 c = end_fault-padding _ _ _ c.bytes_for-needed.ensures.0 c.if-s-needed.false c.if-needed-s.false _ c.peek.ensures c.if-peek-ne0.true

pub returns : goal.returns
returns c = end_fault-right _ _ _ c.bytes_for-needed.ensures.0 c.if-s-needed.false c.if-needed-s.false _ c.peek.ensures c.if-peek-ne0.false
