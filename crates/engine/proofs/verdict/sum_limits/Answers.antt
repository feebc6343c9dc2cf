-- No sum is below the limits; or what is below the least of them is none.
use Rattle.engine.proofs.LimitLaws.{shift_none, shift_some}
use Rattle.engine.proofs.verdict.sum_limits.Goals as goal

pub returns-then-l-lt32768 : goal.returns-then-l-lt32768
returns-then-l-lt32768 c = rw (← c.limits_of-l.ensures) (record { decides = shift_none _ c.if-l-lt32768.true })

pub returns : goal.returns
returns c =
    rw (← c.limits_of-l.ensures) (record { decides = shift_some _ _ c.if-l-lt32768.false c.saturating_sub.ensures })
