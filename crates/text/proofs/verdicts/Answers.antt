-- The first line is taken from the room's length, and the second from what it leaves: both are put, or neither.
use native.Mathlib.Omega.{arith}
use Rattle.text.proofs.LineLaws.{verdict_whole, verdict_none}
use Rattle.text.proofs.verdicts.Goals as goal

pub returns-in_err-left : goal.returns-in_err-left
returns-in_err-left c =
    rw c.from_residual.ensures
    (verdict_none _ _ _ c.poss_line-poss.ensures c.def_line-def.ensures (omega (arith, c.in_err-left.ensures)))

pub returns-in_err-left_of : goal.returns-in_err-left_of
returns-in_err-left_of c =
    rw c.from_residual-in_err-left_of.ensures
    (verdict_none _ _ _ c.poss_line-poss.ensures c.def_line-def.ensures (omega (arith, c.in_ok-left.ensures, c.in_err-left_of.ensures)))

pub returns : goal.returns
returns c =
    verdict_whole _ _ c.poss_line-poss.ensures c.def_line-def.ensures (omega (arith, c.in_ok-left.ensures, c.in_ok-left_of.ensures))
    c.put-next.ensures c.put.ensures
