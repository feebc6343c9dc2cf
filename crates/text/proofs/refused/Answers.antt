-- The number, the station and the event stand behind the word.
use native.Mathlib.Omega.{arith}
use Rattle.text.proofs.TextLaws.{printed_whole, printed_none}
use Rattle.text.proofs.LineLaws.{refused_line}
use Rattle.text.proofs.refused.Goals as goal

pub returns-in_err-left_of : goal.returns-in_err-left_of
returns-in_err-left_of c =
    rw (c.from_residual.ensures, refused_line {number = c.args.number} {station = c.args.station} c.args.event c.from.ensures c.from-2.ensures (omega arith) (omega arith) (omega arith)) (printed_none _ _ c.in_err-left_of.ensures)

pub returns : goal.returns
returns c =
    rw (refused_line {number = c.args.number} {station = c.args.station} c.args.event c.from.ensures c.from-2.ensures (omega arith) (omega arith) (omega arith)) (printed_whole (omega (arith, c.in_ok-left_of.ensures)) c.put.ensures)
