-- The word and the newline are taken away first, then number by number; where one has more bytes than are left, the line has too.
use mathlib.Core.List.{append-nil}
use native.Mathlib.Omega.{arith}
use Rattle.text.specs.Written.{front_of}
use Rattle.text.proofs.TextLaws.{length_line_of, length_word, line_over, line_less, line_left}
use Rattle.text.proofs.Line.left_of.Goals as goal

pub returns-in_err-left : goal.returns-in_err-left
returns-in_err-left g c =
    let a = c.args.self in
    rw c.from_residual.ensures (omega (arith, length_line_of g.T.Integer.text a.word.now a.numbers.now, length_word g.T.Integer.text a.word.now a.numbers.now, c.in_err-left.ensures))

pub loop-x-init : goal.loop-x-init
unfolding front_of
loop-x-init g c = rw append-nil (omega (arith, c.in_ok-left.ensures))

pub returns-in_err-left-2 : goal.returns-in_err-left-2
returns-in_err-left-2 g c =
    rw c.from_residual-in_err-left-2.ensures (line_over g.T.Integer.text _ _ _ _ c.loop-x-test.true c.x-item.is c.loop-x.invariant (rw (← c.format.ensures.text) (omega (arith, c.in_err-left-2.ensures))))

pub loop-x-preserved : goal.loop-x-preserved
loop-x-preserved g c = line_less g.T.Integer.text _ _ _ _ c.loop-x-test.true c.x-item.is _ c.loop-x.invariant (rw (← c.format.ensures.text) (omega (arith, c.in_ok-left-2.ensures)))

pub returns : goal.returns
returns g c = line_left g.T.Integer.text _ _ _ c.loop-x-test.false _ c.loop-x.invariant
