-- After i turns the word and the first i numbers are put; a turn puts one more, which fits since the line does.
use lib.ListN.{take}
use Rattle.text.specs.Written.{front_of, Written}
use Rattle.text.proofs.Line.put.Given as goal

abbrev pub invariant-loop-x : goal.invariant-loop-x
invariant-loop-x g l = Written (front_of g.T.Integer.text l.self.word.now (take l.x-index l.x-items)) l.fn.room l.at l.next l.room
