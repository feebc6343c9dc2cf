-- After i turns the word, the newline and the first i numbers are taken away; a turn takes one more.
use mathlib.Core.Path.{◌≡◌}
use Prim.Native.Nat.{◌+◌}
use lib.ListN.{length, take}
use Rattle.text.specs.Written.{front_of}
use Rattle.text.proofs.Line.left_of.Given as goal

abbrev pub invariant-loop-x : goal.invariant-loop-x
invariant-loop-x g l = l.left + (length (front_of g.T.Integer.text l.self.word.now (take l.x-index l.x-items)) + 1) ≡ l.all
