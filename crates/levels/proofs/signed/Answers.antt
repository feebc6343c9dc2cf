-- The excess number is below 4,096, so nothing wraps where 2,048 is taken from it.
use Rattle.std.proofs.Common.{arith}
use Rattle.std.proofs.lemmas.Int.{ints}
use Rattle.levels.proofs.LevelLaws.{excess_lt, excess_lowered}
use Rattle.levels.proofs.signed.Goals as goal

pub overflow_cast-result : goal.overflow_cast-result
overflow_cast-result c = omega (arith, ints, excess_lt c.args.f)

pub overflow_sub-result : goal.overflow_sub-result
overflow_sub-result c = omega (arith, ints, excess_lt c.args.f)

pub returns : goal.returns
returns c = excess_lowered c.args.f c.excess.result c.excess.ensures
