-- Each kind has its own limits.
use Rattle.std.proofs.Common.{refl}
use Rattle.condition.specs.Weigh.{asked_of, limits_of, limits_by}
use Rattle.condition.proofs.limits_of.Goals as goal

pub returns-in-Together : goal.returns-in-Together
unfolding limits_of limits_by asked_of
returns-in-Together c = rw (c.in-Together.is, c.count_asked.ensures.0) refl

pub returns-in-AtLeast : goal.returns-in-AtLeast
unfolding limits_of limits_by
returns-in-AtLeast c = rw (c.in-AtLeast.is, c.from.ensures) refl

pub returns-in-Sum : goal.returns-in-Sum
unfolding limits_of limits_by asked_of
returns-in-Sum c = rw (c.in-Sum.is, c.count_asked-more.ensures.0, c.from-in-Sum.ensures, c.from-in-Sum-2.ensures) refl
