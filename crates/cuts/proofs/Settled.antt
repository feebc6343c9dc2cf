-- The settled examples hold, by computation. Assumes nothing.
use mathlib.Core.Path.{refl}
use Rattle.cuts.specs.Below.{first_from, any, every, sum_to, product_to}
use Rattle.cuts.specs.Rank.{box, rank, unrank, weight}
use Rattle.cuts.specs.Computed.{met, mark_of, tabled, walk, poss_of, def_of}
use Rattle.cuts.specs.Trace.{agrees}
use Rattle.cuts.specs.Examples.{Settled}

pub settled : Settled
unfolding poss_of def_of walk tabled mark_of met any first_from every sum_to product_to box rank unrank weight agrees
settled = (refl, refl)
