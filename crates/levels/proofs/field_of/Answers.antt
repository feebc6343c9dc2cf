-- The tests are those of the definition, and a level's remainder by 4,096 its 12 bits.
use Rattle.std.proofs.Common.{sym, arith, rules}
use Rattle.std.proofs.lemmas.Int.{ints}
use Rattle.levels.specs.Level.{is_level}
use Rattle.levels.proofs.LevelLaws.{field_computed, field_of-none}
use Rattle.levels.proofs.field_of.Goals as goal
use Rattle.levels.proofs.field_of.Goals.{then-v-lt-LOWEST-via-then-v-lt-LOWEST, then-v-lt-LOWEST-via-else-v-lt-LOWEST+then-v-gt-HIGHEST}

pub returns-then-v-lt-LOWEST : goal.returns-then-v-lt-LOWEST
unfolding is_level
returns-then-v-lt-LOWEST c =
    sym
    (field_of-none c.args.v
    (elim c.then-v-lt-LOWEST.branch [
      | then-v-lt-LOWEST-via-then-v-lt-LOWEST w ↦ grind (arith, ints)
      | then-v-lt-LOWEST-via-else-v-lt-LOWEST+then-v-gt-HIGHEST w ↦ grind (arith, ints)
    ]))

pub returns : goal.returns
unfolding is_level
returns c = field_computed c.args.v c.rem_euclid.result c.ranges.v (search rules) c.rem_euclid.ensures.value (grind (arith, ints))
