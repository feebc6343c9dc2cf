-- Whether a condition holds, by one sum: each station adds a number that depends on its own level alone, and the condition holds exactly if the sum lies
-- between two limits. Nothing here has to be believed: `WeighRight` proves it. Levels are excess numbers here.
use Rattle.std.specs.Prelude.{ℕ, ◌+◌, ◌*◌, Bool, cond, ◌&&◌, nat_le}
use Rattle.levels.specs.Level.{level_of}
use Rattle.cuts.specs.Below.{sum_to}
use Rattle.condition.specs.Condition.{lies, window_at}
use Rattle.condition.specs.declared.Kind.{Kind}
use Rattle.condition.specs.declared.Condition.{Condition}
use Rattle.condition.specs.declared.Limits.{Limits}

-- what the station at place p adds at the excess level x: 1 if it is asked and the level lies in its window; for Sum, x if it is asked
unfoldable pub weigh_by : Kind → Condition → ℕ → ℕ → ℕ
weigh_by Kind.Together c p x = cond ((window_at c p).asked && lies (window_at c p) (level_of x)) 1 0
weigh_by (Kind.AtLeast k) c p x = cond ((window_at c p).asked && lies (window_at c p) (level_of x)) 1 0
weigh_by (Kind.Sum low high) c p x = cond (window_at c p).asked x 0

unfoldable pub weigh_of : Condition → ℕ → ℕ → ℕ
weigh_of c p x = weigh_by c.kind c p x

-- the asked stations
unfoldable pub asked_of : Condition → ℕ
asked_of c = sum_to 8 (λ p. cond (window_at c p).asked 1 0)

-- the limits, 32,768 above those of the sum itself
unfoldable pub limits_by : Kind → ℕ → Limits
limits_by Kind.Together asked = record { least = 32768 + asked; most = 32768 + 8 }
limits_by (Kind.AtLeast k) asked = record { least = 32768 + k; most = 32768 + 8 }
limits_by (Kind.Sum low high) asked = record { least = low + 2048 * asked; most = high + 2048 * asked }

unfoldable pub limits_of : Condition → Limits
limits_of c = limits_by c.kind (asked_of c)

-- the sum of what the stations add, 32,768 more, lies between the limits
unfoldable pub within : Limits → ℕ → Bool
within l sum = nat_le l.least (sum + 32768) && nat_le (sum + 32768) l.most
