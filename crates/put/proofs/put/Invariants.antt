-- What cannot be held is refused before anything is stored. After i turns the first i bits of the value are put, the most significant first;
-- a turn puts one more.
use mathlib.Core.Path.{◌≡◌}
use Prim.Native.Nat.{◌-◌, ◌/◌, ◌^◌}
use Rattle.put.specs.Put.{put_at}
use Rattle.put.proofs.put.Given as goal

abbrev pub invariant-loop-i : goal.invariant-loop-i
invariant-loop-i l = l.s ≡ put_at l.initial.s l.at l.i (l.w / 2 ^ (l.k - l.i))
