-- The walk over the eight places, by which the entries of the code go; no promise of an entry rests on it.
use Rattle.std.specs.Prelude.{◌≡◌, true, false, cond, leb, Option, Some, None}
use Rattle.cut.specs.Value.{is_cut, box_of, rank_of, events_of}
use Rattle.cut.specs.declared.Cut.{Cut}
use Rattle.cut.specs.declared.Walked.{Walked}

-- what a walk over the recording m and its cut c comes to
pub record Found (m c : Cut) (w : Walked) : Type 0 where
  pub cut : is_cut m c ≡ true
  -- the box under its ceiling
  pub size : w.size ≡ box_of m
  -- the rank where the box is within its limit
  pub rank : rank_of m c ≡ cond (leb w.size 65536) (Some w.rank) None
  -- T
  pub events : w.events ≡ events_of m

-- .. and over any m and c: nothing where c is no cut of the recording
abbrev pub Walks : Cut → Cut → Option Walked → Type 0
Walks m c (Some w) = Found m c w
Walks m c None = is_cut m c ≡ false
