-- A recording as a value of the logic: document 01, "Terms". Read from bytes, or built by whoever has the events.
-- In order: an event, a recording; what it says of the events (for `cuts`): messages, stamps, levels.
use Rattle.std.specs.Prelude.{List, [], map, ℕ, zero, suc, length, get_or, ℤ, pos}
use Rattle.cuts.specs.Cut.{at}
use Rattle.cuts.specs.Trace.{Messages, Stamps, Levels}

-- "an origin", "the sender's event number", "the level afterwards", "a stamp of n counts"
pub record Event : Type 0 where
  pub origin : ℕ
  pub number : ℕ
  pub level : ℤ
  pub stamp : List ℕ

-- each station's start level, and each station's events in their order
pub record Recording : Type 0 where
  pub starts : List ℤ
  pub events : List (List Event)

-- "Event 0 means the start: no origin, a stamp of zeros"
abbrev pub no_event : Event
no_event = record { origin = 0; number = 0; level = pos 0; stamp = [] }

module _ (R : Recording) where
  -- the events of each station, m
  abbrev pub counts_of : List ℕ
  counts_of = map (λ l. length l) R.events

  -- event e + 1 of the station at place p
  abbrev pub event_at : ℕ → ℕ → Event
  event_at p e = get_or (get_or R.events p []) e no_event

  abbrev pub origin_of : ℕ → ℕ → ℕ
  origin_of p zero = 0
  origin_of p (suc e) = (event_at p e).origin

  abbrev pub number_of : ℕ → ℕ → ℕ
  number_of p zero = 0
  number_of p (suc e) = (event_at p e).number

  abbrev pub messages : Messages
  messages = record { counts = counts_of; origin = origin_of; number = number_of }

  abbrev pub stamps : Stamps
  stamps p zero q = 0
  stamps p (suc e) q = at (event_at p e).stamp q

  -- the level after event e; after event 0 "a start level"
  abbrev pub levels : Levels ℤ
  levels p zero = get_or R.starts p (pos 0)
  levels p (suc e) = (event_at p e).level
