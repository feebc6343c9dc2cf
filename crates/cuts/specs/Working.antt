-- Possible orders as proofs work with them: built up event by event, last event first; as events, and as the places of their stations alone.
-- Nothing here has to be believed: `OrdersRight` proves that these and the orders of `Orders` are one.
use Rattle.std.specs.Prelude.{◌≡◌, List, [], ◌∷◌, map, ℕ, zero, suc, ◌≤◌, ◌<◌, length}
use Rattle.cuts.specs.Cut.{at}
use Rattle.cuts.specs.Way.{cut_of}
use Rattle.cuts.specs.Trace.{Messages, Recorded}
use Rattle.cuts.specs.Orders.{Ev, ev, Has}

-- the places of a list of events
abbrev pub stations : List Ev → List ℕ
stations xs = map (λ x. x.station) xs

module _ (T : Messages) where
  -- the sending that event e of p, of origin o, names is among xs
  abbrev pub SentBy : ℕ → ℕ → ℕ → List Ev → Type 0
  SentBy zero p e xs = Unit {0}
  SentBy (suc s) p e xs = Has (ev s (T.number p e)) xs

  -- x can come after the events xs: it is recorded, all its station's earlier ones are among xs and it is not, and so is the sending it names
  pub record Follows (xs : List Ev) (x : Ev) : Type 0 where
    pub recorded : Recorded T x.station x.number
    pub after : (e : ℕ) → 0 < e → e < x.number → Has (ev x.station e) xs
    pub new : ¬ Has x xs
    pub sent : SentBy (T.origin x.station x.number) x.station x.number xs

  -- an order where each event comes after its station's earlier ones and each receipt after the sending it names; last event first
  pub data Orderly : List Ev → Type 0 where
    none_yet : Orderly []
    then_one : {x : Ev} {xs : List Ev} → Follows xs x → Orderly xs → Orderly (x ∷ xs)

  -- with every recorded event
  pub record Whole (xs : List Ev) : Type 0 where
    pub orderly : Orderly xs
    pub all : (p e : ℕ) → Recorded T p e → Has (ev p e) xs

  -- the next event of p after the cut c, of origin o, waits for nothing that is not in c
  abbrev pub ReadyBy : ℕ → List ℕ → ℕ → Type 0
  ReadyBy zero c p = Unit {0}
  ReadyBy (suc s) c p = T.number p (suc (at c p)) ≤ at c s

  abbrev pub Ready : List ℕ → ℕ → Type 0
  Ready c p = ReadyBy (T.origin p (suc (at c p))) c p

  -- the same orders by the places of their stations
  pub data Order : List ℕ → Type 0 where
    nothing : Order []
    next : {p : ℕ} {way : List ℕ} → p < length T.counts → at (cut_of T.counts way) p < at T.counts p → Ready (cut_of T.counts way) p → Order way → Order (p ∷ way)

  -- to the full cut
  abbrev pub Complete : List ℕ → Type 0
  Complete way = Order way × (cut_of T.counts way ≡ T.counts)

  -- the recording up to the cut c
  abbrev pub up_to : List ℕ → Messages
  up_to c = record { counts = c; origin = T.origin; number = T.number }
