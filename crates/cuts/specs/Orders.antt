-- Possible orders, in the words of demand 3, literally: lists of events, first event first. No stamp is read here and no cut.
-- In order: events in a list; a possible order; its moments and the levels there; Poss, Def and their evidence over possible orders.
use Rattle.std.specs.Prelude.{◌≡◌, Bool, true, ◌&&◌, cond, List, [], ◌∷◌, ◌++◌, reverse, ℕ, suc, ◌+◌, ◌<◌, eqb, length}
use Rattle.std.proofs.Math.Option.{Option, none, some}
use Rattle.cuts.specs.Below.{tab, own}
use Rattle.cuts.specs.Trace.{Messages, Recorded, Levels}

-- event `number` of the station at place `station`
pub record Ev : Type 0 where
  pub station : ℕ
  pub number : ℕ

abbrev pub ev : ℕ → ℕ → Ev
ev p e = record { station = p; number = e }

-- x stands in a list
pub data Has (x : Ev) : List Ev → Type 0 where
  here : {y : Ev} {ys : List Ev} → y ≡ x → Has x (y ∷ ys)
  there : {y : Ev} {ys : List Ev} → Has x ys → Has x (y ∷ ys)

-- the test of two events being one
abbrev pub same : Ev → Ev → Bool
same x y = eqb x.station y.station && eqb x.number y.number

-- how often x stands in a list
unfoldable pub times : Ev → List Ev → ℕ
times x [] = 0
times x (y ∷ ys) = cond (same y x) 1 0 + times x ys

-- x stands in a list before y
pub data Before (x y : Ev) : List Ev → Type 0 where
  now : {z : Ev} {zs : List Ev} → z ≡ x → Has y zs → Before x y (z ∷ zs)
  later : {z : Ev} {zs : List Ev} → Before x y zs → Before x y (z ∷ zs)

-- "a possible order has every recorded event once, keeps each station's order and puts no receipt before its sending"
pub record PossibleOrder (T : Messages) (es : List Ev) : Type 0 where
  pub once : (p e : ℕ) → Recorded T p e → times (ev p e) es ≡ 1
  pub only : (p e : ℕ) → Has (ev p e) es → Recorded T p e
  pub lower_first : (p e k : ℕ) → Recorded T p e → Recorded T p k → e < k → Before (ev p e) (ev p k) es
  pub sending_first : (p e s : ℕ) → Recorded T p e → T.origin p e ≡ suc s → Before (ev s (T.number p e)) (ev p e) es

-- x happens before y in every run: it is the one before it at its station, or the sending that it names, or it does so through a third
pub data Precedes (T : Messages) : Ev → Ev → Type 0 where
  own_next : {p e : ℕ} → Recorded T p e → Recorded T p (suc e) → Precedes T (ev p e) (ev p (suc e))
  sending : {p e s : ℕ} → Recorded T p e → T.origin p e ≡ suc s → Precedes T (ev s (T.number p e)) (ev p e)
  through : {x y z : Ev} → Precedes T x y → Precedes T y z → Precedes T x z

-- the number of the first event of p in a list, 0 if there is none
unfoldable pub latest : ℕ → List Ev → ℕ
latest p [] = 0
latest p (x ∷ xs) = cond (eqb x.station p) x.number (latest p xs)

-- the number of the last event of p after the events xs have happened: the first, read from the end
abbrev pub last_of : List Ev → ℕ → ℕ
last_of xs p = latest p (reverse xs)

-- the counts of the n stations after the events xs
abbrev pub counts_after : ℕ → List Ev → List ℕ
counts_after n xs = tab n (last_of xs)

-- how often p stands in a list of places
unfoldable pub often : ℕ → List ℕ → ℕ
often p [] = 0
often p (q ∷ qs) = own q p + often p qs

-- a way (last step first) as events: each step is the next event of its station
unfoldable pub events_of : List ℕ → List Ev
events_of [] = []
events_of (p ∷ way) = ev p (suc (often p way)) ∷ events_of way

-- a path (first step first) as an order of events
abbrev pub order_of : List ℕ → List Ev
order_of path = reverse (events_of (reverse path))

module _ {A : Type 0} (level : Levels A) (condition : (ℕ → A) → Bool) where
  -- the condition holds of the levels after the events xs: of each station's level after its last event there, its start level if there is none
  abbrev pub HoldsAfter : List Ev → Type 0
  HoldsAfter xs = condition (λ p. level p (last_of xs p)) ≡ true

  -- an order "has a moment (first and last included) where the condition holds": a moment is a beginning of it, the empty and the whole one included
  abbrev pub HasMoment : List Ev → Type 0
  HasMoment es = (xs ys : List Ev) × (es ≡ xs ++ ys) × HoldsAfter xs

  module _ (T : Messages) where
    -- "some possible order has a moment .. where the condition holds"
    abbrev pub SomeOrderHas : Type 0
    SomeOrderHas = (es : List Ev) × PossibleOrder T es × HasMoment es

    -- "some possible order has none"
    abbrev pub SomeOrderLacks : Type 0
    SomeOrderLacks = (es : List Ev) × PossibleOrder T es × ¬ HasMoment es

    -- an answer to Poss: no, where no possible order has such a moment; yes with the counts of such a moment
    abbrev pub PossByOrders : Option (List ℕ) → Type 0
    PossByOrders none = ¬ SomeOrderHas
    PossByOrders (some c) =
        (es xs ys : List Ev) × PossibleOrder T es × (es ≡ xs ++ ys) × HoldsAfter xs × (counts_after (length T.counts) xs ≡ c)

    -- an answer to Def: yes, where every possible order has such a moment; no with a path that is a possible order without one
    abbrev pub DefByOrders : Option (List ℕ) → Type 0
    DefByOrders none = (es : List Ev) → PossibleOrder T es → HasMoment es
    DefByOrders (some path) = PossibleOrder T (order_of path) × ¬ HasMoment (order_of path)

    -- demand 3 of a pair of answers
    pub record ByOrders (poss def : Option (List ℕ)) : Type 0 where
      -- "For each accepted recording one exists"
      pub order : (es : List Ev) × PossibleOrder T es
      pub poss_is : PossByOrders poss
      pub def_is : DefByOrders def
