-- What a recording says of its events: document 01, "Terms", "Stamp rule" and "Consistent".
-- In order: messages without stamps; origins and senders in order; stamps and their rule; consistent cuts; what the verdicts are about.
use Rattle.std.specs.Prelude.{◌≡◌, ◌≢◌, List, Bool, ◌||◌, ℕ, zero, suc, ◌+◌, ◌≤◌, ◌<◌, max, length, leb, eqb}
use Rattle.cuts.specs.Below.{every, own}
use Rattle.cuts.specs.Cut.{at}
use Rattle.cuts.specs.Verdict.{Lattice}

-- What the records say without their stamps. Of event e (from 1) of the station at place p: its origin, "0 for a local step, or the station
-- whose message was received" (station s + 1 stands at place s), and "the sender's event number".
pub record Messages : Type 0 where
  pub counts : List ℕ
  pub origin : ℕ → ℕ → ℕ
  pub number : ℕ → ℕ → ℕ

-- place q of the stamp of event e of the station at place p
abbrev pub Stamps : Type 0
Stamps = ℕ → ℕ → ℕ → ℕ

module _ (T : Messages) where
  -- p is the place of a station, and e the number of one of its events
  abbrev pub Recorded : ℕ → ℕ → Type 0
  Recorded p e = (p < length T.counts) × (0 < e) × (e ≤ at T.counts p)

  -- no record is refused with 5 or 6
  pub record Formed : Type 0 where
    -- a local step's sender's number is 0
    pub local : (p e : ℕ) → Recorded p e → T.origin p e ≡ 0 → T.number p e ≡ 0
    -- a receipt's origin is another station, and its number one of that station's events
    pub sender : (p e s : ℕ) → Recorded p e → T.origin p e ≡ suc s → (s ≢ p) × Recorded s (T.number p e)

module _ (T : Messages) (S : Stamps) where
  -- place q of the stamp that event e + 1 of p, of origin o, has to have: "the station's previous stamp with its own count raised by 1";
  -- for a receipt "the place-by-place larger of the previous stamp and the named event's stamp as recorded, then the own count raised by 1"
  abbrev pub wanted : ℕ → ℕ → ℕ → ℕ → ℕ
  wanted zero p e q = S p e q + own p q
  wanted (suc s) p e q = max (S p e q) (S s (T.number p (suc e)) q) + own p q

  -- the stamp rule: no record is refused with 7
  pub record Stamped : Type 0 where
    -- "Event 0 means the start: .. a stamp of zeros"
    pub start : (p q : ℕ) → S p 0 q ≡ 0
    pub rule : (p e q : ℕ) → Recorded T p (suc e) → q < length T.counts → S p (suc e) q ≡ wanted (T.origin p (suc e)) p e q

  -- "For all stations p and q, p not q: count q in the stamp of p's event c_p is at most c_q"
  abbrev pub Agrees : List ℕ → Type 0
  Agrees c = (p q : ℕ) → p < length T.counts → q < length T.counts → p ≢ q → S p (at c p) q ≤ at c q

  -- the test of it
  unfoldable pub agrees : List ℕ → Bool
  agrees c = every (length T.counts) (λ p. every (length T.counts) (λ q. eqb p q || leb (S p (at c p) q) (at c q)))

  -- what the verdicts are about, where `holds` says of a cut whether it satisfies the condition
  abbrev pub lattice : (List ℕ → Bool) → Lattice
  lattice holds = record { counts = T.counts; consistent = agrees; holds = holds }

-- the level of the station at place p after its event e; its start level after event 0
abbrev pub Levels : Type 0 → Type 0
Levels A = ℕ → ℕ → A

-- a condition asked of the levels at a cut
abbrev pub at_cut : {A : Type 0} → Levels A → ((ℕ → A) → Bool) → List ℕ → Bool
at_cut level condition c = condition (λ p. level p (at c p))
