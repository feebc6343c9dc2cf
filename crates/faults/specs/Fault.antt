-- The fault of one record, worked out of flat tables. Nothing here has to be believed: `TablesRight` of `recording` proves that it is the first of the
-- record's tests that fails. In order: the origin's kinds, and what they break; stamps in the table; a local step; a receipt; any record.
use Rattle.std.specs.Prelude.{Bool, ◌&&◌, ◌||◌, cond, List, ℕ, zero, suc, ◌+◌, ◌-◌, ◌*◌, ◌/◌, ◌≤◌, max, leb, ltb, eqb, length, Result, Ok, Err}
use Rattle.cuts.specs.Below.{every, own}
use Rattle.cuts.specs.Cut.{at}
use Rattle.refusal.specs.Refusal.{Tested}
use Rattle.refusal.specs.declared.Reason.{Reason}
use Rattle.faults.specs.declared.Source.{Source}

-- "Origin 0 is a local step, 1 to 8 name a station, 9 to 15 are refused"
unfoldable pub source_of : ℕ → Result Source Reason
source_of o = cond (eqb o 0) (Ok Source.Local) (cond (leb o 8) (Ok (Source.From o)) (Err Reason.Origin))

-- a kind that an origin can have: its station is 1 to 8
abbrev pub Named : Source → Type 0
Named Source.Local = Unit
Named (Source.From station) = (1 ≤ station) × (station ≤ 8)

-- what the kind of the origin or the sender's number k breaks, in a record of the station at place p, if either breaks anything
unfoldable pub sender_fault : ℕ → List ℕ → ℕ → Result Source Reason → ℕ → Tested
sender_fault n m p (Ok Source.Local) k = cond (eqb k 0) (Ok tt) (Err Reason.Number)
sender_fault n m p (Ok (Source.From o)) k = cond (ltb n o || eqb o (p + 1)) (Err Reason.Origin) (cond (leb 1 k && leb k (at m (o - 1))) (Ok tt) (Err Reason.Number))
sender_fault n m p (Err r) k = Err r

-- the place of the station that the kind of the origin names, the record's own place p for a local step
unfoldable pub sender_at : Source → ℕ → ℕ
sender_at Source.Local p = p
sender_at (Source.From station) p = station - 1

-- place q of the stamp of event e of the station whose records begin at `first`; event 0 has zeros
unfoldable pub place_at : List ℕ → ℕ → ℕ → ℕ → ℕ
place_at rows first zero q = 0
place_at rows first (suc e) q = at rows (8 * (first + e) + q)

-- place q of the stamp of event e + 1 is right, where the message came from event k of the station whose records begin at `sender` (event 0 for a local step)
unfoldable pub place_right : List ℕ → ℕ → ℕ → ℕ → ℕ → ℕ → ℕ → Bool
place_right rows p first e sender k q = eqb (place_at rows first (suc e) q) (max (place_at rows first e q) (place_at rows sender k q) + own p q)

-- the rows have the stamps of the first e events of the station whose records begin at `first`
unfoldable pub has : List ℕ → ℕ → ℕ → Bool
has rows first e = leb e (length rows / 8 - first)

unfoldable pub stamp_fault : ℕ → List ℕ → ℕ → ℕ → ℕ → ℕ → ℕ → Tested
stamp_fault n rows p first e sender k = cond (has rows first (suc e) && (has rows sender k && every n (place_right rows p first e sender k))) (Ok tt) (Err Reason.Stamp)

unfoldable pub local_fault : ℕ → List ℕ → ℕ → ℕ → ℕ → ℕ → Tested
local_fault n rows p first e k = cond (eqb k 0) (stamp_fault n rows p first e first 0) (Err Reason.Number)

unfoldable pub receipt_fault : ℕ → List ℕ → List ℕ → List ℕ → ℕ → ℕ → ℕ → ℕ → Tested
receipt_fault n m firsts rows p e station k =
    cond (ltb n station || eqb station (p + 1)) (Err Reason.Origin)
    (cond (leb 1 k && leb k (at m (station - 1))) (stamp_fault n rows p (at firsts p) e (at firsts (station - 1)) k) (Err Reason.Number))

-- the fault of event e + 1 of the station at place p, by the kind of its origin and the sender's number k
module _ (n : ℕ) (m firsts rows : List ℕ) where
  unfoldable pub source_fault : Result Source Reason → ℕ → ℕ → ℕ → Tested
  source_fault (Ok Source.Local) k p e = local_fault n rows p (at firsts p) e k
  source_fault (Ok (Source.From o)) k p e = receipt_fault n m firsts rows p e o k
  source_fault (Err r) k p e = Err r

  -- by its origin o; a fault of the stamp where p is the place of none of at most eight stations
  unfoldable pub table_fault : ℕ → ℕ → ℕ → ℕ → Tested
  table_fault o k p e = cond (leb n 8 && ltb p n) (source_fault (source_of o) k p e) (Err Reason.Stamp)
