-- The settled examples of document 01 that are about a recording's bytes: A, and examples 9, 10 and 11; and a recording whose messages arrive out of
-- sending order. The checks are tried on them by computation (`SettledBytes`).
use Rattle.std.specs.Prelude.{◌≡◌, List, [], ◌∷◌, map, ℕ, Ok, Err}
use Rattle.recording.specs.Form.{lead8, width8}
use Rattle.recording.specs.Check.{checked_of}
use Rattle.refusal.specs.Refusal.{Checked}
use Rattle.refusal.specs.declared.Reason.{Reason}

pub record Row : Type 0 where
  pub bytes : List ℕ
  pub answer : Checked

abbrev row : List ℕ → Checked → Row
row s v = record { bytes = s; answer = v }

-- "start levels 0 and 0, station 1 steps to level 1 with stamp 1 0, station 2 receives from event 1 of station 1, level 1, stamp 1 1"
abbrev A : List ℕ
A = 0x20 ∷ 0x10 ∷ 0x00 ∷ 0x01 ∷ 0x00 ∷ 0x00 ∷ 0x00 ∷ 0x00 ∷ 0x10 ∷ 0x10 ∷ 0x01 ∷ 0x01 ∷ 0x00 ∷ 0x10 ∷ 0x10 ∷ 0x10 ∷ []

-- 9: "A with station 2's stamp 0 1"
abbrev nine : List ℕ
nine = 0x20 ∷ 0x10 ∷ 0x00 ∷ 0x01 ∷ 0x00 ∷ 0x00 ∷ 0x00 ∷ 0x00 ∷ 0x10 ∷ 0x10 ∷ 0x01 ∷ 0x01 ∷ 0x00 ∷ 0x10 ∷ 0x00 ∷ 0x10 ∷ []

-- 10: "two stations, each with one receipt of the other's event 1, all stamps 1 1"
abbrev ten : List ℕ
ten = 0x20 ∷ 0x10 ∷ 0x00 ∷ 0x01 ∷ 0x00 ∷ 0x02 ∷ 0x01 ∷ 0x00 ∷ 0x00 ∷ 0x10 ∷ 0x11 ∷ 0x01 ∷ 0x00 ∷ 0x00 ∷ 0x10 ∷ 0x10 ∷ []

-- 11: "counts 1 and 2, station 2 receives station 1's event 1 twice, stamps 1 1 and 1 2"
abbrev eleven : List ℕ
eleven =
    0x20 ∷ 0x10 ∷ 0x00 ∷ 0x02 ∷ 0x00 ∷ 0x00 ∷ 0x00 ∷ 0x00 ∷ 0x00 ∷ 0x10 ∷ 0x01 ∷ 0x01 ∷ 0x00 ∷ 0x00 ∷ 0x10 ∷ 0x11 ∷ 0x01 ∷ 0x00 ∷ 0x00 ∷ 0x10 ∷ 0x20 ∷ []

-- counts 2 and 2: station 2 receives station 1's event 2, then its event 1; stamps 1 0, 2 0, 2 1, 2 2
abbrev overtaken : List ℕ
overtaken =
    0x20 ∷ 0x20 ∷ 0x00 ∷ 0x02 ∷ 0x00 ∷ 0x00 ∷ 0x00 ∷ 0x00 ∷ 0x00 ∷ 0x10 ∷ 0x00 ∷ 0x00 ∷ 0x00
    ∷ 0x00 ∷ 0x20 ∷ 0x01 ∷ 0x02 ∷ 0x00 ∷ 0x00 ∷ 0x20 ∷ 0x11 ∷ 0x01 ∷ 0x00 ∷ 0x00 ∷ 0x20 ∷ 0x20 ∷ []

-- 7 with the station, and its event 1
abbrev refused : ℕ → Checked
refused station = Err (record { reason = Reason.Stamp; station = station; event = 1 })

abbrev pub rows : List Row
rows = row A (Ok tt) ∷ row nine (refused 2) ∷ row ten (refused 1) ∷ row eleven (Ok tt) ∷ row overtaken (Ok tt) ∷ []

-- the checks answer each row as it says
abbrev pub Settled : Type 0
Settled = map (λ r. checked_of lead8 width8 r.bytes) rows ≡ map (λ r. r.answer) rows
