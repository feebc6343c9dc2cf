-- The lookup of one record: document 01, "A lookup of one record makes the recording's checks first, then 15; event 0 of a station 1 to n answers origin
-- 0, number 0, the start level and a stamp of zeros; a stamp's places beyond n are 0".
use Rattle.std.specs.Prelude.{Bool, ◌&&◌, cond, List, ℕ, ◌+◌, ◌-◌, ◌*◌, length, leb, ltb, Result, Ok, Err}
use Rattle.bits.specs.Bits.{field}
use Rattle.cuts.specs.Below.{tab}
use Rattle.cuts.specs.Cut.{at}
use Rattle.recording.specs.Recording.{Recording, counts_of, origin_of, number_of, stamps, levels}
use Rattle.recording.specs.Form.{recording_of}
use Rattle.recording.specs.Check.{checked_of}
use Rattle.refusal.specs.Refusal.{Checked, or_else, whole}
use Rattle.refusal.specs.declared.Reason.{Reason}
use Rattle.refusal.specs.declared.Refusal.{Refusal}
use Rattle.lookup.specs.declared.Record.{Record}

-- station 1 to n, event 0 to its m; else "no such station or event number is recorded"
unfoldable pub is_recorded : Recording → ℕ → ℕ → Bool
is_recorded R station event = leb 1 station && leb station (length (counts_of R)) && leb event (at (counts_of R) (station - 1))

-- place q of a stamp of eight places
unfoldable pub place_of : Recording → ℕ → ℕ → ℕ → ℕ
place_of R p e q = cond (ltb q (length (counts_of R))) (stamps R p e q) 0

-- event e of the station at place p
unfoldable pub found_of : Recording → ℕ → ℕ → Record
found_of R p e = record { origin = origin_of R p e; number = number_of R p e; level = levels R p e; stamp = tab 8 (place_of R p e) }

unfoldable pub looked_up : Checked → Recording → ℕ → ℕ → Result Record Refusal
looked_up (Ok u) R station event = Ok (found_of R (station - 1) event)
looked_up (Err x) R station event = Err x

unfoldable pub lookup_of : ℕ → ℕ → List ℕ → ℕ → ℕ → Result Record Refusal
lookup_of lead w s station event =
    let R = recording_of lead w s in
    looked_up (or_else (checked_of lead w s) (cond (is_recorded R station event) (Ok tt) (Err (whole Reason.NoRecord)))) R station event

-- count q of a stamp whose n counts of w bits begin at the bit b, 0 beyond n, as the code reads it
unfoldable pub counted : ℕ → List ℕ → ℕ → ℕ → ℕ → ℕ
counted w s n b q = cond (ltb q n) (field s (b + w * q) w) 0
