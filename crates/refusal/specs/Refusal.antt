-- What is refused, and why: document 01, "Refusal numbers". In order: the law's number of each reason; the refusals that are
-- about no record and about one; the answers of checks.
use Rattle.std.specs.Prelude.{ℕ, ◌+◌, Result, Ok, Err}
use Rattle.refusal.specs.declared.Reason.{Reason}
use Rattle.refusal.specs.declared.Refusal.{Refusal}

unfoldable pub number_of : Reason → ℕ
-- "bytes (or a writer's lists) are shorter than the form needs"
number_of Reason.TooShort = 1
-- "n is 0 or above 8"
number_of Reason.Stations = 2
-- "bytes (or lists) are longer than needed"
number_of Reason.TooLong = 3
-- "a padding bit is 1"
number_of Reason.Padding = 4
-- "origin above n, or the station itself"
number_of Reason.Origin = 5
-- "sender's number not 0 for a local step; 0 or above the sender's m for a receipt"
number_of Reason.Number = 6
-- "a stamp breaks the rule"
number_of Reason.Stamp = 7
-- "the condition breaks its section above"
number_of Reason.Condition = 8
-- "a station above n is asked"
number_of Reason.Asked = 9
-- "the box is above 65,536"
number_of Reason.BoxSize = 10
-- "the room for marks is shorter than the box"
number_of Reason.MarksRoom = 11
-- "the room for the path is shorter than T"
number_of Reason.PathRoom = 12
-- "the room for written bytes is too short"
number_of Reason.Room = 13
-- "a level handed to the writer is out of range"
number_of Reason.Level = 14
-- "no such station or event number is recorded"
number_of Reason.NoRecord = 15

-- "with a station and event: .. 0 and 0 otherwise"
abbrev pub whole : Reason → Refusal
whole k = record { reason = k; station = 0; event = 0 }

-- "those of the record": of event e + 1 of the station at place p
abbrev pub of_record : ℕ → ℕ → Reason → Refusal
of_record p e k = record { reason = k; station = p + 1; event = e + 1 }

-- the answer of a check that is about no record, and of one that may be about one
abbrev pub Tested : Type 0
Tested = Result (Unit {0}) Reason

abbrev pub Checked : Type 0
Checked = Result (Unit {0}) Refusal

-- a test's answer as a check's, about no record ..
unfoldable pub at_whole : Tested → Checked
at_whole (Ok u) = Ok u
at_whole (Err k) = Err (whole k)

-- .. and about event e + 1 of the station at place p
unfoldable pub at_record : ℕ → ℕ → Tested → Checked
at_record p e (Ok u) = Ok u
at_record p e (Err k) = Err (of_record p e k)

-- the first refusal of two checks
abbrev pub or_else : Checked → Checked → Checked
or_else (Ok u) b = b
or_else (Err x) b = Err x
