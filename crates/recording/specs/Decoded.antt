-- The checks and the flat tables in one: what `decode` answers, and the rooms afterwards.
use Rattle.std.specs.Prelude.{◌≡◌, Bool, true, false, ◌&&◌, List, ℕ, ◌*◌, ◌≤◌, length, take, Result, Ok, Err}
use Rattle.cuts.specs.Below.{tab}
use Rattle.recording.specs.Form.{n_at, first_at}
use Rattle.recording.specs.Check.{checked_of}
use Rattle.recording.specs.Decode.{stamp_cell, stamps_fit, stamps_in, levels_fit, levels_in}
use Rattle.refusal.specs.Refusal.{Checked}
use Rattle.recording.specs.declared.DecodeError.{DecodeError}

-- a recording of at most eight stations, with its table of stamps in front of the rows
pub record RowsLaid (lead w : ℕ) (s rows : List ℕ) : Type 0 where
  pub n_most : n_at lead s ≤ 8
  pub table : take (8 * first_at lead w s (n_at lead s)) rows ≡ tab (8 * first_at lead w s (n_at lead s)) (stamp_cell lead w s (n_at lead s))

-- the answer of the checks, and where they accept the table of stamps
pub record CheckedRows (lead w : ℕ) (s : List ℕ) (r : Checked) (rows : List ℕ) : Type 0 where
  pub reply : r ≡ checked_of lead w s
  pub laid : r ≡ Ok tt → RowsLaid lead w s rows

-- the refusal of the checks; else whether the rooms have the tables
abbrev pub decoded_by : Checked → Bool → Result (Unit {0}) DecodeError
decoded_by (Err x) fits = Err (DecodeError.Refused x)
decoded_by (Ok u) true = Ok u
decoded_by (Ok u) false = Err DecodeError.Short

-- a room with its table where that is done, else as before
abbrev pub room_by : Result (Unit {0}) DecodeError → List ℕ → List ℕ → List ℕ
room_by (Ok u) new old = new
room_by (Err x) new old = old

pub record Decodes (lead w : ℕ) (s stamps levels : List ℕ) (r : Result (Unit {0}) DecodeError) (stamps' levels' : List ℕ) : Type 0 where
  pub answer : r ≡ decoded_by (checked_of lead w s) (stamps_fit lead w s (length stamps) && levels_fit lead w s (length levels))
  pub stamps_after : stamps' ≡ room_by r (stamps_in lead w s stamps) stamps
  pub levels_after : levels' ≡ room_by r (levels_in lead w s levels) levels
