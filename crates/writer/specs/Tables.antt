-- The writer's checks of the records, as the code works them out of flat tables. Nothing here has to be believed: `GivenRight` proves that they are the
-- tests in the written order. In order: a level's bits; a level's test among those of a record; all records; the tables.
use Rattle.std.specs.Prelude.{◌≡◌, Bool, true, false, ◌||◌, cond, List, ℕ, ◌+◌, ◌*◌, ◌≤◌, ◌<◌, ℤ, length, unwrap_or, Ok, Err}
use Rattle.levels.specs.Level.{is_level, field_of}
use Rattle.cuts.specs.Below.{sum_to, tab}
use Rattle.cuts.specs.Cut.{at}
use Rattle.faults.specs.declared.Tables.{Tables}
use Rattle.recording.specs.Recording.{messages}
use Rattle.recording.specs.Check.{fault_of, scan_records}
use Rattle.refusal.specs.Refusal.{Tested, Checked}
use Rattle.refusal.specs.declared.Reason.{Reason}
use Rattle.writer.specs.Write.{Given, first_given, recording_given, writer_tests}

-- a level's 12 bits, 0 for a number that is none
unfoldable pub level_put : ℤ → ℕ
level_put v = unwrap_or (field_of v) 0

-- a level out of range comes after a wrong origin and a wrong sender's number, and before a wrong stamp
unfoldable pub before_level : Reason → Bool
before_level Reason.Origin = true
before_level Reason.Number = true
before_level _ = false

unfoldable pub level_fault : Tested → ℤ → Tested
level_fault (Ok u) v = cond (is_level v) (Ok u) (Err Reason.Level)
level_fault (Err k) v = cond (is_level v || before_level k) (Err k) (Err Reason.Level)

-- the first test that fails of event e + 1 of the station at place p, and the first refusal among all records
module _ (g : Given) where
  unfoldable pub given_fault : ℕ → ℕ → Tested
  given_fault p e = fault_of (writer_tests (recording_given g) p e)

  unfoldable pub scanned_given : Checked
  scanned_given = scan_records (messages (recording_given g)) (writer_tests (recording_given g))

-- the rows have the stamps handed in, eight places a record ..
pub record StampsLaid (g : Given) (rows : List ℕ) : Type 0 where
  pub room : 8 * length g.origins ≤ length rows
  pub cells : (r q : ℕ) → r < length g.origins → q < g.n → at rows (8 * r + q) ≡ at g.stamps (r * g.n + q)

-- .. and the tables all of it: n, the counts, the records before those of each station
pub record Laid (g : Given) (t : Tables) : Type 0 where
  pub stations : t.n ≡ g.n
  pub most : g.n ≤ 8
  pub counts : t.counts ≡ tab 8 (at g.counts)
  pub firsts : (p : ℕ) → p < 9 → (at t.firsts p ≡ sum_to p (at g.counts)) × (at t.firsts p ≤ 2040)
  pub records : length g.origins ≡ first_given g g.n
  pub stamps : StampsLaid g t.rows.now
