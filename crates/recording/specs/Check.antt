-- The checks of a recording: document 01, "Refusal numbers" and the order "no byte (1), 2, header too short or whole too short (1), 3, 4; then record by
-- record in file order 5, 6, 7". Written as lists of tests in that order. In order: tests; the first refusal; one record; the whole.
use Rattle.std.specs.Prelude.{Bool, ◌&&◌, not, cond, List, [], ◌∷◌, ℕ, zero, suc, ◌+◌, length, leb, eqb, Ok, Err}
use Rattle.cuts.specs.Below.{every}
use Rattle.cuts.specs.Cut.{at}
use Rattle.cuts.specs.Trace.{Messages, Stamps, wanted}
use Rattle.recording.specs.Recording.{Recording, messages, stamps}
use Rattle.recording.specs.Form.{bytes_for, station_bit, n_at, recording_of, needed, padding}
use Rattle.refusal.specs.Refusal.{Tested, Checked, at_whole, at_record, or_else}
use Rattle.refusal.specs.declared.Reason.{Reason}

-- a reason to refuse, and whether what it stands for is in order
pub record Test : Type 0 where
  pub reason : Reason
  pub passes : Bool

abbrev pub test : Reason → Bool → Test
test k b = record { reason = k; passes = b }

-- the reason of the first test that fails, if one does
unfoldable pub fault_of : List Test → Tested
fault_of [] = Ok tt
fault_of (t ∷ ts) = let r = fault_of ts in cond t.passes r (Err t.reason)

-- the first refusal among f 0, f 1, .., n of them
unfoldable pub scan_to : ℕ → (ℕ → Checked) → Checked
scan_to zero f = Ok tt
scan_to (suc n) f = or_else (scan_to n f) (f n)

module _ (T : Messages) where
  -- not "origin above n, or the station itself"
  unfoldable pub origin_ok : ℕ → ℕ → Bool
  origin_ok p o = leb o (length T.counts) && not (eqb o (p + 1))

  -- not "sender's number not 0 for a local step; 0 or above the sender's m for a receipt"
  unfoldable pub number_ok : ℕ → ℕ → Bool
  number_ok zero k = eqb k 0
  number_ok (suc s) k = leb 1 k && leb k (at T.counts s)

  -- not "a stamp breaks the rule"
  unfoldable pub stamp_ok : Stamps → ℕ → ℕ → Bool
  stamp_ok S p e = every (length T.counts) (λ q. eqb (S p (suc e) q) (wanted T S (T.origin p (suc e)) p e q))

  -- the tests of event e + 1 of the station at place p
  abbrev pub record_tests : Stamps → ℕ → ℕ → List Test
  record_tests S p e =
      test Reason.Origin (origin_ok p (T.origin p (suc e)))
      ∷ test Reason.Number (number_ok (T.origin p (suc e)) (T.number p (suc e)))
      ∷ test Reason.Stamp (stamp_ok S p e)
      ∷ []

  -- "record by record in file order", where `tests` are those of one record
  unfoldable pub scan_records : (ℕ → ℕ → List Test) → Checked
  scan_records tests = scan_to (length T.counts) (λ p. scan_to (at T.counts p) (λ e. at_record p e (fault_of (tests p e))))

-- the checks of the records of a recording
unfoldable pub checked_records : Recording → Checked
checked_records R = scan_records (messages R) (record_tests (messages R) (stamps R))

module _ (lead w : ℕ) (s : List ℕ) where
  -- the tests of the whole
  abbrev pub form_tests : List Test
  form_tests =
      test Reason.TooShort (leb 1 (length s))
      ∷ test Reason.Stations (leb 1 (n_at lead s) && leb (n_at lead s) 8)
      ∷ test Reason.TooShort (leb (bytes_for (station_bit lead w (n_at lead s))) (length s))
      ∷ test Reason.TooShort (leb (needed lead w s) (length s))
      ∷ test Reason.TooLong (leb (length s) (needed lead w s))
      ∷ test Reason.Padding (eqb (padding lead w s) 0)
      ∷ []

  -- all of it, in the written order
  unfoldable pub checked_of : Checked
  checked_of = or_else (at_whole (fault_of form_tests)) (checked_records (recording_of lead w s))
