-- The faults of the whole, of a record and of a station, by their tests; the fault of a record out of flat tables is in `faults`. Nothing here has to be
-- believed: it only gives names to what the checks ask.
use Rattle.std.specs.Prelude.{◌&&◌, cond, List, [], ◌∷◌, ℕ, ◌-◌, ◌*◌, length, leb, ltb, eqb, Ok}
use Rattle.bits.specs.Bits.{field}
use Rattle.cuts.specs.Cut.{at}
use Rattle.recording.specs.Recording.{Recording, messages, stamps}
use Rattle.recording.specs.Form.{bytes_for}
use Rattle.recording.specs.Check.{test, fault_of, scan_to, record_tests, form_tests}
use Rattle.refusal.specs.Refusal.{Tested, Checked, at_record}
use Rattle.refusal.specs.declared.Reason.{Reason}

-- the first test of the whole that fails
unfoldable pub form_fault : ℕ → ℕ → List ℕ → Tested
form_fault lead w s = fault_of (form_tests lead w s)

-- .. and among those of a recording that ends at the bit b
unfoldable pub end_fault : List ℕ → ℕ → Tested
end_fault s b =
    fault_of (test Reason.TooShort (leb (bytes_for b) (length s))
    ∷ test Reason.TooLong (leb (length s) (bytes_for b))
    ∷ test Reason.Padding (eqb (field s b (8 * bytes_for b - b)) 0)
    ∷ [])

-- the first test that fails of event e + 1 of the station at place p
unfoldable pub fault_at : Recording → ℕ → ℕ → Tested
fault_at R p e = fault_of (record_tests (messages R) (stamps R) p e)

-- the first refusal among the records of n stations that have m events, in file order, where `fault` is what is wrong with event e + 1 of the station at
-- place p
unfoldable pub scanned_faults : ℕ → List ℕ → (ℕ → ℕ → Tested) → Checked
scanned_faults n m fault = scan_to n (λ p. scan_to (at m p) (λ e. at_record p e (fault p e)))

-- what is wrong with that record where there is one; nothing where there is none
unfoldable pub fault_in : ℕ → List ℕ → (ℕ → ℕ → Tested) → ℕ → ℕ → Tested
fault_in n m fault p e = cond (ltb p n && ltb e (at m p)) (fault p e) (Ok tt)
