-- Laws of the tests of the whole: each way through the code is one law. In order: whole bytes; the tests of the end; all of them; what holds where no test fails, and the tables then laid. Assumes nothing.
use mathlib.Core.Path.{◌≡◌, refl, sym, ap, ◌∙◌}
use mathlib.Core.Bool.{true, ◌&&◌}
use mathlib.Core.List.{List, [], ◌∷◌, ◌++◌}
use Prim.Native.Nat.{ℕ, ◌+◌, ◌-◌, ◌*◌, ◌≤◌, ◌<◌}
use native.Mathlib.Nat.{le_trans}
use native.Mathlib.Omega.{arith}
use lib.ListN.{length, drop}
use Rattle.std.specs.Prelude.{Ok, Err}
use lib.Seq.{take_at}
use lib.Dec.{leb, eqb}
use borrow.Author.Tests.{leb-true, le-leb, lt-leb, eq-eqb, ne_eqb}
use Rattle.bits.specs.Bits.{field, peeked}
use Rattle.bits.proofs.BitsLaws.{peeked_field}
use Rattle.cuts.specs.Below.{tab}
use Rattle.cuts.specs.Cut.{at}
use Rattle.cuts.proofs.BelowLaws.{and_true, length_tab, get_d-tab}
use Rattle.recording.specs.Form.{bytes_for, station_bit, record_bit, n_at, first_at, recording_of, needed, padding}
use Rattle.recording.specs.Check.{Test, test, fault_of, form_tests, checked_records, checked_of}
use Rattle.refusal.specs.Refusal.{Tested, whole, at_whole}
use Rattle.refusal.specs.declared.Reason.{Reason}
use Rattle.recording.specs.Decode.{events_at, records_to, stamp_cell, Laid}
use Rattle.recording.specs.Decoded.{RowsLaid}
use Rattle.recording.specs.Fault.{form_fault, end_fault}
use Rattle.recording.proofs.CheckLaws.{Pass, and_then, fault_pass, fault_next, fault_here, fault_twice}
use Rattle.recording.proofs.DecodeLaws.{records_to-first_at, records_to-beyond, records_to-most}

-- whole bytes hold the bits, and one less does not
pub bytes_for-holds : (b : ℕ) → (b ≤ 8 * bytes_for b) × (8 * bytes_for b ≤ b + 7)
unfolding bytes_for
bytes_for-holds b = (omega arith, omega arith)

-- the tests of the end, with d for the bytes needed
module _ (s : List ℕ) (b d : ℕ) (e : d ≡ bytes_for b) where
  abbrev zeros : Test
  zeros = test Reason.Padding (eqb (field s b (8 * d - b)) 0)

  abbrev from_long : List Test
  from_long = test Reason.TooLong (leb (length s) d) ∷ zeros ∷ []

  all_end : end_fault s b ≡ fault_of (test Reason.TooShort (leb d (length s)) ∷ from_long)
  unfolding end_fault
  all_end = rw (← e) refl

  pub end_fault-short : length s < d → Err Reason.TooShort ≡ end_fault s b
  end_fault-short h = sym (all_end ∙ fault_here _ from_long (lt-leb d (length s) h))

  module _ (h : d ≤ length s) where
    pass_short : end_fault s b ≡ fault_of from_long
    pass_short = all_end ∙ fault_next _ from_long (le-leb d (length s) h)

    pub end_fault-long : d < length s → Err Reason.TooLong ≡ end_fault s b
    end_fault-long g = sym (pass_short ∙ fault_here _ (zeros ∷ []) (lt-leb (length s) d g))

    module _ (g : length s ≤ d) (x : ℕ) (ex : x ≡ peeked s b (8 * d - b)) where
      pass_long : end_fault s b ≡ fault_of (zeros ∷ [])
      pass_long = pass_short ∙ fault_next _ (zeros ∷ []) (le-leb (length s) d g)

      read : x ≡ field s b (8 * d - b)
      read = ex ∙ peeked_field s b (8 * d - b) (omega (arith, e, bytes_for-holds b))

      pub end_fault-padding : (x ≡ 0 → ⊥) → Err Reason.Padding ≡ end_fault s b
      end_fault-padding f = sym (pass_long ∙ fault_here zeros [] (ne_eqb _ 0 (λ z. f (read ∙ z))))

      pub end_fault-right : x ≡ 0 → Ok tt ≡ end_fault s b
      unfolding fault_of
      end_fault-right f = sym (pass_long ∙ fault_next zeros [] (eq-eqb _ 0 (sym read ∙ f)))

stations_pass : {n : ℕ} → (leb 1 n && leb n 8) ≡ true → (1 ≤ n) × (n ≤ 8)
stations_pass {n = n} h = let (x, y) = and_true (leb 1 n) (leb n 8) h in (leb-true _ _ x, leb-true _ _ y)

-- the tests of the whole, with n as it was read; where the head is cut short the whole is
module _ (lead w : ℕ) (s : List ℕ) where
  abbrev from_end : List Test
  from_end = test Reason.TooShort (leb (needed lead w s) (length s)) ∷ test Reason.TooLong (leb (length s) (needed lead w s)) ∷ test Reason.Padding (eqb (padding lead w s) 0) ∷ []

  abbrev from_head : List Test
  from_head = test Reason.TooShort (leb (bytes_for (station_bit lead w (n_at lead s))) (length s)) ∷ from_end

  abbrev from_n : List Test
  from_n = test Reason.Stations (leb 1 (n_at lead s) && leb (n_at lead s) 8) ∷ from_head

  head_needed : bytes_for (station_bit lead w (n_at lead s)) ≤ needed lead w s
  unfolding needed bytes_for record_bit
  head_needed = omega arith

  pub form_fault-empty : length s < 1 → Err Reason.TooShort ≡ form_fault lead w s
  unfolding form_fault
  form_fault-empty a = sym (fault_here _ from_n (lt-leb 1 (length s) a))

  module _ (a : 1 ≤ length s) (n : ℕ) (en : n ≡ n_at lead s) where
    pass_empty : form_fault lead w s ≡ fault_of from_n
    unfolding form_fault
    pass_empty = fault_next _ from_n (le-leb 1 (length s) a)

    pub form_fault-none : n < 1 → Err Reason.Stations ≡ form_fault lead w s
    form_fault-none b = sym (pass_empty ∙ fault_here _ from_head (rw (lt-leb 1 (n_at lead s) (rw en at b)) refl))

    pub form_fault-many : 8 < n → Err Reason.Stations ≡ form_fault lead w s
    form_fault-many b = sym (pass_empty ∙ fault_here _ from_head (rw (le-leb 1 (n_at lead s) (omega arith), lt-leb (n_at lead s) 8 (rw en at b)) refl))

    module _ (b : 1 ≤ n) (c : n ≤ 8) where
      pass_head : form_fault lead w s ≡ fault_of from_end
      pass_head =
          pass_empty
          ∙ fault_next _ from_head (rw (le-leb 1 (n_at lead s) (rw en at b), le-leb (n_at lead s) 8 (rw en at c)) refl)
          ∙ fault_twice Reason.TooShort _ _ _ (λ h. le-leb (bytes_for (station_bit lead w (n_at lead s))) (length s) (le_trans head_needed (leb-true (needed lead w s) (length s) h)))

      pub form_fault-end : (t b : ℕ) (r : Tested) → t ≡ first_at lead w s (n_at lead s) → b ≡ record_bit lead w n t → r ≡ end_fault s b → r ≡ form_fault lead w s
      unfolding end_fault needed padding
      form_fault-end t b r et eb er = er ∙ rw (eb, et, en) (sym pass_head)

-- where no test fails
module _ (lead w : ℕ) (s : List ℕ) where
  -- n is 1 to 8
  pub form_fault-stations : form_fault lead w s ≡ Ok tt → (1 ≤ n_at lead s) × (n_at lead s ≤ 8)
  unfolding form_fault
  form_fault-stations h = go (fault_pass _ h)
    where
      go : Pass (form_tests lead w s) → (1 ≤ n_at lead s) × (n_at lead s ≤ 8)
      go (and_then a (and_then b r)) = stations_pass b

  -- the checks of the whole come first
  pub checked_of-fault : (k : Reason) → Err k ≡ form_fault lead w s → Err (whole k) ≡ checked_of lead w s
  unfolding checked_of form_fault at_whole
  checked_of-fault k e = rw (← e) refl

  -- .. and then those of the records
  pub checked_of-records : Ok tt ≡ form_fault lead w s → checked_records (recording_of lead w s) ≡ checked_of lead w s
  unfolding checked_of form_fault at_whole
  checked_of-records e = rw (← e) refl

  -- the tables as the code makes them are what the checks of the records read
  pub laid_read : (n : ℕ) (m firsts rows : List ℕ) → 1 ≤ n_at lead s → RowsLaid lead w s rows → n ≡ n_at lead s → m ≡ tab 8 (events_at lead w s n) → firsts ≡ tab 9 (records_to lead w s n)
      → Laid lead w s n m firsts rows
  laid_read n m firsts rows l h en em ef = record {
    n_is = en;
    n_least = omega arith;
    n_most = omega (arith, h.n_most);
    counts_are = em;
    firsts_are = ef;
    rows_are = rw (records_to-first_at lead w s n n (omega arith), en) h.table;
  }

  -- T, which is small, so that the table of stamps has room
  pub total_read : (n : ℕ) (firsts : List ℕ) → w ≤ 9 → n_at lead s ≤ 8 → n ≡ n_at lead s → firsts ≡ tab 9 (records_to lead w s n)
      → (at firsts 8 ≡ first_at lead w s (n_at lead s)) × (at firsts 8 ≤ 4088)
  total_read n firsts g b en ef =
      let e : at firsts 8 ≡ records_to lead w s n 8 = ap (λ (l : List ℕ). at l 8) ef ∙ get_d-tab 9 _ 0 8 (omega arith) in
      (e ∙ rw en (records_to-beyond lead w s (n_at lead s) 8 b), omega (arith, e, records_to-most lead w s n 8 g (omega arith)))

  -- the table of stamps in front of a room
  pub rows_laid : (n k : ℕ) (room rows : List ℕ) → n_at lead s ≤ 8 → n ≡ n_at lead s → k ≡ 8 * first_at lead w s (n_at lead s) → rows ≡ tab k (stamp_cell lead w s n) ++ drop k room → RowsLaid lead w s rows
  rows_laid n k room rows h en ek er = record { n_most = h; table = rw (← ek, er, ← en) (take_at _ _ _ (length_tab k _)) }
