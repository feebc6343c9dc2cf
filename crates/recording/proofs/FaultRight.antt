-- The tables that the reader lays have what the recording's events say, so the fault worked out of them is the first of the record's tests that fails, by
-- `TablesRight`; and the records of every station lie in the table. In order: what the tables have; their room; a record. Assumes nothing.
use mathlib.Core.Path.{◌≡◌, sym, ap, ◌∙◌}
use mathlib.Core.List.{List}
use Prim.Native.Nat.{ℕ, ◌+◌, ◌-◌, ◌*◌, ◌≤◌, ◌<◌, min}
use native.Mathlib.Omega.{arith}
use lib.ListN.{length, length-take}
use lib.Seq.{get_or-take}
use Rattle.bits.specs.Bits.{peeked}
use Rattle.cuts.specs.Cut.{at}
use Rattle.cuts.proofs.BelowLaws.{length_tab, get_d-tab}
use Rattle.recording.specs.Recording.{Recording, counts_of, messages, stamps}
use Rattle.recording.specs.Form.{record_bit, n_at, m_at, first_at, origin_at, number_at, recording_of}
use Rattle.recording.specs.Decode.{records_to, stamp_cell, Laid}
use Rattle.faults.specs.Fault.{table_fault}
use Rattle.refusal.specs.Refusal.{Tested}
use Rattle.recording.specs.Check.{record_tests, checked_records}
use Rattle.recording.specs.Fault.{fault_at, scanned_faults, fault_in}
use Rattle.recording.proofs.CheckLaws.{faults_scanned}
use Rattle.recording.proofs.FormLaws.{stations_read, count_read, origin_read, number_read}
use Rattle.recording.proofs.PlaceLaws.{peeked_read, first_at-more, first_at-le, first_at-mono, first_at-lt}
use Rattle.recording.proofs.DecodeLaws.{events_at-in, records_to-first_at, firsts_at}
use Rattle.recording.proofs.DecodeRight.{stamp_cell-stamp}
use Rattle.recording.proofs.TablesRight.{Tables, table_right}

module _ {lead w n : ℕ} {s m firsts rows : List ℕ} (laid : Laid lead w s n m firsts rows) where
  abbrev R : Recording
  R = recording_of lead w s

  n_read : length (counts_of R) ≡ n
  n_read = stations_read lead w s ∙ sym laid.n_is

  m_laid : (p : ℕ) → p < n → at m p ≡ m_at lead w s p
  m_laid p h = ap (λ (l : List ℕ). at l p) laid.counts_are ∙ get_d-tab 8 _ 0 p (omega arith) ∙ events_at-in lead w s n p h

  m_read : (p : ℕ) → p < n → at m p ≡ at (counts_of R) p
  m_read p h = m_laid p h ∙ sym (count_read lead w s p (omega arith))

  pub first_laid : (p : ℕ) → p ≤ n → at firsts p ≡ first_at lead w s p
  first_laid p h = firsts_at lead w s n firsts laid.firsts_are laid.n_most p h

  -- the table's room
  rows_room : 8 * first_at lead w s n ≤ length rows
  rows_room =
      let k = 8 * records_to lead w s n n in
      let e : min k (length rows) ≡ k = sym (length-take k rows) ∙ ap length laid.rows_are ∙ length_tab k _ in
      omega (arith, e, records_to-first_at lead w s n n (omega arith))

  row_laid : (j : ℕ) → j < 8 * first_at lead w s n → at rows j ≡ stamp_cell lead w s n j
  row_laid j h =
      let t = 8 * records_to lead w s n n in
      let l : j < t = omega (arith, records_to-first_at lead w s n n (omega arith)) in
      sym (get_or-take t rows j 0 l) ∙ ap (λ (l : List ℕ). at l j) laid.rows_are ∙ get_d-tab t _ 0 j l

  -- the records of every station lie in the table
  station_room : (q : ℕ) → q < n → 8 * (at firsts q + at m q) ≤ length rows
  station_room q h =
      let d : q + 1 + (n - (q + 1)) ≡ n = omega arith in
      omega (arith, m_laid q h, first_laid q (omega arith), first_at-more lead w s q, rw d at (first_at-mono lead w s (q + 1) (n - (q + 1))), rows_room)

  -- the tables have what the recording's events say
  laid_tables : Tables R n m firsts rows
  laid_tables = record {
    stations = n_read;
    most = laid.n_most;
    counts = m_read;
    room = station_room;
    places = λ p e q hp he hq.
        let k : e < m_at lead w s p = omega (arith, m_laid p hp) in
        rw (first_laid p (omega arith), row_laid (8 * (first_at lead w s p + e) + q) (omega (arith, first_at-lt lead w s p e n hp k)), laid.n_is)
        (stamp_cell-stamp lead w s p e (omega arith) k q (omega arith));
  }

  pub record_small : (p e : ℕ) → w ≤ 9 → p < n → e < at m p → at firsts p + e < 4096
  record_small p e hw hp he =
      omega (arith, first_laid p (omega arith), first_at-lt lead w s p e n hp (omega (arith, m_laid p hp)), first_at-le lead w s n hw)

  -- a record's fault, by the origin and number that were looked at where it begins
  pub record_right : (p e : ℕ) → w ≤ 9 → p < n → e < at m p → (b x k : ℕ) (f : Tested) → b ≡ record_bit lead w n (at firsts p + e) → x ≡ peeked s b 4 → k ≡ peeked s (b + 4) w
      → f ≡ table_fault n m firsts rows x k p e → f ≡ fault_at R p e
  unfolding origin_at number_at
  record_right p e hw hp he b x k f eb ex ek ef =
      let z : b ≡ record_bit lead w (n_at lead s) (first_at lead w s p + e) = rw (← (first_laid p (omega arith)), ← laid.n_is) eb in
      let hm : e < m_at lead w s p = omega (arith, m_laid p hp) in
      let (o, _) = peeked_read s b _ 4 4 x ex z (omega arith) (omega arith) in
      let (i, _) = peeked_read s (b + 4) _ w 9 k ek (ap (λ (a : ℕ). a + 4) z) hw (omega arith) in
      ef
      ∙ table_right laid_tables p e hp he x k
      (origin_read lead w s p e (omega arith) hm ∙ sym o)
      (number_read lead w s p e (omega arith) hm ∙ sym i)

  -- the checks of the records go through the tables, station by station and event by event
  pub records_scan : scanned_faults n m (fault_in n m (fault_at R)) ≡ checked_records R
  unfolding checked_records fault_at
  records_scan = faults_scanned (messages R) (record_tests (messages R) (stamps R)) n m n_read m_read
