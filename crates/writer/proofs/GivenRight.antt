-- The checks of what was handed in, as the code works them out of its tables, are the tests in the written order: the tables have the recording that was
-- handed in, so a record's fault is right by `TablesRight`, and a level's test stands between those of the number and of the stamp. In order: the tables; a
-- record; all records. Assumes nothing.
use mathlib.Core.Path.{◌≡◌, sym, ap, ◌∙◌}
use Prim.Native.Nat.{ℕ, suc, ◌+◌, ◌<◌}
use native.Mathlib.Omega.{arith}
use lib.IntN.{ℤ, pos}
use lib.ListN.{get_or}
use Rattle.cuts.specs.Cut.{at}
use Rattle.cuts.proofs.BelowLaws.{get_d-tab}
use Rattle.recording.specs.Recording.{Event, Recording, messages}
use Rattle.recording.specs.Fault.{fault_at, scanned_faults, fault_in}
use Rattle.faults.specs.Fault.{table_fault}
use Rattle.faults.specs.declared.Tables.{Tables}
use Rattle.recording.proofs.CheckLaws.{faults_scanned}
use Rattle.writer.specs.Write.{Given, first_given, recording_given, writer_tests}
use Rattle.writer.specs.Tables.{Laid, level_fault, given_fault, scanned_given}
use Rattle.writer.proofs.GivenLaws.{stations_given, count_given, event_given, stamp_given, first_part}
use Rattle.writer.proofs.WriterLaws.{level_between}
use Rattle.recording.proofs.TablesRight.{Tables as Tabled, table_right}

module _ {g : Given} {t : Tables} (laid : Laid g t) where
  abbrev R : Recording
  R = recording_given g

  abbrev n : ℕ
  n = g.n

  count_laid : (p : ℕ) → p < n → at t.counts p ≡ at g.counts p
  count_laid p h = ap (λ l. at l p) laid.counts ∙ get_d-tab 8 (at g.counts) 0 p (omega (arith, laid.most))

  first_laid : (p : ℕ) → p < n → at t.firsts p ≡ first_given g p
  unfolding first_given
  first_laid p h = (laid.firsts p (omega (arith, laid.most))).0

  pub given_tables : Tabled R n t.counts t.firsts t.rows.now
  given_tables = record {
    stations = stations_given g;
    most = laid.most;
    counts = λ p h. count_laid p h ∙ sym (count_given g p h);
    room = λ p h. omega (arith, laid.stamps.room, laid.records, first_laid p h, count_laid p h, first_part g p (at g.counts p) h (omega arith));
    places = λ p e q hp he hq.
        let k : e < at g.counts p = omega (arith, count_laid p hp) in
        rw (first_laid p hp) (laid.stamps.cells (first_given g p + e) q (omega (arith, laid.records, first_part g p (suc e) hp k)) hq ∙ sym (stamp_given g p e q hp k hq));
  }

  -- the fault of event e + 1 of the station at place p, which is record r
  pub record_right : (p e r o k : ℕ) (v : ℤ) → p < n → e < at t.counts p → r ≡ at t.firsts p + e → o ≡ at g.origins r → k ≡ at g.numbers r → v ≡ get_or g.levels r (pos 0)
      → level_fault (table_fault t.n t.counts t.firsts t.rows.now o k p e) v ≡ given_fault g p e
  unfolding fault_at given_fault
  record_right p e r o k v hp he er eo ek ev =
      let h : e < at g.counts p = omega (arith, count_laid p hp) in
      let x = event_given g p e hp h in
      rw (eo, ek, ev, er, first_laid p hp, laid.stations, table_right given_tables p e hp he _ _ (ap (λ (y : Event). y.origin) x) (ap (λ (y : Event). y.number) x), sym (ap (λ (y : Event). y.level) x))
      (level_between _ _ _ _)

  -- all records, station by station
  pub records_scan : scanned_faults n t.counts (fault_in n t.counts (given_fault g)) ≡ scanned_given g
  unfolding scanned_given given_fault
  records_scan = faults_scanned (messages R) (writer_tests R) n t.counts (stations_given g) (λ p h. count_laid p h ∙ sym (count_given g p h))
