-- The settled examples 1 to 11 hold of every reply that the promise of `judge` permits: what is computed on each job, by computation over its bytes, meets
-- the promise (`computed_verdicts`), and the promise permits one reply only (`judged_unique`).
-- In order: what is computed of a job; a row of verdicts, a refused one; the table. Assumes nothing.
use mathlib.Core.Path.{◌≡◌, refl, sym, ap, ◌∙◌}
use mathlib.Core.Bool.{Bool, true, false, not, cond, false≢true}
use mathlib.Core.Option.{Option, none, some}
use mathlib.Core.List.{List, [], ◌∷◌, ◌++◌, map}
use Prim.Native.Nat.{ℕ, zero, suc, pred, ◌≤◌, ◌<◌}
use native.Mathlib.Nat.{not-suc-le-zero, le_of_suc-le-suc}
use native.Mathlib.Omega.{arith}
use lib.ListN.{length, take, drop, get_or-append, length-append, length-drop}
use lib.Seq.{take_at, drop_at}
use lib.Dec.{leb}
use borrow.Author.Tests.{leb-true}
use Rattle.bits.specs.Bits.{bit_at, field}
use Rattle.levels.specs.Level.{twos}
use Rattle.cuts.specs.Below.{first_from, any, every, sum_to, product_to, tab}
use Rattle.cuts.specs.Cut.{at, total}
use Rattle.cuts.specs.Rank.{box, rank, unrank, weight}
use Rattle.cuts.specs.Trace.{agrees}
use Rattle.cut.specs.Value.{counts_of}
use Rattle.cut.specs.declared.Cut.{Cut}
use Rattle.cuts.specs.Computed.{met, mark_of, tabled, walk, table, poss_of, def_of}
use Rattle.cuts.proofs.TabledRight.{length_tabled}
use Rattle.recording.specs.Form.{bytes_for, n_at, station_bit, record_size, record_bit, m_at, start_at, first_at, origin_at, number_at, level_at, count_at, event_of, recording_of, needed, padding, lead8, width8}
use Rattle.std.specs.Prelude.{Ok, Err, Some, None}
use Rattle.recording.specs.Check.{fault_of, scan_to, origin_ok, number_ok, stamp_ok, scan_records, checked_records, checked_of}
use Rattle.refusal.specs.Refusal.{Tested, Checked, at_record, at_whole}
use Rattle.marks.specs.Flat.{witness_in, cut_of_counts}
use Rattle.marks.specs.declared.Verdicts.{Verdicts}
use Rattle.condition.specs.Condition.{bound_of, between, lies, sum_asked, inside, holds_by, holds_of, raised_of, kind_at, k_at, low_at, high_at, asked_at, window_low, window_high, window_ok, condition_ok, kind_of, window_of, condition_of, refused_of}
use Rattle.text.specs.Text.{decimal_to, numbers, line, poss_text, def_text}
use Rattle.engine.specs.Job.{part_of, none_above, room_tests, C, m, L, checked_job, counts_in, poss_in, Judged, refused, accepted}
use Rattle.reply.specs.Answer.{marks_room, path_room, poss_line, def_line, text_of}
use Rattle.engine.specs.Computed.{given, evidence, reply_of}
use Rattle.engine.proofs.JudgeRight.{computed_verdicts, judged_unique}
use Rattle.engine.proofs.RoomLaws.{room_0}
use Rattle.settled.specs.Examples.{Answer, refuses, answers, Row, row, rows, input, output, reply_to, marks_of, path_of, events_of, refusal_to, told, text_to, laid, Settled, Each}

-- what is computed of a row: the refusal number of its condition and the answer of its recording's checks; where it is not refused, whether no station
-- above n is asked, the box is within its limit and T within the program's room; m, the marks and the verdicts; and of the evidence that the row states,
-- the counts as they stand in a cut of eight, the length of the path (T if there is none), and its stations, each taken for its place and back
record Found : Type 0 where
  refused : Tested
  checked : Checked
  asked : Bool
  small : Bool
  short : Bool
  counts : List ℕ
  marks : List ℕ
  poss : Option (List ℕ)
  def : Option (List ℕ)
  witness : List ℕ
  steps : ℕ
  stations : List ℕ

abbrev found_of : List ℕ → Answer → Found
found_of job (refuses k station event) = record {
  refused = refused_of job;
  checked = checked_of lead8 width8 (part_of job);
  asked = true;
  small = true;
  short = true;
  counts = [];
  marks = [];
  poss = none;
  def = none;
  witness = [];
  steps = 0;
  stations = [];
}
found_of job (answers m₀ poss def marks) = record {
  refused = refused_of job;
  checked = checked_of lead8 width8 (part_of job);
  asked = none_above (C job) (length (m job));
  small = leb (box (m job)) 65536;
  short = leb (total (m job)) path_room;
  counts = m job;
  marks = table (L job);
  poss = poss_of (L job);
  def = def_of (L job);
  witness = cond (given poss) (take (length m₀) (tab 8 (at (evidence poss)))) [];
  steps = cond (given def) (length (evidence def)) (total m₀);
  stations = map suc (map pred (evidence def));
}

-- a path's station numbers as places
abbrev places : Option (List ℕ) → Option (List ℕ)
places none = none
places (some path) = some (map pred path)

-- what it is to be
abbrev wanted : Answer → Found
wanted (refuses k station event) = record {
  refused = Ok tt;
  checked = Err (refusal_to k station event);
  asked = true;
  small = true;
  short = true;
  counts = [];
  marks = [];
  poss = none;
  def = none;
  witness = [];
  steps = 0;
  stations = [];
}
wanted (answers m₀ poss def marks) = record {
  refused = Ok tt;
  checked = Ok tt;
  asked = true;
  small = true;
  short = true;
  counts = m₀;
  marks = marks;
  poss = poss;
  def = places def;
  witness = evidence poss;
  steps = total m₀;
  stations = evidence def;
}

-- none is 0, at each place
positive : (p : List ℕ) → map suc (map pred p) ≡ p → (i : ℕ) → i < length p → 0 < at p i
positive [] h i l = absurd (not-suc-le-zero l)
positive (x ∷ p) h zero l = let e : suc (pred x) ≡ x = ap (λ (k : List ℕ). at k 0) h in omega (arith, e)
positive (x ∷ p) h (suc i) l = positive p (ap (drop 1) h) i (le_of_suc-le-suc l)

-- a path has T stations, and none is 0
abbrev Stations : ℕ → Option (List ℕ) → Type 0
Stations t o = (cond (given o) (length (evidence o)) t ≡ t) × (map suc (map pred (evidence o)) ≡ evidence o)

-- the path room with a path laid into it
module _ (t : ℕ) (path : List ℕ) (fit : t ≤ length path) where
  laid_front : (o : Option (List ℕ)) → Stations t o → cond (not (given o)) none (some (map pred (take t (laid (evidence o) path)))) ≡ places o
  laid_front none h = refl
  laid_front (some p) h = ap (λ l. some (map pred l)) (take_at p (drop (length p) path) t h.0)

  laid_stations : (o : Option (List ℕ)) → Stations t o → not (given o) ≡ false → (i : ℕ) → i < t → 0 < at (laid (evidence o) path) i
  laid_stations none h e i l = absurd (false≢true (sym e))
  laid_stations (some p) h e i l =
      let k : i < length p = omega (arith, h.0) in
      rw (get_or-append p (drop (length p) path) 0 i k) (positive p h.1 i k)

  laid_rest : (o : Option (List ℕ)) → Stations t o → drop t (laid (evidence o) path) ≡ drop t path
  laid_rest none h = refl
  laid_rest (some p) h = drop_at p (drop (length p) path) t h.0 ∙ ap (λ k. drop k path) h.0

  laid_length : (o : Option (List ℕ)) → Stations t o → length (laid (evidence o) path) ≡ length path
  laid_length none h = refl
  laid_length (some p) h = length-append p (drop (length p) path) ∙ omega (arith, h.0, length-drop (length p) path)

  laid_kept : (o : Option (List ℕ)) → not (given o) ≡ true → laid (evidence o) path ≡ path
  laid_kept none e = refl
  laid_kept (some p) e = absurd (false≢true e)

module _ (job m₀ marks : List ℕ) (poss def : Option (List ℕ)) (found : found_of job (answers m₀ poss def marks) ≡ wanted (answers m₀ poss def marks)) where
  abbrev reply : Verdicts
  reply = reply_of (length m₀) poss def

  abbrev t : ℕ
  t = total m₀

  counts_are : m job ≡ m₀
  counts_are = ap (λ f. f.counts) found

  marks_are : table (L job) ≡ marks
  marks_are = ap (λ f. f.marks) found

  box_is : box (m job) ≡ length marks
  box_is = sym (length_tabled (mark_of (L job)) (m job) (box (m job))) ∙ ap length marks_are

  total_is : total (m job) ≡ total m₀
  total_is = ap total counts_are

  witness_is : cond (given poss) (take (length m₀) (tab 8 (at (evidence poss)))) [] ≡ evidence poss
  witness_is = ap (λ f. f.witness) found

  stations : Stations t def
  stations = (ap (λ f. f.steps) found, ap (λ f. f.stations) found)

  -- the reply's answers are those computed
  poss_found : poss_in reply ≡ poss_of (L job)
  poss_found = go poss witness_is ∙ sym (ap (λ f. f.poss) found)
    where
      go : (o : Option (List ℕ)) → cond (given o) (take (length m₀) (tab 8 (at (evidence o)))) [] ≡ evidence o → counts_in (witness_in (length m₀) o) ≡ o
      go none h = refl
      go (some c) h = ap some h

  witness_found : (w : Cut) → reply.witness ≡ Some w → w ≡ record { counts = tab 8 (at (counts_of w)); n = length (m job) }
  witness_found = go poss witness_is
    where
      cut : List ℕ → ℕ → Cut
      cut c n = record { counts = tab 8 (at c); n = n }

      go : (o : Option (List ℕ)) → cond (given o) (take (length m₀) (tab 8 (at (evidence o)))) [] ≡ evidence o → (w : Cut) → witness_in (length m₀) o ≡ Some w → w ≡ record { counts = tab 8 (at (counts_of w)); n = length (m job) }
      go none h w e = let z : ◌≡◌ {A = ℕ} 0 1 = cc in absurd (omega arith)
      go (some c) h w e =
          let z : w ≡ cut_of_counts (length m₀) c = cc in
          rw z (ap (cut c) (sym (ap length counts_are)) ∙ ap (λ k. cut k (length (m job))) (sym h))

  -- it is accepted, in rooms of so many bytes
  checked_found : (marks' path' : ℕ) → box (m job) ≤ marks' → total (m job) ≤ path' → checked_job job marks' path' ≡ Ok tt
  unfolding checked_job at_whole
  checked_found marks' path' fit fit' = rw (ap (λ f. f.refused) found, ap (λ f. f.checked) found, sym rooms) refl
    where
      rooms : Ok tt ≡ fault_of (room_tests (C job) (length (m job)) (box (m job)) (total (m job)) marks' path')
      rooms = room_0 _ _ _ _ _ _ (ap (λ f. f.asked) found) (leb-true _ _ (ap (λ f. f.small) found)) fit fit'

  pub verdicts_printed : text_of job ≡ text_to (answers m₀ poss def marks)
  unfolding text_of
  verdicts_printed = rw (checked_found marks_room path_room (leb-true _ _ (ap (λ f. f.small) found)) (leb-true _ _ (ap (λ f. f.short) found)), ap (λ f. f.poss) found, ap (λ f. f.def) found) (lines poss def stations.1)
    where
      lines : (o d : Option (List ℕ)) → map suc (map pred (evidence d)) ≡ evidence d → poss_line o ++ def_line (places d) ≡ poss_text (told o) ++ def_text (told d)
      lines none none h = refl
      lines (some c) none h = refl
      lines none (some path) h = ap (λ l. poss_text None ++ def_text (Some l)) h
      lines (some c) (some path) h = ap (λ l. poss_text (Some c) ++ def_text (Some l)) h

  module _ (room path : List ℕ) (fit : length marks ≤ length room) (fit' : total m₀ ≤ length path) where
    marks_found : laid marks room ≡ table (L job) ++ drop (box (m job)) room
    marks_found = rw (marks_are, box_is) refl

    pub verdicts_permitted : Judged job room path (Ok reply) (laid marks room) (laid (evidence def) path)
    verdicts_permitted =
        accepted
        (checked_found (length room) (length path) (omega (arith, box_is)) (omega (arith, total_is)))
        (computed_verdicts
        job
        room
        path
        (laid marks room)
        (laid (evidence def) path)
        reply
        (ap (λ f. f.checked) found)
        poss_found
        (rw total_is (laid_front t path fit' def stations ∙ sym (ap (λ f. f.def) found)))
        witness_found
        marks_found
        (omega (arith, box_is))
        (rw total_is (laid_stations t path fit' def stations))
        (rw total_is (laid_rest t path fit' def stations))
        (laid_length t path fit' def stations)
        (laid_kept t path fit' def))

-- where it is what it is to be, the answer is permitted, and so it is settled
permitted_by : (job : List ℕ) (a : Answer) → found_of job a ≡ wanted a → (marks path : List ℕ) → length (marks_of a) ≤ length marks → events_of a ≤ length path
    → Judged job marks path (reply_to a) (laid (marks_of a) marks) (laid (path_of a) path)
unfolding checked_job at_whole
permitted_by job (refuses k station event) found marks path fit fit' =
    refused {x = refusal_to k station event} (rw (ap (λ f. f.refused) found, ap (λ f. f.checked) found) refl)
permitted_by job (answers m₀ poss def marks₀) found marks path fit fit' = verdicts_permitted job m₀ marks₀ poss def found marks path fit fit'

printed_by : (job : List ℕ) (a : Answer) → found_of job a ≡ wanted a → text_of job ≡ text_to a
unfolding text_of checked_job at_whole
printed_by job (refuses k station event) found = rw (ap (λ f. f.refused) found, ap (λ f. f.checked) found) refl
printed_by job (answers m₀ poss def marks) found = verdicts_printed job m₀ marks poss def found

settled_by : (job : List ℕ) (a : Answer) → found_of job a ≡ wanted a → Settled (row job a)
settled_by job a found = record {
  judged = λ marks path fit fit'.
      let p = permitted_by job a found marks path fit fit' in
      record { permitted = p; only = λ r marks' path' j. judged_unique job marks path r (reply_to a) marks' path' _ _ j p };
  printed = printed_by job a found;
}

settled_each : (table : List Row) → map (λ r. found_of r.job r.answer) table ≡ map (λ r. wanted r.answer) table → Each Settled table
settled_each [] e = tt
settled_each (r ∷ rest) e = let h : found_of r.job r.answer ≡ wanted r.answer = cc in (settled_by r.job r.answer h, settled_each rest (ap (drop 1) e))

-- by computation over the bytes of each job
found_each : map (λ r. found_of r.job r.answer) rows ≡ map (λ r. wanted r.answer) rows
unfolding bit_at field twos every sum_to tab bytes_for n_at station_bit record_size record_bit m_at start_at first_at origin_at number_at level_at count_at event_of recording_of needed padding fault_of at_record at_whole scan_to origin_ok number_ok stamp_ok scan_records checked_records checked_of bound_of between lies sum_asked inside holds_by holds_of raised_of kind_at k_at low_at high_at asked_at window_low window_high window_ok condition_ok kind_of window_of condition_of refused_of part_of none_above poss_of def_of walk tabled mark_of met any first_from product_to box rank unrank weight agrees
found_each = refl

-- the statement about the table
pub settled : Each Settled rows
settled = settled_each rows found_each

-- the whole example, byte for byte
pub whole_example : text_of input ≡ output
unfolding poss_text def_text line numbers decimal_to
whole_example = settled.0.printed ∙ refl
