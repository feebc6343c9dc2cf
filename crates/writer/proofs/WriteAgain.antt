-- Read and written again gives the same bytes (`written_again`): what was read is accepted by the writer, and what the writer leaves packs the same
-- recording, of which there is one packing. In order: the lists make the recording; the writer accepts them; the bytes. Assumes nothing.
use mathlib.Core.Path.{◌≡◌, refl, sym, ap, ap₂, ◌∙◌}
use mathlib.Core.Bool.{true, ◌&&◌}
use mathlib.Core.List.{List, [], ◌∷◌, ◌++◌}
use Prim.Native.Nat.{ℕ, suc, ◌+◌, ◌*◌, ◌/◌, ◌%◌, ◌≤◌, ◌<◌}
use native.Mathlib.Nat.{le_refl, le_of_eq, add-mul-div_right, add-mul-mod_self_right, mul-le-mul_right, div-eq_of_lt, mod-eq_of_lt}
use native.Mathlib.Omega.{arith}
use lib.ListN.{length, get_or, drop}
use lib.IntN.{pos}
use lib.Dec.{leb}
use borrow.Author.Tests.{le-leb}
use Rattle.bits.proofs.BitsLaws.{field_lt}
use Rattle.levels.specs.Level.{is_level}
use Rattle.levels.proofs.LevelLaws.{twos_level}
use Rattle.cuts.specs.Below.{every, tab}
use Rattle.cuts.specs.Cut.{at}
use Rattle.cuts.proofs.BelowLaws.{sum_to-same, tab_same, length_tab, get_d-tab, true_every}
use Rattle.recording.specs.Recording.{Recording, counts_of, messages, stamps, levels}
use Rattle.recording.specs.Form.{n_at, m_at, start_at, first_at, level_at, count_at, event_of, recording_of, bytes_for, record_bit, needed, lead8, width8}
use Rattle.std.specs.Prelude.{Result, Ok}
use Rattle.refusal.specs.Refusal.{at_whole, at_record}
use Rattle.refusal.specs.declared.Reason.{Reason}
use Rattle.refusal.specs.declared.Refusal.{Refusal}
use Rattle.writer.specs.Write.{Given, given, first_given, recording_given, long_enough, not_longer, given_tests, writer_tests, checked_given, needed_given, Packs, Wrote, done, refused}
use Rattle.recording.specs.Check.{test, fault_of, record_tests, scan_records, checked_records, checked_of}
use Rattle.writer.specs.Again.{lists_of}
use Rattle.recording.proofs.CheckLaws.{no_test, and_then, pass_fault, scan_all}
use Rattle.recording.proofs.AcceptedRight.{Accepts, accepted_accepts, accepts_accepted}
use Rattle.writer.proofs.RoundTrip.{packs_same}
use Rattle.recording.proofs.CheckRight.{scan_sound, sound_writer, writer_scan, sound_scan}
use Rattle.recording.proofs.FormLaws.{stations_read, count_read, level_read}
use Rattle.recording.proofs.PlaceLaws.{first_at-lt}
use Rattle.recording.proofs.TabledLaws.{event_alike, tabled_same}
use Rattle.writer.proofs.GivenLaws.{stations_given}
use Rattle.writer.proofs.CheckedGiven.{accepts}

-- place q of record r, n to a record
place_row : (n r q : ℕ) → q < n → (r * n + q) / n ≡ r
place_row n r q h =
    let e : r * n + q ≡ q + r * n = omega arith in
    let z : 0 < n = omega arith in
    rw e (add-mul-div_right q r z ∙ omega (arith, div-eq_of_lt h))

place_column : (n r q : ℕ) → q < n → (r * n + q) % n ≡ q
place_column n r q h =
    let e : r * n + q ≡ q + r * n = omega arith in
    rw e (add-mul-mod_self_right q r n ∙ mod-eq_of_lt h)

-- row r of n places lies within t of them
row_within : (n t r q : ℕ) → r < t → q < n → r * n + q < t * n
row_within n t r q h k = omega (arith, mul-le-mul_right n h)

same_leb : (x y : ℕ) → x ≡ y → leb x y ≡ true
same_leb x y e = le-leb x y (le_of_eq e)

-- lists that are as long as they should be
just_long : (g : Given) → length g.counts ≡ g.n → length g.starts ≡ g.n → length g.origins ≡ first_given g g.n → length g.numbers ≡ first_given g g.n
    → length g.levels ≡ first_given g g.n → length g.stamps ≡ first_given g g.n * g.n → (long_enough g ≡ true) × (not_longer g ≡ true)
unfolding long_enough not_longer
just_long g a b c d e f = (
  simp (same_leb _ _ (sym a), same_leb _ _ (sym b), same_leb _ _ (sym c), same_leb _ _ (sym d), same_leb _ _ (sym e), same_leb _ _ (sym f)),
  simp (same_leb _ _ a, same_leb _ _ b, same_leb _ _ c, same_leb _ _ d, same_leb _ _ e, same_leb _ _ f),
)

module _ (lead w : ℕ) (s : List ℕ) where
  abbrev R : Recording
  R = recording_of lead w s

  abbrev n : ℕ
  n = n_at lead s

  abbrev T : ℕ
  T = first_at lead w s n

  abbrev g : Given
  g = lists_of lead w s

  count_list : (p : ℕ) → p < n → at g.counts p ≡ m_at lead w s p
  unfolding lists_of
  count_list p h = get_d-tab n _ 0 p h

  first_list : (p : ℕ) → p ≤ n → first_given g p ≡ first_at lead w s p
  unfolding first_given first_at
  first_list p h = sum_to-same p _ _ (λ q l. count_list q (omega arith))

  given_list : (r : ℕ) → r < T → given g r ≡ event_of lead w s n r
  unfolding lists_of event_of
  given_list r h =
      event_alike _ _ (get_d-tab T _ 0 r h) (get_d-tab T _ 0 r h) (get_d-tab T _ (pos 0) r h)
      (tab_same n _ _ (λ q l. get_d-tab (T * n) _ 0 (r * n + q) (row_within n T r q h l) ∙ ap₂ (count_at lead w s n) (place_row n r q l) (place_column n r q l)))

  -- the lists make the recording again
  pub lists_recording : recording_given g ≡ recording_of lead w s
  unfolding recording_given recording_of lists_of
  lists_recording =
      tabled_same n _ _ _ _ _ _ (λ p h. get_d-tab n (start_at lead w s) (pos 0) p h) count_list
      (λ p e h k. ap (λ (i : ℕ). given g (i + e)) (first_list p (omega arith)) ∙ given_list _ (first_at-lt lead w s p e n h k))

  level_lists : (p e : ℕ) → p < n → e < m_at lead w s p → is_level (levels (recording_of lead w s) p (suc e)) ≡ true
  unfolding level_at
  level_lists p e h k = rw (level_read lead w s p e h k) (twos_level _ (field_lt s _ 12))

  first_all : first_given g n ≡ T
  first_all = first_list n (le_refl n)

  -- what was read passes the writer's tests before the records
  lists_pass : 1 ≤ n → n ≤ 8 → fault_of (given_tests g) ≡ Ok tt
  unfolding lists_of start_at
  lists_pass a b = pass_fault (and_then within (and_then just.0 (and_then just.1 (and_then levelled no_test))))
    where
      just : (long_enough g ≡ true) × (not_longer g ≡ true)
      just =
          just_long g (length_tab n _) (length_tab n _) (length_tab T _ ∙ sym first_all) (length_tab T _ ∙ sym first_all) (length_tab T _ ∙ sym first_all)
          (length_tab (T * n) _ ∙ ap (λ (t : ℕ). t * n) (sym first_all))

      within : (leb 1 n && leb n 8) ≡ true
      within = rw (le-leb 1 n a, le-leb n 8 b) refl

      levelled : every n (λ p. is_level (get_or (tab n (start_at lead w s)) p (pos 0))) ≡ true
      levelled = true_every n _ (λ p h. ap is_level (get_d-tab n (start_at lead w s) (pos 0) p h) ∙ twos_level _ (field_lt s _ 12))

  -- and, where its records pass the reader's tests, the writer's too
  records_pass : scan_records (messages R) (record_tests (messages R) (stamps R)) ≡ Ok tt → scan_records (messages R) (writer_tests R) ≡ Ok tt
  unfolding scan_records at_record
  records_pass h = scan_all _ (length (counts_of R)) (λ p hp. scan_all _ (at (counts_of R) p) (λ e he. rw (passes p e hp he) refl))
    where
      passes : (p e : ℕ) → p < length (counts_of R) → e < at (counts_of R) p → fault_of (writer_tests R p e) ≡ Ok tt
      passes p e hp he = sound_writer (messages R) (stamps R) p e _ (scan_sound (messages R) (stamps R) h p e hp he) (level_lists p e (rw (stations_read lead w s) at hp) (rw (count_read lead w s p (rw (stations_read lead w s) at hp)) at he))

  needed_lists : needed_given lead w g ≡ needed lead w s
  unfolding needed_given needed lists_of
  needed_lists = ap (λ (t : ℕ). bytes_for (record_bit lead w n t)) first_all

  -- the writer accepts what was read, in a room that has its bytes
  pub lists_accepted : (room : ℕ) → checked_of lead w s ≡ Ok tt → needed lead w s ≤ room → checked_given lead w g room ≡ Ok tt
  unfolding checked_given checked_records at_whole
  lists_accepted room h k =
      let a = accepted_accepts lead w s h in
      let whole : fault_of (given_tests g) ≡ Ok tt = lists_pass a.n_least a.n_most in
      let each : scan_records (messages (recording_given g)) (writer_tests (recording_given g)) ≡ Ok tt = rw lists_recording (records_pass a.records) in
      let roomy : fault_of (test Reason.Room (leb (needed_given lead w g) room) ∷ []) ≡ Ok tt = pass_fault (and_then (le-leb (needed_given lead w g) room (rw needed_lists k)) no_test) in
      rw (whole, each, roomy) refl

  -- the bytes of an accepted recording pack it
  pub read_packs : ((i : ℕ) → get_or s i 0 < 256) → checked_of lead w s ≡ Ok tt → Packs lead w R s
  read_packs b h = let a = accepted_accepts lead w s h in record { bytes = b; fields = refl; just_needed = a.just_needed; padded = a.padded }

-- a packing of what the writer accepted is accepted by the reader
packed_accepts : (lead w : ℕ) (g : Given) (s : List ℕ) (room : ℕ) → checked_given lead w g room ≡ Ok tt → Packs lead w (recording_given g) s → Accepts lead w s
unfolding checked_records
packed_accepts lead w g s room h p =
    let a = accepts lead w g room h in
    record {
      n_least = rw n_is a.whole.least;
      n_most = rw n_is a.whole.most;
      just_needed = p.just_needed;
      padded = p.padded;
      records = rw p.fields (sound_scan (messages (recording_given g)) (stamps (recording_given g)) (λ q e hq he. (writer_scan (messages (recording_given g)) (stamps (recording_given g)) _ a.records q e hq he).0));
    }
  where
    n_is : n_at lead s ≡ g.n
    n_is = sym (stations_read lead w s) ∙ ap (λ (R : Recording). length (counts_of R)) p.fields ∙ stations_given g

-- an accepted recording, read and written again: every reply that the writer's promise permits is these bytes in front of the room
pub written_again : (s room after : List ℕ) (r : Result ℕ Refusal) → ((i : ℕ) → get_or s i 0 < 256) → checked_of lead8 width8 s ≡ Ok tt → length s ≤ length room
    → Wrote lead8 width8 (lists_of lead8 width8 s) room after r → (r ≡ Ok (length s)) × (after ≡ s ++ drop (length s) room)
written_again s room after r b h k (refused x e) = let y = sym (lists_accepted 4 8 s (length room) h (rw (accepted_accepts 4 8 s h).just_needed at k)) ∙ x in cc
written_again s room after r b h k (done {s = t} x p e) = (ap (λ (l : List ℕ). Ok (length l)) same, e ∙ ap (λ (l : List ℕ). l ++ drop (length l) room) same)
  where
    same : t ≡ s
    same = packs_same 8 (recording_of 4 8 s) t s (rw (lists_recording 4 8 s) at p) (read_packs 4 8 s b h)

-- written values read back the same: what the writer leaves in front of the room is a recording that the reader accepts, and its value is the one handed in
pub written_read : (g : Given) (room after : List ℕ) (k : ℕ) → Wrote lead8 width8 g room after (Ok k)
    → (s : List ℕ) × (after ≡ s ++ drop k room) × (length s ≡ k) × (checked_of lead8 width8 s ≡ Ok tt) × (recording_of lead8 width8 s ≡ recording_given g)
written_read g room after k (done {s = s} x p e) = (s, e, refl, accepts_accepted 4 8 s (packed_accepts 4 8 g s (length room) x p), p.fields)
