-- What the recording laid out flat says is what the recording says. In order: the full cut; the start levels; the table of stamps; the table of levels;
-- that the full cut and the start levels are one reply each. Assumes nothing.
use mathlib.Core.Path.{◌≡◌, sym, ap, ◌∙◌}
use mathlib.Core.Bool.{true}
use mathlib.Core.List.{List, ◌++◌}
use Prim.Native.Nat.{ℕ, suc, ◌+◌, ◌*◌, ◌≤◌, ◌<◌}
use native.Mathlib.Decide.{dec_lt}
use native.Mathlib.Omega.{arith}
use lib.ListN.{length, get_or, take, drop, length-take, get_or-append, get_or-eq_default}
use lib.Seq.{get_or-take, ext_get_or}
use Rattle.bits.proofs.BitsLaws.{field_lt}
use Rattle.cuts.proofs.ReplyLaws.{replies_equal}
use Rattle.levels.specs.Level.{level_of}
use Rattle.levels.proofs.LevelLaws.{level_of-excess}
use Rattle.cuts.specs.Below.{tab}
use Rattle.cuts.specs.Cut.{at}
use Rattle.cut.specs.Value as value
use Rattle.cut.specs.declared.Cut.{Cut}
use Rattle.cuts.proofs.BelowLaws.{length_tab, get_d-tab, tab_same}
use Rattle.recording.specs.Recording.{Event, Recording, counts_of, stamps, levels}
use Rattle.recording.specs.Form.{n_at, m_at, start_at, first_at, level_at, count_at, event_of, recording_of}
use Rattle.recording.specs.Decode.{events_at, stamp_cell, level_cell, full_of, starts_of, stamps_fit, stamps_in, levels_fit, levels_in}
use Rattle.recording.proofs.FormLaws.{counts_read, event_read, level_read, stamp_read, start_read}
use Rattle.recording.proofs.PlaceLaws.{first_at-lt}
use Rattle.recording.proofs.DecodeLaws.{events_at-in, events_at-beyond, start_cell-in, stamp_cell-count, stamp_cell-none, fits_true}

take_tab : (n m : ℕ) (f : ℕ → ℕ) → n ≤ m → take n (tab m f) ≡ tab n f
take_tab n m f h =
    let l : length (take n (tab m f)) ≡ n = simp (length-take, length_tab) (omega arith) in
    ext_get_or 0 (take n (tab m f)) (tab n f) (l ∙ sym (length_tab n f)) λ i k.
    get_or-take n (tab m f) i 0 (omega arith) ∙ get_d-tab m f 0 i (omega arith) ∙ sym (get_d-tab n f 0 i (omega arith))

-- a number of a table in the front of a room
get_d_front : (k : ℕ) (f : ℕ → ℕ) (room : List ℕ) (j : ℕ) → j < k → get_or (tab k f ++ drop k room) j 0 ≡ f j
get_d_front k f room j h = get_or-append (tab k f) (drop k room) 0 j (omega (arith, length_tab k f)) ∙ get_d-tab k f 0 j h

module _ (lead w : ℕ) (s : List ℕ) where
  abbrev R : Recording
  R = recording_of lead w s

  abbrev n : ℕ
  n = n_at lead s

  -- T
  abbrev T : ℕ
  T = first_at lead w s n

  -- the full cut has the recording's counts
  pub full_cut_counts : n ≤ 8 → value.counts_of (full_of lead w s) ≡ counts_of R
  unfolding full_of
  full_cut_counts h = take_tab n 8 _ h ∙ tab_same n _ _ (λ p l. events_at-in lead w s n p l) ∙ sym (counts_read lead w s)

  -- and is a full cut: "counts beyond n are 0"
  pub full_cut_full : 1 ≤ n → n ≤ 8 → value.FullCut (full_of lead w s)
  unfolding full_of
  full_cut_full g h = record {
    some_station = g;
    most_eight = h;
    beyond = λ p l k. get_d-tab 8 (events_at lead w s n) 0 p l ∙ events_at-beyond lead w s n p k;
  }

  pub starts_level : n ≤ 8 → (p : ℕ) → p < n → level_of (get_or (starts_of lead w s) p 0) ≡ levels R p 0
  unfolding starts_of start_at
  starts_level h p k =
      ap level_of (get_d-tab 8 _ 0 p (omega arith) ∙ start_cell-in lead w s n p k)
      ∙ level_of-excess _ (field_lt s _ 12)
      ∙ sym (start_read lead w s p k)

  -- a room has the table of stamps where n is at most 8 and the room has eight places a record
  pub stamps_fit_lem : (room : ℕ) → stamps_fit lead w s room ≡ true → (n ≤ 8) × (8 * T ≤ room)
  unfolding stamps_fit
  stamps_fit_lem room h = fits_true n (8 * T) room h

  pub levels_fit_lem : (room : ℕ) → levels_fit lead w s room ≡ true → (n ≤ 8) × (T ≤ room)
  unfolding levels_fit
  levels_fit_lem room h = fits_true n T room h

  module _ (p e : ℕ) (h : p < n) (k : e < m_at lead w s p) where
    -- a stamp has no counts beyond n
    pub stamp_beyond : (q : ℕ) → n ≤ q → stamps R p (suc e) q ≡ 0
    unfolding event_of
    stamp_beyond q l =
        ap (λ (x : Event). at x.stamp q) (event_read lead w s p e h k)
        ∙ get_or-eq_default (tab n _) 0 (omega (arith, length_tab n (count_at lead w s n (first_at lead w s p + e))))

    -- the table's number at a record and a place is that count of the event's stamp
    pub stamp_cell-stamp : (q : ℕ) → q < 8 → stamp_cell lead w s n (8 * (first_at lead w s p + e) + q) ≡ stamps R p (suc e) q
    stamp_cell-stamp q l = go (dec_lt q n)
      where
        go : Dec (q < n) → stamp_cell lead w s n (8 * (first_at lead w s p + e) + q) ≡ stamps R p (suc e) q
        go (yes g) = stamp_cell-count lead w s n _ q g l ∙ sym (stamp_read lead w s p e h k q g)
        go (no g) = stamp_cell-none lead w s n _ q (omega arith) l ∙ sym (stamp_beyond q (omega arith))

    -- so is the number in a room that has the table
    pub stamps_stamp : (room : List ℕ) → stamps_fit lead w s (length room) ≡ true → (q : ℕ) → q < 8
        → get_or (stamps_in lead w s room) (8 * (first_at lead w s p + e) + q) 0 ≡ stamps R p (suc e) q
    unfolding stamps_in
    stamps_stamp room f q l =
        rw f (get_d_front (8 * T) _ room _ (omega (arith, first_at-lt lead w s p e n h k)) ∙ stamp_cell-stamp q l)

    -- the table's number at a record is the level after the event
    pub levels_level : (room : List ℕ) → levels_fit lead w s (length room) ≡ true
        → level_of (get_or (levels_in lead w s room) (first_at lead w s p + e) 0) ≡ levels R p (suc e)
    unfolding levels_in level_cell level_at
    levels_level room f =
        rw f
        (ap level_of (get_d_front T (level_cell lead w s n) room _ (first_at-lt lead w s p e n h k))
        ∙ level_of-excess _ (field_lt s _ 12)
        ∙ sym (level_read lead w s p e h k))

  pub full_cut_unique : (r r' : Cut) → r ≡ full_of lead w s → r' ≡ full_of lead w s → r ≡ r'
  full_cut_unique r r' = replies_equal

  pub starts_unique : (r r' : List ℕ) → r ≡ starts_of lead w s → r' ≡ starts_of lead w s → r ≡ r'
  starts_unique r r' = replies_equal
