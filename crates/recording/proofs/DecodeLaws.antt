-- Laws of the recording laid out flat. In order: the counts of eight stations; the records before each station's; the start levels; the table of
-- stamps, by a number's place and by record and station; rooms that have the tables. Assumes nothing.
use mathlib.Core.Path.{◌≡◌, refl, ap, ap₂, ◌∙◌}
use mathlib.Core.Bool.{Bool, true, ◌&&◌, cond}
use mathlib.Core.List.{List, ◌++◌}
use Prim.Native.Nat.{ℕ, zero, suc, ◌+◌, ◌-◌, ◌*◌, ◌/◌, ◌%◌, ◌≤◌, ◌<◌}
use native.Mathlib.Nat.{add-zero, add-suc}
use native.Mathlib.Decide.{dec_lt, dec_le}
use native.Mathlib.Omega.{arith}
use lib.Dec.{leb}
use lib.ListN.{length, drop}
use borrow.Author.Tests.{lt-ltb, le-ltb, le-leb, leb-true}
use Rattle.bits.specs.Bits.{field, peeked}
use Rattle.levels.specs.Level.{excess_of}
use Rattle.cuts.specs.Below.{sum_to, tab}
use Rattle.cuts.specs.Cut.{at}
use Rattle.cuts.proofs.BelowLaws.{and_true, get_d-tab, sum_to-more, sum_to-same}
use Rattle.recording.specs.Form.{station_bit, record_bit, n_at, m_at, first_at, level_at, count_at}
use Rattle.recording.specs.Decode.{events_at, records_to, start_cell, stamp_cell, level_cell, stamps_fit, stamps_in, levels_fit, levels_in}
use Rattle.recording.proofs.PlaceLaws.{peeked_read, m_at-lt, first_at-le}

module _ (lead w : ℕ) (s : List ℕ) (n : ℕ) where
  pub events_at-in : (p : ℕ) → p < n → events_at lead w s n p ≡ m_at lead w s p
  unfolding events_at
  events_at-in p h = simp (lt-ltb p n h)

  pub events_at-beyond : (p : ℕ) → n ≤ p → events_at lead w s n p ≡ 0
  unfolding events_at
  events_at-beyond p h = simp (le-ltb p n h)

  pub events_at-lt : (p : ℕ) → w ≤ 9 → events_at lead w s n p < 512
  events_at-lt p h = go (dec_lt p n)
    where
      go : Dec (p < n) → events_at lead w s n p < 512
      go (yes k) = omega (arith, events_at-in p k, m_at-lt lead w s p h)
      go (no k) = omega (arith, events_at-beyond p (omega arith))

  pub records_to-zero : records_to lead w s n 0 ≡ 0
  unfolding records_to sum_to
  records_to-zero = refl

  pub records_to-more : (p : ℕ) → records_to lead w s n (p + 1) ≡ records_to lead w s n p + events_at lead w s n p
  unfolding records_to
  records_to-more p = sum_to-more p (events_at lead w s n)

  pub records_to-first_at : (p : ℕ) → p ≤ n → records_to lead w s n p ≡ first_at lead w s p
  unfolding records_to first_at
  records_to-first_at p h = sum_to-same p _ _ (λ q k. events_at-in q (omega arith))

  records_to-past : (d : ℕ) → records_to lead w s n (n + d) ≡ records_to lead w s n n
  unfolding records_to sum_to
  records_to-past zero = rw (add-zero n) refl
  records_to-past (suc d) = rw (add-suc n d) (omega (arith, records_to-past d, events_at-beyond (n + d) (omega arith)))

  -- T, from n on
  pub records_to-beyond : (p : ℕ) → n ≤ p → records_to lead w s n p ≡ first_at lead w s n
  records_to-beyond p h =
      let e : n + (p - n) ≡ p = omega arith in
      rw e at (records_to-past (p - n)) ∙ records_to-first_at n (omega arith)

  pub records_to-le : (p : ℕ) → w ≤ 9 → records_to lead w s n p ≤ 511 * p
  unfolding records_to sum_to
  records_to-le zero h = omega arith
  records_to-le (suc p) h = omega (arith, records_to-le p h, events_at-lt p h)

  pub records_to-most : (p : ℕ) → w ≤ 9 → n ≤ 8 → records_to lead w s n p ≤ 4088
  records_to-most p h k = go (dec_le p n)
    where
      go : Dec (p ≤ n) → records_to lead w s n p ≤ 4088
      go (yes l) = omega (arith, records_to-le p h)
      go (no l) = omega (arith, records_to-beyond p (omega arith), first_at-le lead w s n h)

  -- in the array of nine
  pub firsts_at : (firsts : List ℕ) → firsts ≡ tab 9 (records_to lead w s n) → n ≤ 8 → (p : ℕ) → p ≤ n → at firsts p ≡ first_at lead w s p
  firsts_at firsts e k p h = ap (λ (l : List ℕ). at l p) e ∙ get_d-tab 9 _ 0 p (omega arith) ∙ records_to-first_at p h

  pub start_cell-in : (p : ℕ) → p < n → start_cell lead w s n p ≡ excess_of (field s (station_bit lead w p + w) 12)
  unfolding start_cell
  start_cell-in p h = simp (lt-ltb p n h)

  pub start_cell-beyond : (p : ℕ) → n ≤ p → start_cell lead w s n p ≡ 0
  unfolding start_cell
  start_cell-beyond p h = simp (le-ltb p n h)

  pub stamp_cell-in : (j : ℕ) → j % 8 < n → stamp_cell lead w s n j ≡ count_at lead w s n (j / 8) (j % 8)
  unfolding stamp_cell
  stamp_cell-in j h = simp (lt-ltb (j % 8) n h)

  pub stamp_cell-beyond : (j : ℕ) → n ≤ j % 8 → stamp_cell lead w s n j ≡ 0
  unfolding stamp_cell
  stamp_cell-beyond j h = simp (le-ltb (j % 8) n h)

  pub stamp_cell-count : (r q : ℕ) → q < n → q < 8 → stamp_cell lead w s n (8 * r + q) ≡ count_at lead w s n r q
  stamp_cell-count r q h k =
      let a : (8 * r + q) / 8 ≡ r = omega arith in
      let b : (8 * r + q) % 8 ≡ q = omega arith in
      stamp_cell-in (8 * r + q) (omega arith) ∙ ap₂ (count_at lead w s n) a b

  pub stamp_cell-none : (r q : ℕ) → n ≤ q → q < 8 → stamp_cell lead w s n (8 * r + q) ≡ 0
  stamp_cell-none r q h k = stamp_cell-beyond (8 * r + q) (omega arith)

  -- a level that was looked at
  pub level_read : (r b x y : ℕ) → b ≡ record_bit lead w n r + 4 + w → x ≡ peeked s b 12 → y ≡ excess_of x → y ≡ level_cell lead w s n r
  unfolding level_cell level_at
  level_read r b x y eb ex ey = ey ∙ ap excess_of (peeked_read s _ _ 12 12 x ex eb (omega arith) (omega arith)).0

-- a room that has k numbers, for a recording of n stations
pub fits_true : (n k room : ℕ) → (leb n 8 && leb k room) ≡ true → (n ≤ 8) × (k ≤ room)
fits_true n k room h = let (a, b) = and_true (leb n 8) (leb k room) h in (leb-true n 8 a, leb-true k room b)

-- the room with k numbers in front where it has them, else as it is
module _ (n k : ℕ) (f : ℕ → ℕ) (room : List ℕ) where
  abbrev fits : Bool
  fits = leb n 8 && leb k (length room)

  abbrev front : List ℕ
  front = cond fits (tab k f ++ drop k room) room

  front_some : n ≤ 8 → k ≤ length room → tab k f ++ drop k room ≡ front
  front_some h l = rw (le-leb n 8 h, le-leb k (length room) l) refl

module _ (lead w : ℕ) (s room : List ℕ) (h : n_at lead s ≤ 8) (total : ℕ) (e : total ≡ first_at lead w s (n_at lead s)) where
  pub stamps_some : 8 * total ≤ length room → tab (8 * total) (stamp_cell lead w s (n_at lead s)) ++ drop (8 * total) room ≡ stamps_in lead w s room
  unfolding stamps_fit stamps_in
  stamps_some k = rw e (front_some (n_at lead s) (8 * first_at lead w s (n_at lead s)) (stamp_cell lead w s (n_at lead s)) room h (rw e at k))

  pub levels_some : total ≤ length room → tab total (level_cell lead w s (n_at lead s)) ++ drop total room ≡ levels_in lead w s room
  unfolding levels_fit levels_in
  levels_some k = rw e (front_some (n_at lead s) (first_at lead w s (n_at lead s)) (level_cell lead w s (n_at lead s)) room h (rw e at k))
