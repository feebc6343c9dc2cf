-- What an accepted recording's full cut is, where its bytes are s: the counts, n, T and the box of the recording, within what the tables have room for.
-- Assumes nothing.
use mathlib.Core.Path.{◌≡◌, refl, sym, ap, ◌∙◌}
use mathlib.Core.Bool.{true}
use mathlib.Core.List.{List}
use Prim.Native.Nat.{ℕ, ◌*◌, ◌≤◌, ◌<◌, min}
use native.Mathlib.Decide.{dec_lt}
use native.Mathlib.Omega.{arith}
use lib.ListN.{length, get_or-eq_default}
use borrow.Author.Tests.{le-leb}
use Rattle.cuts.specs.Below.{tab}
use Rattle.cuts.specs.Cut.{at, total}
use Rattle.cuts.specs.Rank.{box}
use Rattle.cut.specs.Value.{counts_of, FullCut, box_of, events_of}
use Rattle.cut.specs.declared.Cut.{Cut}
use Rattle.cuts.proofs.BelowLaws.{length_tab, get_d-tab, sum_to-same}
use Rattle.cut.proofs.ValueRight.{box_of-full, events_of-full, events_of-loop}
use Rattle.recording.specs.Recording as recorded
use Rattle.recording.specs.Form.{recording_of, lead8, width8, n_at, m_at, first_at}
use Rattle.recording.specs.Check.{checked_of}
use Rattle.recording.specs.Decode.{full_of, events_at, stamps_fit, levels_fit}
use Rattle.std.specs.Prelude.{Ok}
use Rattle.recording.proofs.AcceptedRight.{accepted_accepts}
use Rattle.recording.proofs.DecodeLaws.{events_at-in, events_at-lt}
use Rattle.recording.proofs.DecodeRight.{full_cut_counts, full_cut_full}
use Rattle.recording.proofs.FormLaws.{stations_read, count_read}
use Rattle.recording.proofs.PlaceLaws.{first_at-le}
use Rattle.recording.proofs.SumLaws.{sum_to-most}
use Rattle.engine.specs.Prepare.{Short, first_of}

module _ (s : List ℕ) (full : Cut) (accepts : checked_of lead8 width8 s ≡ Ok tt) (Full-is : full ≡ full_of lead8 width8 s) where
  abbrev m : List ℕ
  m = recorded.counts_of (recording_of lead8 width8 s)

  pub n_full : full.n ≡ n_at lead8 s
  unfolding full_of
  n_full = ap (λ (x : Cut). x.n) Full-is

  counts_of_lem : full.counts ≡ tab 8 (events_at lead8 width8 s (n_at lead8 s))
  unfolding full_of
  counts_of_lem = ap (λ (x : Cut). x.counts) Full-is

  pub n_most : n_at lead8 s ≤ 8
  n_most = (accepted_accepts lead8 width8 s accepts).n_most

  -- n is the number of the recording's stations
  pub stations_full : length m ≡ full.n
  stations_full = stations_read lead8 width8 s ∙ sym n_full

  pub eight_full : length full.counts ≡ 8
  eight_full = ap length counts_of_lem ∙ length_tab 8 _

  pub short_full : Short full
  short_full = record { eight = eight_full; n_most = rw n_full n_most; few = λ p. go p (dec_lt p 8) }
    where
      go : (p : ℕ) → Dec (p < 8) → at full.counts p ≤ 511
      go p (yes h) = omega (arith, ap (λ (l : List ℕ). at l p) counts_of_lem, get_d-tab 8 (events_at lead8 width8 s (n_at lead8 s)) 0 p h, events_at-lt lead8 width8 s (n_at lead8 s) p (omega arith))
      go p (no h) =
          let none : at full.counts p ≡ 0 = get_or-eq_default full.counts 0 (omega (arith, eight_full)) in
          omega arith

  pub full_full : FullCut full
  full_full = rw Full-is (full_cut_full lead8 width8 s (accepted_accepts lead8 width8 s accepts).n_least n_most)

  pub counts_full : counts_of full ≡ m
  counts_full = rw Full-is (full_cut_counts lead8 width8 s n_most)

  -- the counts one by one, and the records before those of a station
  pub count_full : (p : ℕ) → p < full.n → at full.counts p ≡ m_at lead8 width8 s p
  count_full p h =
      ap (λ (l : List ℕ). at l p) counts_of_lem
      ∙ get_d-tab 8 _ 0 p (omega (arith, n_full, n_most))
      ∙ events_at-in lead8 width8 s (n_at lead8 s) p (omega (arith, n_full))

  pub count_both : (p : ℕ) → p < full.n → at m p ≡ at full.counts p
  count_both p h = count_read lead8 width8 s p (omega (arith, n_full)) ∙ sym (count_full p h)

  pub first_full : (p : ℕ) → p ≤ full.n → first_of full.counts p ≡ first_at lead8 width8 s p
  unfolding first_of first_at
  first_full p h = sum_to-same p _ _ (λ q l. count_full q (omega arith))

  -- T, and its bound
  pub total_full : events_of full ≡ total m
  total_full = events_of-full full full_full ∙ ap total counts_full

  pub total_le : total m ≤ 4088
  total_le = omega (arith, total_full, events_of-loop full full_full eight_full, sum_to-most (at full.counts) 511 full.n short_full.few, n_full, n_most)

  -- the box, with its ceiling
  pub box_full : box_of full ≡ min (box m) 65537
  box_full = box_of-full full full_full ∙ ap (λ (l : List ℕ). min (box l) 65537) counts_full

  -- the rooms of `verdicts` have the tables
  pub stamps_there : stamps_fit lead8 width8 s 32704 ≡ true
  unfolding stamps_fit
  stamps_there = rw (le-leb (n_at lead8 s) 8 n_most, le-leb (8 * first_at lead8 width8 s (n_at lead8 s)) 32704 (omega (arith, n_most, first_at-le lead8 width8 s (n_at lead8 s) (omega arith)))) refl

  pub levels_there : levels_fit lead8 width8 s 4088 ≡ true
  unfolding levels_fit
  levels_there = rw (le-leb (n_at lead8 s) 8 n_most, le-leb (first_at lead8 width8 s (n_at lead8 s)) 4088 (omega (arith, n_most, first_at-le lead8 width8 s (n_at lead8 s) (omega arith)))) refl
