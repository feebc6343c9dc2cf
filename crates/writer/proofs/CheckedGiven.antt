-- The writer's checks as a whole: which of them refuses, and what all of them say of what was handed in. In order: the tests before the records; each
-- answer of the code; acceptance; the code's tests before the records. Assumes nothing.
use mathlib.Core.Path.{◌≡◌, refl, sym}
use mathlib.Core.Bool.{Bool, true, false, ◌&&◌}
use mathlib.Core.List.{[], ◌∷◌}
use Prim.Native.Nat.{ℕ, ◌≤◌, ◌<◌}
use native.Mathlib.Omega.{arith}
use lib.Dec.{leb}
use lib.IntN.{pos}
use lib.ListN.{length, get_or}
use borrow.Author.Tests.{leb-true, le-leb, lt-leb}
use Rattle.std.specs.Prelude.{Ok, Err}
use Rattle.levels.specs.Level.{is_level}
use Rattle.cuts.specs.Cut.{at}
use Rattle.cuts.specs.Below.{every}
use Rattle.cuts.proofs.BelowLaws.{and_true, every_true}
use Rattle.recording.specs.Recording.{messages}
use Rattle.recording.specs.Check.{test, fault_of, scan_records}
use Rattle.refusal.specs.Refusal.{whole, at_whole}
use Rattle.refusal.specs.declared.Reason.{Reason}
use Rattle.refusal.specs.declared.Refusal.{Refusal}
use Rattle.writer.specs.Write.{Given, first_given, recording_given, long_enough, not_longer, lengths_tests, given_tests, writer_tests, needed_given, checked_given}
use Rattle.writer.specs.Tables.{scanned_given}
use Rattle.cuts.proofs.ReplyLaws.{refuted}
use Rattle.recording.proofs.SumLaws.{sum_to-most}
use Rattle.recording.proofs.CheckLaws.{Pass, no_test, and_then, pass_fault, fault_pass, fault_here, at_whole-accepted, or_else-accepted}
use Rattle.writer.proofs.GivenLaws.{records_just, starts_just}

-- what the tests before the records say
pub record Whole (g : Given) : Type 0 where
  pub least : 1 ≤ g.n
  pub most : g.n ≤ 8
  pub records : length g.origins ≡ first_given g g.n
  pub starts : (p : ℕ) → p < g.n → is_level (get_or g.starts p (pos 0)) ≡ true

pub whole_says : (g : Given) → fault_of (given_tests g) ≡ Ok tt → Whole g
whole_says g h = go (fault_pass _ h)
  where
    go : Pass (given_tests g) → Whole g
    go (and_then a (and_then b (and_then d (and_then e no_test)))) =
        let (x, y) = and_true (leb 1 g.n) (leb g.n 8) a in
        record { least = leb-true 1 g.n x; most = leb-true g.n 8 y; records = records_just g b d; starts = every_true g.n _ e }

-- records are few
pub few_records : (g : Given) → Whole g → ((i : ℕ) → at g.counts i < 256) → length g.origins ≤ 2040
unfolding first_given
few_records g a b = omega (arith, a.records, a.most, sum_to-most (at g.counts) 255 g.n (λ p. omega (arith, b p)))

module _ (lead w : ℕ) (g : Given) (room : ℕ) where
  room_fault : needed_given lead w g ≤ room → fault_of (test Reason.Room (leb (needed_given lead w g) room) ∷ []) ≡ Ok tt
  room_fault l = pass_fault (and_then (le-leb _ _ l) no_test)

  fault_room : fault_of (test Reason.Room (leb (needed_given lead w g) room) ∷ []) ≡ Ok tt → needed_given lead w g ≤ room
  fault_room h = go (fault_pass _ h)
    where
      go : Pass (test Reason.Room (leb (needed_given lead w g) room) ∷ []) → needed_given lead w g ≤ room
      go (and_then a no_test) = leb-true _ _ a

  -- refused before the records ..
  pub refused_before : (k : Reason) → fault_of (given_tests g) ≡ Err k → Err (whole k) ≡ checked_given lead w g room
  unfolding checked_given at_whole
  refused_before k h = rw h refl

  module _ (before : fault_of (given_tests g) ≡ Ok tt) where
    -- .. or for a record ..
    pub refused_scanned : (x : Refusal) → scanned_given g ≡ Err x → Err x ≡ checked_given lead w g room
    unfolding checked_given scanned_given at_whole
    refused_scanned x h = rw (before, h) refl

    module _ (fine : scanned_given g ≡ Ok tt) (b : ℕ) (eb : b ≡ needed_given lead w g) where
      -- .. or for the room, or not at all
      pub refused_room : room < b → Err (whole Reason.Room) ≡ checked_given lead w g room
      unfolding checked_given scanned_given at_whole
      refused_room l =
          let k : room < needed_given lead w g = rw eb at l in
          rw (before, fine, fault_here (test Reason.Room (leb (needed_given lead w g) room)) [] (lt-leb _ _ k)) refl

      pub all_fine : b ≤ room → Ok tt ≡ checked_given lead w g room
      unfolding checked_given scanned_given at_whole
      all_fine l =
          let k : needed_given lead w g ≤ room = rw eb at l in
          rw (before, fine, room_fault k) refl

  -- what acceptance says
  pub record Accepts : Type 0 where
    pub whole : Whole g
    pub records : scan_records (messages (recording_given g)) (writer_tests (recording_given g)) ≡ Ok tt
    pub fits : needed_given lead w g ≤ room

  pub accepts : checked_given lead w g room ≡ Ok tt → Accepts
  unfolding checked_given
  accepts h =
      let (a, b) = or_else-accepted _ _ h in
      let (d, e) = or_else-accepted _ _ b in
      record { whole = whole_says g (at_whole-accepted _ a); records = d; fits = fault_room (at_whole-accepted _ e) }

-- the tests before the records, as the code makes them
module _ (g : Given) where
  pub refused_stations : (1 ≤ g.n → g.n ≤ 8 → ⊥) → Err Reason.Stations ≡ fault_of (given_tests g)
  unfolding fault_of
  refused_stations h = rw (refuted (leb 1 g.n && leb g.n 8) (λ t. let (a, b) = and_true (leb 1 g.n) (leb g.n 8) t in h (leb-true 1 g.n a) (leb-true g.n 8 b))) refl

  module _ (low : 1 ≤ g.n) (high : g.n ≤ 8) where
    in_order : (leb 1 g.n && leb g.n 8) ≡ true
    in_order = simp (le-leb 1 g.n low, le-leb g.n 8 high)

    pub refused_lengths : (k : Reason) → fault_of (lengths_tests g) ≡ Err k → Err k ≡ fault_of (given_tests g)
    unfolding fault_of
    refused_lengths k h = rw in_order (go (long_enough g) (not_longer g) h)
      where
        go : (a b : Bool) → fault_of (test Reason.TooShort a ∷ test Reason.TooLong b ∷ []) ≡ Err k
            → Err k ≡ fault_of (test Reason.TooShort a ∷ test Reason.TooLong b ∷ test Reason.Level (every g.n (λ p. is_level (get_or g.starts p (pos 0)))) ∷ [])
        go false b e = sym e
        go true false e = sym e
        go true true e = cc

    module _ (lengths : fault_of (lengths_tests g) ≡ Ok tt) (x : Bool) (x-is : x ≡ every (length g.starts) (λ p. is_level (get_or g.starts p (pos 0)))) where
      just : fault_of (given_tests g) ≡ fault_of (test Reason.Level x ∷ [])
      unfolding fault_of
      just = go (fault_pass _ lengths)
        where
          go : Pass (lengths_tests g) → fault_of (given_tests g) ≡ fault_of (test Reason.Level x ∷ [])
          go (and_then a (and_then b no_test)) = rw (in_order, a, b, x-is, starts_just g a b) refl

      pub refused_level : x ≡ false → Err Reason.Level ≡ fault_of (given_tests g)
      unfolding fault_of
      refused_level h = rw (just, h) refl

      pub whole_fine : x ≡ true → Ok tt ≡ fault_of (given_tests g)
      unfolding fault_of
      whole_fine h = rw (just, h) refl
