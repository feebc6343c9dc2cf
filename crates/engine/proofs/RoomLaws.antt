-- The first of the tests 9 to 12 that fails, one law for each way out. In order: the stations above n; the tests; no fault. Assumes nothing.
use mathlib.Core.Path.{◌≡◌, refl, sym, ◌∙◌}
use mathlib.Core.Bool.{Bool, true, false, not, ◌||◌}
use Prim.Native.Nat.{ℕ, ◌+◌, ◌≤◌, ◌<◌, min}
use native.Mathlib.Decide.{dec_le}
use native.Mathlib.Omega.{arith}
use lib.Dec.{ltb}
use borrow.Author.Tests.{leb-true, le-leb, lt-leb, lt-ltb, le-ltb}
use Rattle.cuts.specs.Below.{every}
use Rattle.cuts.proofs.BelowLaws.{or_right, every_true, true_every, every_false, every_more}
use Rattle.recording.specs.Check.{fault_of}
use Rattle.std.specs.Prelude.{Ok, Err}
use Rattle.recording.proofs.CheckLaws.{Pass, no_test, and_then, pass_fault, fault_pass, fault_next, fault_here}
use Rattle.refusal.specs.declared.Reason.{Reason}
use Rattle.condition.specs.Condition.{window_at}
use Rattle.condition.specs.declared.Condition.{Condition}
use Rattle.engine.specs.Job.{none_above, room_tests}

-- the stations above n are walked through, from the first on
module _ (c : Condition) (n : ℕ) where
  unfoldable pub unasked_to : ℕ → Bool
  unasked_to p = every p (λ q. not (window_at c q).asked || ltb q n)

  pub unasked_none : unasked_to n ≡ true
  unfolding unasked_to
  unasked_none = true_every n _ (λ q h. or_right (not (window_at c q).asked) (ltb q n) (lt-ltb q n h))

  pub unasked_more : (p : ℕ) → unasked_to p ≡ true → (window_at c p).asked ≡ false → unasked_to (p + 1) ≡ true
  unfolding unasked_to
  unasked_more p h e = every_more p _ h (rw e refl)

  pub asked_above : (p : ℕ) → n ≤ p → p < 8 → (window_at c p).asked ≡ true → false ≡ none_above c n
  unfolding none_above
  asked_above p h l e = sym (every_false 8 _ p l (rw (e, le-ltb p n h) refl))

  pub unasked_all : (p : ℕ) → unasked_to p ≡ true → 8 ≤ p → true ≡ none_above c n
  unfolding none_above unasked_to
  unasked_all p h l = sym (true_every 8 _ (λ q k. every_true p _ h q (omega arith)))

module _ (c : Condition) (n b t marks path : ℕ) where
  pub room_9 : none_above c n ≡ false → Err Reason.Asked ≡ fault_of (room_tests c n b t marks path)
  unfolding room_tests
  room_9 h = sym (fault_here _ _ h)

  module _ (asked : none_above c n ≡ true) where
    pub room_10 : 65536 < b → Err Reason.BoxSize ≡ fault_of (room_tests c n b t marks path)
    unfolding room_tests
    room_10 h = sym (fault_next _ _ asked ∙ fault_here _ _ (lt-leb b 65536 h))

    module _ (small : b ≤ 65536) where
      pub room_11 : marks < b → Err Reason.MarksRoom ≡ fault_of (room_tests c n b t marks path)
      unfolding room_tests
      room_11 h = sym (fault_next _ _ asked ∙ fault_next _ _ (le-leb b 65536 small) ∙ fault_here _ _ (lt-leb b marks h))

      module _ (fits : b ≤ marks) where
        pub room_12 : path < t → Err Reason.PathRoom ≡ fault_of (room_tests c n b t marks path)
        unfolding room_tests
        room_12 h = sym (fault_next _ _ asked ∙ fault_next _ _ (le-leb b 65536 small) ∙ fault_next _ _ (le-leb b marks fits) ∙ fault_here _ _ (lt-leb t path h))

        pub room_0 : t ≤ path → Ok tt ≡ fault_of (room_tests c n b t marks path)
        unfolding room_tests
        room_0 h = sym (pass_fault (and_then asked (and_then (le-leb b 65536 small) (and_then (le-leb b marks fits) (and_then (le-leb t path h) no_test)))))

  -- no fault: every test passed
  pub record Suffices : Type 0 where
    pub asked : none_above c n ≡ true
    pub small : b ≤ 65536
    pub fits : b ≤ marks
    pub holds : t ≤ path

  pub no_fault : fault_of (room_tests c n b t marks path) ≡ Ok tt → Suffices
  unfolding room_tests
  no_fault h = go (fault_pass (room_tests c n b t marks path) h)
    where
      go : Pass (room_tests c n b t marks path) → Suffices
      go (and_then t₁ (and_then t₂ (and_then t₃ (and_then t₄ no_test)))) = record {
        asked = t₁;
        small = leb-true b 65536 t₂;
        fits = leb-true b marks t₃;
        holds = leb-true t path t₄;
      }

-- a box held at 65,537 is tested like the box itself
pub fault_ceiling : (c : Condition) (n b t marks path : ℕ) → fault_of (room_tests c n (min b 65537) t marks path) ≡ fault_of (room_tests c n b t marks path)
fault_ceiling c n b t marks path = go (none_above c n) refl (dec_le b 65536)
  where
    go : (a : Bool) → none_above c n ≡ a → Dec (b ≤ 65536) → fault_of (room_tests c n (min b 65537) t marks path) ≡ fault_of (room_tests c n b t marks path)
    go false h d = sym (room_9 c n (min b 65537) t marks path h) ∙ room_9 c n b t marks path h
    go true h (yes d) = let e : min b 65537 ≡ b = omega arith in rw e refl
    go true h (no d) = sym (room_10 c n (min b 65537) t marks path h (omega arith)) ∙ room_10 c n b t marks path h (omega arith)
