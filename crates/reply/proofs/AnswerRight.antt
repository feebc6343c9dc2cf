-- The promise of `answer` permits one length and one room; and the number of a refusal in rooms that always suffice is at most 10: "it never prints 11 or
-- 12". Assumes nothing.
use mathlib.Core.Path.{◌≡◌, refl, ◌∙◌}
use mathlib.Core.Bool.{Bool, true, false, ◌&&◌, cond}
use mathlib.Core.List.{List, [], ◌∷◌}
use Prim.Native.Nat.{ℕ, ◌≤◌}
use native.Mathlib.Decide.{dec_le}
use native.Mathlib.Omega.{arith}
use lib.ListN.{length}
use lib.Dec.{leb}
use borrow.Author.Tests.{leb-true}
use Rattle.std.specs.Prelude.{Ok, Err}
use Rattle.std.specs.Prelude as rust
use Rattle.cuts.specs.Cut.{total}
use Rattle.cuts.specs.Rank.{box}
use Rattle.cuts.proofs.BelowLaws.{and_true}
use Rattle.recording.specs.Recording.{messages, stamps}
use Rattle.recording.specs.Form.{lead8, width8}
use Rattle.recording.specs.Check.{Test, fault_of, record_tests, form_tests, scan_records, checked_records, checked_of}
use Rattle.refusal.specs.Refusal.{number_of, Tested, Checked, at_whole, or_else}
use Rattle.refusal.specs.declared.Reason.{Reason}
use Rattle.refusal.specs.declared.Refusal.{Refusal}
use Rattle.recording.proofs.CheckLaws.{at_record-refused, at_whole-refused}
use Rattle.recording.proofs.CheckRight.{refused_first}
use Rattle.condition.specs.Condition.{condition_ok, refused_of}
use Rattle.text.specs.Text.{Printed}
use Rattle.text.proofs.TextRight.{printed_unique}
use Rattle.engine.specs.Job.{part_of, none_above, room_tests, R, C, m, checked_job}
use Rattle.reply.specs.Answer.{marks_room, path_room, text_of}
use Rattle.engine.proofs.FullLaws.{total_le}
use Rattle.engine.proofs.RoomLaws.{room_9, room_10, room_0}

pub answer_unique : (job before after after' : List ℕ) (r r' : rust.Option ℕ) → Printed (text_of job) before r after → Printed (text_of job) before r' after' → (r ≡ r') × (after ≡ after')
answer_unique job before after after' r r' p q = printed_unique p q

-- the number of a refusal is at most k
abbrev Most : ℕ → Checked → Type 0
Most k r = (x : Refusal) → r ≡ Err x → number_of x.reason ≤ k

-- the first of two answers that refuses
first_most : (k : ℕ) (a b : Checked) → Most k a → (a ≡ Ok tt → Most k b) → Most k (or_else a b)
first_most k (Ok u) b f g = g refl
first_most k (Err y) b f g = f

whole_most : (k : ℕ) (r : Tested) → ((n : Reason) → r ≡ Err n → number_of n ≤ k) → Most k (at_whole r)
whole_most k r h x e = let (n, f, g) = at_whole-refused r x e in rw g (h n f)

-- the numbers of tests are at most k
abbrev within : ℕ → List Test → Bool
within k [] = true
within k (t ∷ ts) = leb (number_of t.reason) k && within k ts

tests_most : (k : ℕ) (ts : List Test) → within k ts ≡ true → (n : Reason) → fault_of ts ≡ Err n → number_of n ≤ k
unfolding fault_of
tests_most k [] e n h = let z : ◌≡◌ {A = ℕ} 0 1 = cc in absurd (omega arith)
tests_most k (t ∷ ts) e n h = go t.passes h (tests_most k ts (and_true (leb (number_of t.reason) k) _ e).1 n)
  where
    go : (b : Bool) → cond b (fault_of ts) (Err t.reason) ≡ Err n → (fault_of ts ≡ Err n → number_of n ≤ k) → number_of n ≤ k
    go true h ih = ih h
    go false h ih = let z : t.reason ≡ n = cc in rw z at (leb-true _ k (and_true (leb (number_of t.reason) k) _ e).0)

module _ (job : List ℕ) where
  condition_most : Most 8 (at_whole (refused_of job))
  unfolding refused_of number_of
  condition_most = whole_most 8 (refused_of job) (go (leb 38 (length job)) (condition_ok job))
    where
      go : (a b : Bool) (n : Reason) → ◌≡◌ {A = Tested} (cond a (cond b (Ok tt) (Err Reason.Condition)) (Err Reason.TooShort)) (Err n) → number_of n ≤ 8
      go true true n e = let z : ◌≡◌ {A = ℕ} 0 1 = cc in absurd (omega arith)
      go true false n e = let z : Reason.Condition ≡ n = cc in rw (← z) (omega arith)
      go false b n e = let z : Reason.TooShort ≡ n = cc in rw (← z) (omega arith)

  recording_most : Most 7 (checked_of lead8 width8 (part_of job))
  unfolding checked_of checked_records number_of
  recording_most = first_most 7 _ _ (whole_most 7 _ (tests_most 7 (form_tests lead8 width8 (part_of job)) refl)) (λ _. records)
    where
      records : Most 7 (scan_records (messages (R job)) (record_tests (messages (R job)) (stamps (R job))))
      records x h =
          let (p, e, hp, he, f, _) = refused_first (messages (R job)) (record_tests (messages (R job)) (stamps (R job))) x h in
          let (n, g, i) = at_record-refused p e _ x f in
          rw i (tests_most 7 (record_tests (messages (R job)) (stamps (R job)) p e) refl n g)

  room_most : checked_of lead8 width8 (part_of job) ≡ Ok tt → (n : Reason) → fault_of (room_tests (C job) (length (m job)) (box (m job)) (total (m job)) marks_room path_room) ≡ Err n → number_of n ≤ 10
  unfolding number_of
  room_most h n f = go (none_above (C job) (length (m job))) refl (dec_le (box (m job)) 65536)
    where
      go : (a : Bool) → none_above (C job) (length (m job)) ≡ a → Dec (box (m job) ≤ 65536) → number_of n ≤ 10
      go false e d = let z : Err Reason.Asked ≡ Err n = room_9 (C job) (length (m job)) (box (m job)) (total (m job)) marks_room path_room e ∙ f in let y : Reason.Asked ≡ n = cc in rw (← y) (omega arith)
      go true e (no d) = let z : Err Reason.BoxSize ≡ Err n = room_10 (C job) (length (m job)) (box (m job)) (total (m job)) marks_room path_room e (omega arith) ∙ f in let y : Reason.BoxSize ≡ n = cc in rw (← y) (omega arith)
      go true e (yes d) =
          let z = room_0 (C job) (length (m job)) (box (m job)) (total (m job)) marks_room path_room e d d (total_le (part_of job) _ h refl) ∙ f in
          let y : ◌≡◌ {A = ℕ} 0 1 = cc in absurd (omega arith)

  pub never_short : (x : Refusal) → checked_job job marks_room path_room ≡ Err x → number_of x.reason ≤ 10
  unfolding checked_job
  never_short =
      first_most 10 _ _ (λ x e. omega (arith, condition_most x e))
      (λ _. first_most 10 (checked_of lead8 width8 (part_of job)) _ (λ x e. omega (arith, recording_most x e)) (λ a. whole_most 10 _ (room_most a)))
