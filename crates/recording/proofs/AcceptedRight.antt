-- What acceptance says of the bytes: every test of the whole passed, so n is 1 to 8, there are just the bytes needed, the padding is zero, and the records
-- passed. Assumes nothing.
use mathlib.Core.Path.{◌≡◌, refl, sym}
use mathlib.Core.Bool.{true, ◌&&◌}
use mathlib.Core.List.{List}
use Prim.Native.Nat.{ℕ, ◌≤◌}
use native.Mathlib.Nat.{le_antisymm, le_of_eq}
use native.Mathlib.Omega.{arith}
use lib.ListN.{length}
use lib.Dec.{leb}
use borrow.Author.Tests.{leb-true, le-leb, eqb-true, eq-eqb}
use Rattle.std.specs.Prelude.{Ok}
use Rattle.refusal.specs.Refusal.{at_whole}
use Rattle.cuts.proofs.BelowLaws.{and_true}
use Rattle.recording.specs.Form.{bytes_for, station_bit, record_bit, n_at, recording_of, needed, padding}
use Rattle.recording.specs.Check.{fault_of, form_tests, checked_records, checked_of}
use Rattle.recording.proofs.CheckLaws.{Pass, no_test, and_then, pass_fault, fault_pass, at_whole-accepted, or_else-accepted}

module _ (lead w : ℕ) (s : List ℕ) where
  pub record Accepts : Type 0 where
    pub n_least : 1 ≤ n_at lead s
    pub n_most : n_at lead s ≤ 8
    pub just_needed : length s ≡ needed lead w s
    pub padded : padding lead w s ≡ 0
    pub records : checked_records (recording_of lead w s) ≡ Ok tt

  accepts_head : Accepts → (1 ≤ length s) × (bytes_for (station_bit lead w (n_at lead s)) ≤ length s)
  unfolding needed bytes_for record_bit station_bit
  accepts_head a = (omega (arith, a.just_needed, a.n_least), omega (arith, a.just_needed))

  pub accepted_accepts : checked_of lead w s ≡ Ok tt → Accepts
  unfolding checked_of
  accepted_accepts h =
      let (a, b) = or_else-accepted _ (checked_records (recording_of lead w s)) h in
      go (fault_pass _ (at_whole-accepted _ a)) b
    where
      go : Pass (form_tests lead w s) → checked_records (recording_of lead w s) ≡ Ok tt → Accepts
      go (and_then t₁ (and_then t₂ (and_then t₃ (and_then t₄ (and_then t₅ (and_then t₆ no_test)))))) b =
          let (x, y) = and_true (leb 1 (n_at lead s)) (leb (n_at lead s) 8) t₂ in
          record {
            n_least = leb-true 1 (n_at lead s) x;
            n_most = leb-true (n_at lead s) 8 y;
            just_needed = le_antisymm (leb-true (length s) (needed lead w s) t₅) (leb-true (needed lead w s) (length s) t₄);
            padded = eqb-true (padding lead w s) 0 t₆;
            records = b;
          }

  -- and the other way round
  pub accepts_accepted : Accepts → checked_of lead w s ≡ Ok tt
  unfolding checked_of at_whole
  accepts_accepted a =
      let n = n_at lead s in
      let (h, k) = accepts_head a in
      let t₂ : (leb 1 n && leb n 8) ≡ true = rw (le-leb 1 n a.n_least, le-leb n 8 a.n_most) refl in
      let whole : fault_of (form_tests lead w s) ≡ Ok tt =
      pass_fault (and_then (le-leb _ _ h) (and_then t₂ (and_then (le-leb _ _ k) (and_then (le-leb _ _ (le_of_eq (sym a.just_needed))) (and_then (le-leb _ _ (le_of_eq a.just_needed)) (and_then (eq-eqb _ _ a.padded) no_test))))))
      in
      rw whole a.records
