-- Each way through the lookup is one law, in the law's words: refused by the recording's checks; no such station or event; found. Assumes nothing.
use mathlib.Core.Path.{◌≡◌, refl}
use mathlib.Core.Bool.{true, ◌&&◌}
use mathlib.Core.List.{List}
use Prim.Native.Nat.{ℕ, ◌-◌, ◌≤◌}
use native.Mathlib.Omega.{arith}
use lib.Dec.{leb}
use lib.ListN.{length}
use borrow.Author.Tests.{leb-true, le-leb}
use Rattle.std.specs.Prelude.{Ok, Err}
use Rattle.cuts.specs.Cut.{at}
use Rattle.cuts.proofs.BelowLaws.{and_true}
use Rattle.cuts.proofs.ReplyLaws.{refuted}
use Rattle.recording.specs.Recording.{counts_of}
use Rattle.recording.specs.Form.{n_at, m_at, recording_of}
use Rattle.recording.specs.Check.{checked_of}
use Rattle.recording.proofs.FormLaws.{stations_read, count_read}
use Rattle.refusal.specs.Refusal.{whole}
use Rattle.refusal.specs.declared.Reason.{Reason}
use Rattle.refusal.specs.declared.Refusal.{Refusal}
use Rattle.lookup.specs.Lookup.{is_recorded, found_of, looked_up, lookup_of}

module _ (lead w : ℕ) (s : List ℕ) (station event : ℕ) where
  pub lookup_of-refused : (x : Refusal) → checked_of lead w s ≡ Err x → Err x ≡ lookup_of lead w s station event
  unfolding lookup_of looked_up
  lookup_of-refused x h = rw h refl

  -- what is recorded is a station 1 to n and an event 0 to its m
  recorded : is_recorded (recording_of lead w s) station event ≡ true → (1 ≤ station) × (station ≤ n_at lead s) × (event ≤ m_at lead w s (station - 1))
  unfolding is_recorded
  recorded h =
      let m = counts_of (recording_of lead w s) in
      let (b, e) = and_true (leb 1 station && leb station (length m)) (leb event (at m (station - 1))) h in
      let (a, d) = and_true (leb 1 station) (leb station (length m)) b in
      let one : 1 ≤ station = leb-true 1 station a in
      let most : station ≤ n_at lead s = rw (stations_read lead w s) at (leb-true station (length m) d) in
      (one, most, rw (count_read lead w s (station - 1) (omega arith)) at (leb-true event (at m (station - 1)) e))

  pub lookup_of-none : checked_of lead w s ≡ Ok tt → (1 ≤ station → station ≤ n_at lead s → event ≤ m_at lead w s (station - 1) → ⊥)
      → Err (whole Reason.NoRecord) ≡ lookup_of lead w s station event
  unfolding lookup_of looked_up
  lookup_of-none h g = rw (h, refuted _ (λ t. let (a, b, d) = recorded t in g a b d)) refl

  pub lookup_of-found : checked_of lead w s ≡ Ok tt → 1 ≤ station → station ≤ n_at lead s → event ≤ m_at lead w s (station - 1)
      → Ok (found_of (recording_of lead w s) (station - 1) event) ≡ lookup_of lead w s station event
  unfolding lookup_of looked_up is_recorded
  lookup_of-found h a b d =
      rw (h, stations_read lead w s, count_read lead w s (station - 1) (omega arith), le-leb 1 station a, le-leb station (n_at lead s) b, le-leb event (m_at lead w s (station - 1)) d) refl
