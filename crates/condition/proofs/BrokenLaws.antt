-- What breaks the condition's section: `Broken` of specs/Condition.antt is where `condition_ok` is false. In order: pairs of ends; what a condition that keeps
-- to its section has where; that no broken one keeps to it; that one that does not is broken. Assumes nothing.
use Rattle.std.proofs.Common.{◌≡◌, ℕ, zero, suc, ◌<◌, ◌≤◌, Bool, true, false, cond, not, ◌&&◌, eqb, ltb, leb, ◌≢◌, List, ℤ, pos, negsuc, sym, refl, ◌∙◌, inl, inr, ⊎_elim, arith, le-ltb, lt-ltb, eq-eqb, ne_eqb, eqb-true, le-leb}
use mathlib.Core.Bool.{false≢true}
use Rattle.std.proofs.lemmas.Bool.{or_parts}
use native.Mathlib.Decide.{dec_le, dec_lt}
use lib.Signed.{le_z, lt_z}
use borrow.Author.Tests.{lt-leb, eqb-false, not-false}
use Rattle.bits.proofs.BitsLaws.{field_lt}
use Rattle.levels.specs.Level.{twos}
use Rattle.cuts.specs.Below.{every}
use Rattle.cuts.proofs.BelowLaws.{and_true, or_second, every_true}
use Rattle.cuts.proofs.ReplyLaws.{refuted}
use Rattle.condition.specs.Condition.{kind_at, k_at, low_at, high_at, asked_at, window_low, window_high, window_ok, upright, zeros, condition_ok}
use Rattle.condition.specs.Condition.{Above, NotZero, Broken, kind_three, k_above, k_unused, ends_unused, window_of_sum, window_unasked, window_above, ends_above}
use Rattle.condition.proofs.FieldLaws.{Kept, k_ok, ends_ok, condition_ok-kept, condition_ok-windows, window_ok-sum, window_ok-other}

-- not above is below or equal
leb_not : (a b : ℕ) → leb a b ≡ not (ltb b a)
leb_not a b = go (dec_le a b)
  where
    go : Dec (a ≤ b) → leb a b ≡ not (ltb b a)
    go (yes h) = rw (le-leb a b h, le-ltb b a h) refl
    go (no h) = rw (lt-leb a b (omega arith), lt-ltb b a (omega arith)) refl

le_z-not : (a b : ℤ) → le_z a b ≡ not (lt_z b a)
le_z-not (pos a) (pos b) = leb_not a b
le_z-not (pos a) (negsuc b) = refl
le_z-not (negsuc a) (pos b) = refl
le_z-not (negsuc a) (negsuc b) = leb_not b a

upright_not_above : (low high : ℕ) → upright low high ≡ true → ¬ Above low high
upright_not_above low high h a = false≢true (sym (rw (le_z-not (twos 16 low) (twos 16 high), a) refl) ∙ h)

not_upright_above : (low high : ℕ) → upright low high ≡ false → Above low high
not_upright_above low high h = not-false _ (sym (le_z-not (twos 16 low) (twos 16 high)) ∙ h)

zeros_are : (low high : ℕ) → zeros low high ≡ true → (low ≡ 0) × (high ≡ 0)
zeros_are low high h =
    let (a, b) = and_true (eqb low 0) (eqb high 0) h in
    (eqb-true low 0 a, eqb-true high 0 b)

not_zeros : (low high : ℕ) → zeros low high ≡ false → NotZero low high
not_zeros low high h = go (dec_lt 0 low) (dec_lt 0 high)
  where
    go : Dec (0 < low) → Dec (0 < high) → NotZero low high
    go (yes l) _ = inl l
    go (no _) (yes l) = inr l
    go (no l) (no k) = absurd (false≢true (sym h ∙ rw (eq-eqb low 0 (omega arith), eq-eqb high 0 (omega arith)) refl))

some_zero : (low high : ℕ) → NotZero low high → (low ≡ 0) × (high ≡ 0) → ⊥
some_zero low high n (a, b) = ⊎_elim (λ l. omega arith) (λ l. omega arith) n

-- where a test of all fails it fails at one
every_fails : (n : ℕ) (f : ℕ → Bool) → every n f ≡ false → (p : ℕ) × (p < n) × (f p ≡ false)
unfolding every
every_fails zero f h = absurd (false≢true (sym h))
every_fails (suc n) f h = go (every n f) refl (λ e. every_fails n f e)
  where
    go : (b : Bool) → every n f ≡ b → (every n f ≡ false → (p : ℕ) × (p < n) × (f p ≡ false)) → (p : ℕ) × (p < suc n) × (f p ≡ false)
    go true e r = (n, omega arith, sym (rw e refl) ∙ h)
    go false e r = let (p, l, d) = r e in (p, omega arith, d)

-- what a condition that keeps to its section has where
module _ {s : List ℕ} (h : Kept s) where
  pub kept_k : kind_at s ≢ 1 → k_at s ≡ 0
  unfolding k_ok
  kept_k n = eqb-true (k_at s) 0 (or_second (eqb (kind_at s) 1) (eqb (k_at s) 0) (ne_eqb _ _ n) h.k_use)

  pub kept_ends_zero : kind_at s ≢ 2 → (low_at s ≡ 0) × (high_at s ≡ 0)
  unfolding ends_ok
  kept_ends_zero n = zeros_are (low_at s) (high_at s) (rw (ne_eqb (kind_at s) 2 n) at h.ends)

  kept_ends_upright : kind_at s ≡ 2 → upright (low_at s) (high_at s) ≡ true
  unfolding ends_ok
  kept_ends_upright e = rw (eq-eqb (kind_at s) 2 e) at h.ends

  module _ (p : ℕ) (l : p < 8) where
    kept_window : window_ok s p ≡ true
    kept_window = every_true 8 (window_ok s) h.windows p l

    kept_window_sum : kind_at s ≡ 2 → (window_low s p ≡ 0) × (window_high s p ≡ 0)
    kept_window_sum e = zeros_are _ _ (sym (window_ok-sum s p e) ∙ kept_window)

    kept_window_unasked : asked_at s p ≡ false → (window_low s p ≡ 0) × (window_high s p ≡ 0)
    unfolding window_ok
    kept_window_unasked e = zeros_are (window_low s p) (window_high s p) (rw e at kept_window)

    kept_window_asked : asked_at s p ≡ true → ¬ Above (window_low s p) (window_high s p)
    unfolding twos
    kept_window_asked e a = go (eqb (kind_at s) 2) refl
      where
        go : (b : Bool) → eqb (kind_at s) 2 ≡ b → ⊥
        go true d =
            let (x, y) = kept_window_sum (eqb-true (kind_at s) 2 d) in
            upright_not_above 0 0 refl (rw (x, y) at a)
        go false d = upright_not_above (window_low s p) (window_high s p) (rw e at (sym (window_ok-other s p (eqb-false (kind_at s) 2 d)) ∙ kept_window)) a

pub broken_not_kept : (s : List ℕ) → Broken s → Kept s → ⊥
broken_not_kept s (kind_three e) h = omega (arith, h.kind)
broken_not_kept s (k_above l) h = omega (arith, h.k)
broken_not_kept s (k_unused n l) h = omega (arith, kept_k h n)
broken_not_kept s (ends_unused n z) h = some_zero _ _ z (kept_ends_zero h n)
broken_not_kept s (window_of_sum {p} l e z) h = some_zero _ _ z (kept_window_sum h p l e)
broken_not_kept s (window_unasked {p} l e z) h = some_zero _ _ z (kept_window_unasked h p l e)
broken_not_kept s (window_above {p} l e a) h = kept_window_asked h p l e a
broken_not_kept s (ends_above e a) h = upright_not_above _ _ (kept_ends_upright h e) a

-- the other way round, test by test
module _ (s : List ℕ) where
  kind_lt : kind_at s < 4
  unfolding kind_at
  kind_lt = field_lt s 0 2

  k_broken : k_ok s ≡ false → Broken s
  unfolding k_ok
  k_broken e =
      let (a, b) = or_parts (eqb (kind_at s) 1) (eqb (k_at s) 0) e in
      k_unused (eqb-false _ _ a) (omega (arith, eqb-false (k_at s) 0 b))

  ends_broken : ends_ok s ≡ false → Broken s
  unfolding ends_ok
  ends_broken = go (eqb (kind_at s) 2) refl
    where
      go : (b : Bool) → eqb (kind_at s) 2 ≡ b → cond b (upright (low_at s) (high_at s)) (zeros (low_at s) (high_at s)) ≡ false → Broken s
      go true d e = ends_above (eqb-true (kind_at s) 2 d) (not_upright_above (low_at s) (high_at s) e)
      go false d e = ends_unused (eqb-false (kind_at s) 2 d) (not_zeros (low_at s) (high_at s) e)

  window_broken : (p : ℕ) → p < 8 → window_ok s p ≡ false → Broken s
  unfolding window_ok
  window_broken p l = go (asked_at s p) refl (eqb (kind_at s) 2) refl
    where
      go : (a : Bool) → asked_at s p ≡ a → (b : Bool) → eqb (kind_at s) 2 ≡ b
          → cond (a && not b) (upright (window_low s p) (window_high s p)) (zeros (window_low s p) (window_high s p)) ≡ false → Broken s
      go true i true d e = window_of_sum l (eqb-true (kind_at s) 2 d) (not_zeros (window_low s p) (window_high s p) e)
      go true i false d e = window_above l i (not_upright_above (window_low s p) (window_high s p) e)
      go false i b d e = window_unasked l i (not_zeros (window_low s p) (window_high s p) e)

  pub not_kept_broken : condition_ok s ≡ false → Broken s
  not_kept_broken f = go (dec_le (kind_at s) 2) (dec_le (k_at s) 8) (k_ok s) refl (ends_ok s) refl
    where
      go : Dec (kind_at s ≤ 2) → Dec (k_at s ≤ 8) → (a : Bool) → k_ok s ≡ a → (b : Bool) → ends_ok s ≡ b → Broken s
      go (no n) _ a e b d = kind_three (omega (arith, kind_lt))
      go (yes h) (no n) a e b d = k_above (omega arith)
      go (yes h) (yes k) false e b d = k_broken e
      go (yes h) (yes k) true e false d = ends_broken d
      go (yes h) (yes k) true e true d =
          let (p, l, w) = every_fails 8 (window_ok s) (sym (condition_ok-windows s h k e d) ∙ f) in
          window_broken p l w

  pub broken_refuted : Broken s → condition_ok s ≡ false
  broken_refuted b = refuted (condition_ok s) (λ e. broken_not_kept s b (condition_ok-kept s e))
