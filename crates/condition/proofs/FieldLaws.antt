-- Laws of the condition's fields. In order: a result by a test; pairs of ends; the kind; a window; what is refused with 8; a list that is filled; the value read. Assumes nothing.
use Rattle.std.specs.Prelude.{if◌then◌else◌, Result, Ok, Err, is_ok, unwrap_or}
use Rattle.std.specs.Result.{result_unwrap_or, result_err}
use Rattle.std.proofs.Common.{◌≡◌, ℕ, zero, suc, ◌+◌, ◌-◌, ◌%◌, ◌<◌, ◌≤◌, Bool, true, false, cond, not, ◌&&◌, ◌||◌, eqb, ltb, leb, List, ◌++◌, length, drop, set, pos, sym, refl, ap, ◌∙◌, add-one, arith, le-ltb, lt-ltb, eq-eqb, ne_eqb, le-leb, leb-false, leb-true}
use mathlib.Core.Bool as B
use mathlib.Core.Bool.{false≢true}
use native.Mathlib.Decide.{dec_lt}
use lib.IntN.{sub_ℕ}
use lib.Signed.{le_z}
use borrow.Author.Tests.{lt-leb}
use Rattle.cuts.specs.Below.{every, tab}
use Rattle.levels.specs.Level.{twos}
use Rattle.levels.proofs.LevelLaws.{sub_pos, sub_eq, sub_le}
use Rattle.cuts.proofs.BelowLaws.{and_true, and_false, length_tab}
use Rattle.cuts.proofs.TabLaws.{front_more}
use Rattle.condition.specs.Condition.{bound_of, raised_of, upright, zeros, uses_windows, kind_at, k_at, low_at, high_at, kind_of, asked_at, window_low, window_high, window_ok, pair_ok, head_ok, condition_ok, condition_of, refused_of, read_of}
use Rattle.refusal.specs.declared.Reason.{Reason}
use Rattle.condition.specs.declared.Kind.{Kind}

-- a result that goes by a test
module _ {A E : Type 0} {r : Result A E} where
  pub ok_by : {b : Bool} {x y : A} (e : E) → r ≡ Ok x → r ≡ (if b then Ok y else Err e) → (b ≡ true) × (x ≡ y)
  ok_by {b} {x} {y} e w h = go b (sym w ∙ h)
    where
      go : (b : Bool) → ◌≡◌ {A = Result A E} (Ok x) (if b then Ok y else Err e) → (b ≡ true) × (x ≡ y)
      go true h = (refl, ap (λ (r : Result A E). result_unwrap_or r y) h)
      go false h = absurd (false≢true (sym (ap is_ok h)))

  pub err_by : {b : Bool} (y : A) {k e : E} → r ≡ Err k → r ≡ (if b then Ok y else Err e) → (b ≡ false) × (k ≡ e)
  err_by {b} y {k} {e} w h = go b (sym w ∙ h)
    where
      go : (b : Bool) → ◌≡◌ {A = Result A E} (Err k) (if b then Ok y else Err e) → (b ≡ false) × (k ≡ e)
      go true h = absurd (false≢true (ap is_ok h))
      go false h = (refl, ap (λ (r : Result A E). unwrap_or (result_err r) e) h)

pub ok_if : {A E : Type 0} {b : Bool} {x y : A} (e : E) → b ≡ true → x ≡ y → ◌≡◌ {A = Result A E} (Ok x) (if b then Ok y else Err e)
ok_if e t h = rw (t, h) refl

pub err_if : {A E : Type 0} {b : Bool} (y : A) {e : E} → b ≡ false → ◌≡◌ {A = Result A E} (Err e) (if b then Ok y else Err e)
err_if y f = rw f refl

-- tests of two numbers and of what is k above them
pub leb_add : (a b k : ℕ) → leb (a + k) (b + k) ≡ leb a b
leb_add a b k = go (leb a b) refl
  where
    go : (t : Bool) → leb a b ≡ t → leb (a + k) (b + k) ≡ t
    go true e = le-leb (a + k) (b + k) (omega (arith, leb-true a b e))
    go false e = lt-leb (a + k) (b + k) (omega (arith, leb-false a b e))

-- an excess number stands for what the 16 bits stand for
pub bound_raised : (f : ℕ) → bound_of (raised_of f) ≡ twos 16 f
unfolding bound_of raised_of twos
bound_raised f = go (dec_lt f 32768)
  where
    go : Dec (f < 32768) → sub_ℕ (cond (leb 32768 f) (f - 32768) (f + 32768)) 32768 ≡ cond (ltb f 32768) (pos f) (sub_ℕ f 65536)
    go (yes k) = rw (lt-ltb f 32768 k, lt-leb 32768 f k) (sub_pos (f + 32768) 32768 (omega arith) ∙ ap pos (omega arith))
    go (no k) = rw (le-ltb f 32768 (omega arith), le-leb 32768 f (omega arith)) (sub_eq (f - 32768) 32768 f 65536 (omega arith))

bound_le : (a b : ℕ) → le_z (bound_of a) (bound_of b) ≡ leb a b
unfolding bound_of
bound_le a b = sub_le a 32768 b 32768 ∙ leb_add a b 32768

-- excess numbers are compared as the ends that they stand for
raised_upright : (low high : ℕ) → leb (raised_of low) (raised_of high) ≡ upright low high
raised_upright low high = rw (← bound_raised low, ← bound_raised high) (sym (bound_le (raised_of low) (raised_of high)))

-- the excess number as a sum that wraps
pub raised_wraps : (f : ℕ) → f < 65536 → (f + 32768) % 65536 ≡ raised_of f
unfolding raised_of
raised_wraps f h = go (dec_lt f 32768)
  where
    go : Dec (f < 32768) → (f + 32768) % 65536 ≡ cond (leb 32768 f) (f - 32768) (f + 32768)
    go (yes k) = rw (lt-leb 32768 f k) (omega arith)
    go (no k) = rw (le-leb 32768 f (omega arith)) (omega arith)

-- 32,768 alone stands for 0
raised_zero : (f : ℕ) → f < 65536 → eqb (raised_of f) 32768 ≡ eqb f 0
unfolding raised_of
raised_zero zero h = refl
raised_zero (suc n) h = rw (ne_eqb (raised_of (suc n)) 32768 (λ e. omega (arith, raised_wraps (suc n) h)), ne_eqb (suc n) 0 (λ e. omega arith)) refl

-- a pair of ends as the code judges it, by its excess numbers: used and not upside down ..
module _ {low high : ℕ} (f g : ℕ) (l : low ≡ raised_of f) (h : high ≡ raised_of g) where
  pub ends_up : low ≤ high → upright f g ≡ true
  ends_up o = sym (raised_upright f g) ∙ (rw (l, h) at (le-leb low high o))

  pub ends_down : high < low → upright f g ≡ false
  ends_down o = sym (raised_upright f g) ∙ (rw (l, h) at (lt-leb low high o))

  -- .. or not used and zero
  pub ends_zeros : f < 65536 → g < 65536 → (eqb low 32768 && eqb high 32768) ≡ zeros f g
  ends_zeros i j = rw (l, h, raised_zero f i, raised_zero g j) refl

module _ (s : List ℕ) where
  pub kind_of-zero : kind_at s ≡ 0 → kind_of s (kind_at s) ≡ Kind.Together
  unfolding kind_of
  kind_of-zero e = rw e refl

  pub kind_of-one : kind_at s ≡ 1 → kind_of s (kind_at s) ≡ Kind.AtLeast (k_at s)
  unfolding kind_of
  kind_of-one e = rw e refl

  pub kind_of-two : 2 ≤ kind_at s → kind_of s (kind_at s) ≡ Kind.Sum (raised_of (low_at s)) (raised_of (high_at s))
  unfolding kind_of
  kind_of-two h =
      let e : kind_at s ≡ suc (suc (kind_at s - 2)) = omega arith in
      rw e refl

  -- a kind that keeps to its section uses windows unless it is the third
  pub kind_uses : head_ok s ≡ true → uses_windows (kind_of s (kind_at s)) ≡ not (eqb (kind_at s) 2)
  unfolding kind_of uses_windows
  kind_uses h = go (kind_at s) (leb-true _ _ (and_true (leb (kind_at s) 2) (leb (k_at s) 8) (and_true _ _ (and_true _ _ h).0).0).0)
    where
      go : (k : ℕ) → k ≤ 2 → uses_windows (kind_of s k) ≡ not (eqb k 2)
      go zero l = refl
      go (suc zero) l = refl
      go (suc (suc zero)) l = refl
      go (suc (suc (suc k))) l = absurd (omega arith)

module _ (s : List ℕ) (p : ℕ) where
  -- Sum has no use for a window
  pub window_ok-sum : kind_at s ≡ 2 → window_ok s p ≡ zeros (window_low s p) (window_high s p)
  unfolding window_ok
  window_ok-sum e = rw (eq-eqb _ _ e, and_false (asked_at s p)) refl

  -- the other kinds use that of an asked station
  pub window_ok-other : (kind_at s ≡ 2 → ⊥)
      → window_ok s p ≡ cond (asked_at s p) (upright (window_low s p) (window_high s p)) (zeros (window_low s p) (window_high s p))
  unfolding window_ok
  window_ok-other e = rw (ne_eqb _ _ e, B.and-true (asked_at s p)) refl

-- k is zero where the kind has no use for it
unfoldable pub k_ok : List ℕ → Bool
k_ok s = eqb (kind_at s) 1 || eqb (k_at s) 0

-- low and high are in order for Sum, and zero for the other kinds
unfoldable pub ends_ok : List ℕ → Bool
ends_ok s = cond (eqb (kind_at s) 2) (upright (low_at s) (high_at s)) (zeros (low_at s) (high_at s))

module _ (s : List ℕ) where
  -- the tests before the windows, of the kind and the k that were read, where the ends r were good, and where they were not
  module _ {kind k : ℕ} {r : Result (ℕ × ℕ) Reason} (i : kind ≡ kind_at s) (j : k ≡ k_at s)
      (h : r ≡ (if pair_ok (eqb kind 2) (low_at s) (high_at s) then Ok (raised_of (low_at s), raised_of (high_at s)) else Err Reason.Condition)) where
    pub head_good : {e : ℕ × ℕ} → r ≡ Ok e → head_ok s ≡ (leb kind 2 && leb k 8 && (eqb kind 1 || eqb k 0))
    head_good w = rw (← i, ← j, (ok_by _ w h).0) (B.and-true (leb kind 2 && leb k 8 && (eqb kind 1 || eqb k 0)))

    pub head_bad : {f : Reason} → r ≡ Err f → head_ok s ≡ false
    head_bad w = rw (← i, ← j, (err_by _ w h).0) (and_false _)

-- the condition keeps to its section, test by test
pub record Kept (s : List ℕ) : Type 0 where
  pub kind : kind_at s ≤ 2
  pub k : k_at s ≤ 8
  pub k_use : k_ok s ≡ true
  pub ends : ends_ok s ≡ true
  pub windows : every 8 (window_ok s) ≡ true

module _ (s : List ℕ) where
  pub condition_ok-kept : condition_ok s ≡ true → Kept s
  unfolding condition_ok k_ok ends_ok
  condition_ok-kept h =
      let (h₄, windows) = and_true (leb (kind_at s) 2 && leb (k_at s) 8 && k_ok s && ends_ok s) (every 8 (window_ok s)) h in
      let (h₃, ends) = and_true (leb (kind_at s) 2 && leb (k_at s) 8 && k_ok s) (ends_ok s) h₄ in
      let (h₂, used) = and_true (leb (kind_at s) 2 && leb (k_at s) 8) (k_ok s) h₃ in
      let (h₁, h₀) = and_true (leb (kind_at s) 2) (leb (k_at s) 8) h₂ in
      record { kind = leb-true _ _ h₁; k = leb-true _ _ h₀; k_use = used; ends = ends; windows = windows }

  -- where the other tests pass the windows decide
  pub condition_ok-windows : kind_at s ≤ 2 → k_at s ≤ 8 → k_ok s ≡ true → ends_ok s ≡ true → condition_ok s ≡ every 8 (window_ok s)
  unfolding condition_ok k_ok ends_ok
  condition_ok-windows h₁ h₂ h₃ h₄ = rw (le-leb _ _ h₁, le-leb _ _ h₂, h₃, h₄) refl

-- a list w that was d, and whose first k elements are f's by now: one more
pub filled_more : {A : Type 0} (k : ℕ) (f : ℕ → A) (d : List A) {w : List A} {a : A} → w ≡ tab k f ++ drop k d → a ≡ f k → k < length d
    → set w k a ≡ tab (k + 1) f ++ drop (k + 1) d
unfolding tab
filled_more k f d e h l = rw (e, h) (front_more (tab k f) d k (f k) (f k) (length_tab k f) l ∙ rw (add-one k) refl)

module _ (s : List ℕ) where
  -- the three answers
  pub refused_of-short : length s < 38 → refused_of s ≡ Err Reason.TooShort
  unfolding refused_of
  refused_of-short h = rw (lt-leb 38 (length s) h) refl

  pub refused_of-broken : 38 ≤ length s → condition_ok s ≡ false → refused_of s ≡ Err Reason.Condition
  unfolding refused_of
  refused_of-broken h e = rw (le-leb 38 (length s) h, e) refl

  pub refused_of-good : 38 ≤ length s → condition_ok s ≡ true → refused_of s ≡ Ok tt
  unfolding refused_of
  refused_of-good h e = rw (le-leb 38 (length s) h, e) refl

  -- and what is read
  pub read_of-refused : {k : Reason} → refused_of s ≡ Err k → read_of s ≡ Err k
  unfolding read_of
  read_of-refused e = rw e refl

  pub read_of-good : refused_of s ≡ Ok tt → read_of s ≡ Ok (condition_of s)
  unfolding read_of
  read_of-good e = rw e refl
