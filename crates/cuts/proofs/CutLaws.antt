-- Laws of cuts. In order: steps and their counts; cuts of a recording; the events in a cut; who can go on.
-- Assumes nothing.
use mathlib.Core.Path.{◌≡◌, refl, ap, ap₂}
use mathlib.Core.Logic.{◌≢◌, ◌⊎◌, inl, inr}
use mathlib.Core.List.{List, [], ◌∷◌}
use Prim.Native.Nat.{ℕ, zero, suc, ◌+◌, ◌≤◌, ◌<◌}
use native.Mathlib.Nat.{not-suc-le-zero, le_of_suc-le-suc, suc-pred-eq_of_pos}
use native.Mathlib.Decide.{dec_lt, dec_le}
use native.Mathlib.Omega.{arith}
use lib.ListN.{length}
use Rattle.cuts.specs.Cut.{at, zeros, forward, back, total, Within}
use Rattle.cuts.specs.Below.{own}
use Rattle.cuts.proofs.BelowLaws.{own_pos, own_le}

pub length_forward : (p : ℕ) (c : List ℕ) → length (forward p c) ≡ length c
length_forward p [] = refl
length_forward zero (x ∷ xs) = refl
length_forward (suc p) (x ∷ xs) = ap suc (length_forward p xs)

pub at_forward_same : (p : ℕ) (c : List ℕ) → p < length c → at (forward p c) p ≡ suc (at c p)
at_forward_same p [] h = absurd (not-suc-le-zero h)
at_forward_same zero (x ∷ xs) h = refl
at_forward_same (suc p) (x ∷ xs) h = at_forward_same p xs (le_of_suc-le-suc h)

pub at_forward_other : (p q : ℕ) (c : List ℕ) → p ≢ q → at (forward p c) q ≡ at c q
at_forward_other p q [] h = refl
at_forward_other zero zero (x ∷ xs) h = absurd (h refl)
at_forward_other zero (suc q) (x ∷ xs) h = refl
at_forward_other (suc p) zero (x ∷ xs) h = refl
at_forward_other (suc p) (suc q) (x ∷ xs) h = at_forward_other p q xs (λ e. h (ap suc e))

pub forward_back : (p : ℕ) (c : List ℕ) → 0 < at c p → forward p (back p c) ≡ c
forward_back p [] h = refl
forward_back zero (x ∷ xs) h = ap {B = List ℕ} (λ y. y ∷ xs) (suc-pred-eq_of_pos h)
forward_back (suc p) (x ∷ xs) h = ap {B = List ℕ} (λ r. x ∷ r) (forward_back p xs h)

pub back_forward : (p : ℕ) (c : List ℕ) → back p (forward p c) ≡ c
back_forward p [] = refl
back_forward zero (x ∷ xs) = refl
back_forward (suc p) (x ∷ xs) = ap {B = List ℕ} (λ r. x ∷ r) (back_forward p xs)

pub at_zeros : (n p : ℕ) → at (zeros n) p ≡ 0
at_zeros zero p = refl
at_zeros (suc n) zero = refl
at_zeros (suc n) (suc p) = at_zeros n p

pub within_length : (m c : List ℕ) → Within m c → length c ≡ length m
within_length [] [] w = refl
within_length [] (c ∷ cs) w = absurd w
within_length (m ∷ ms) [] w = absurd w
within_length (m ∷ ms) (c ∷ cs) w = ap suc (within_length ms cs w.1)

pub within_at : (m c : List ℕ) → Within m c → (p : ℕ) → at c p ≤ at m p
within_at [] [] w p = omega arith
within_at [] (c ∷ cs) w p = absurd w
within_at (m ∷ ms) [] w p = absurd w
within_at (m ∷ ms) (c ∷ cs) w zero = w.0
within_at (m ∷ ms) (c ∷ cs) w (suc p) = within_at ms cs w.1 p

pub within_zeros : (m : List ℕ) → Within m (zeros (length m))
within_zeros [] = tt
within_zeros (m ∷ ms) = (omega arith, within_zeros ms)

pub within_full : (m : List ℕ) → Within m m
within_full [] = tt
within_full (m ∷ ms) = (omega arith, within_full ms)

pub within_forward : (m c : List ℕ) (p : ℕ) → Within m c → at c p < at m p → Within m (forward p c)
within_forward [] [] p w h = tt
within_forward [] (c ∷ cs) p w h = absurd w
within_forward (m ∷ ms) [] p w h = absurd w
within_forward (m ∷ ms) (c ∷ cs) zero w h = (h, w.1)
within_forward (m ∷ ms) (c ∷ cs) (suc p) w h = (w.0, within_forward ms cs p w.1 h)

pub within_back : (m c : List ℕ) (p : ℕ) → Within m c → Within m (back p c)
within_back [] [] p w = tt
within_back [] (c ∷ cs) p w = absurd w
within_back (m ∷ ms) [] p w = absurd w
within_back (m ∷ ms) (c ∷ cs) zero w = (omega arith, w.1)
within_back (m ∷ ms) (c ∷ cs) (suc p) w = (w.0, within_back ms cs p w.1)

pub total_back : (p : ℕ) (c : List ℕ) → 0 < at c p → suc (total (back p c)) ≡ total c
total_back p [] h = absurd (not-suc-le-zero h)
total_back zero (x ∷ xs) h = omega arith
total_back (suc p) (x ∷ xs) h = omega (arith, total_back p xs h)

pub total_forward : (p : ℕ) (c : List ℕ) → p < length c → total (forward p c) ≡ suc (total c)
total_forward p [] h = absurd (not-suc-le-zero h)
total_forward zero (x ∷ xs) h = omega arith
total_forward (suc p) (x ∷ xs) h = omega (arith, total_forward p xs (le_of_suc-le-suc h))

pub total_zeros : (n : ℕ) → total (zeros n) ≡ 0
total_zeros zero = refl
total_zeros (suc n) = omega (arith, total_zeros n)

-- a cut with no event is the start
pub zeros_of : (c : List ℕ) → total c ≡ 0 → c ≡ zeros (length c)
zeros_of [] h = refl
zeros_of (x ∷ xs) h = ap₂ {C = List ℕ} (λ y r. y ∷ r) (omega arith) (zeros_of xs (omega arith))

pub at_back : (p : ℕ) (c : List ℕ) → 0 < at c p → suc (at (back p c) p) ≡ at c p
at_back p [] h = absurd (not-suc-le-zero h)
at_back zero (x ∷ xs) h = suc-pred-eq_of_pos h
at_back (suc p) (x ∷ xs) h = at_back p xs h

pub within_total : (m c : List ℕ) → Within m c → total c ≤ total m
within_total [] [] w = omega arith
within_total [] (c ∷ cs) w = absurd w
within_total (m ∷ ms) [] w = absurd w
within_total (m ∷ ms) (c ∷ cs) w = omega (arith, within_total ms cs w.1)

-- a cut with all the events is the full one
pub full_of_lem : (m c : List ℕ) → Within m c → total c ≡ total m → c ≡ m
full_of_lem [] [] w h = refl
full_of_lem [] (c ∷ cs) w h = absurd w
full_of_lem (m ∷ ms) [] w h = absurd w
full_of_lem (m ∷ ms) (c ∷ cs) w h = ap₂ {C = List ℕ} (λ y r. y ∷ r) (omega (arith, within_total ms cs w.1)) (full_of_lem ms cs w.1 (omega (arith, within_total ms cs w.1)))

-- a cut with fewer has a station that can go on
pub room : (m c : List ℕ) → Within m c → total c < total m → (p : ℕ) × (p < length m) × (at c p < at m p)
room [] [] w h = absurd (not-suc-le-zero h)
room [] (c ∷ cs) w h = absurd w
room (m ∷ ms) [] w h = absurd w
room (m ∷ ms) (c ∷ cs) w h = go (dec_lt c m) (λ k. room ms cs w.1 k)
  where
    go : Dec (c < m) → (total cs < total ms → (p : ℕ) × (p < length ms) × (at cs p < at ms p)) → (p : ℕ) × (p < suc (length ms)) × (at (c ∷ cs) p < at (m ∷ ms) p)
    go (yes k) ih = (0, omega arith, k)
    go (no k) ih = let (p, a, b) = ih (omega arith) in (suc p, omega arith, b)

pub at_forward : (p q : ℕ) (c : List ℕ) → q < length c → at (forward p c) q ≡ at c q + own p q
at_forward p q [] h = absurd (not-suc-le-zero h)
at_forward zero zero (x ∷ xs) h = omega arith
at_forward zero (suc q) (x ∷ xs) h = omega arith
at_forward (suc p) zero (x ∷ xs) h = omega arith
at_forward (suc p) (suc q) (x ∷ xs) h = at_forward p q xs (le_of_suc-le-suc h)

-- an event of the cut after a step of p is one of the cut before, or the step's own
pub new_or_old : (p q e : ℕ) (c : List ℕ) → q < length c → e ≤ at (forward p c) q → (e ≤ at c q) ⊎ ((p ≡ q) × (e ≡ suc (at c q)))
new_or_old p q e c h l = go (dec_le e (at c q))
  where
    go : Dec (e ≤ at c q) → (e ≤ at c q) ⊎ ((p ≡ q) × (e ≡ suc (at c q)))
    go (yes k) = inl k
    go (no k) = inr (same, omega (arith, at_forward p q c h, own_le p q))
      where
        same : p ≡ q
        same = own_pos p q (omega (arith, at_forward p q c h))
