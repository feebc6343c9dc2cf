-- Laws of rank and box. The law's sum is Horner's rule (`rank_cons`); from that: every rank below the box is one cut's and every cut's rank is below
-- the box; the start has rank 0; a step back at p lowers the rank by p's weight. Assumes nothing.
use mathlib.Core.Path.{◌≡◌, refl, sym, ap, ap₂, ◌∙◌}
use mathlib.Core.List.{List, [], ◌∷◌}
use Prim.Native.Nat.{ℕ, zero, suc, pred, ◌+◌, ◌*◌, ◌/◌, ◌<◌}
use native.Mathlib.Nat.{suc-ne-zero, not-suc-le-zero, le_of_suc-le-suc, mod-lt, zero-lt-suc, div-lt_iff_lt-mul, mul-le-mul_left, mod-add-div, add-mul-mod_self_left, add-mul-div_left, mod-eq_of_lt, div-eq_of_lt}
use native.Mathlib.Omega.{arith}
use lib.ListN.{length}
use Rattle.cuts.specs.Below.{sum_to, product_to}
use Rattle.cuts.specs.Cut.{at, zeros, forward, back, Within}
use Rattle.cuts.specs.Rank.{box, rank, unrank, weight}
use Rattle.cuts.proofs.BelowLaws.{sum_to-first, sum_to-same, sum_to-scale, product_to-first, product_to-pos}

pub weight_zero : (m : List ℕ) → weight m 0 ≡ 1
unfolding weight product_to
weight_zero m = refl

pub weight_cons : (k : ℕ) (m : List ℕ) (p : ℕ) → weight (k ∷ m) (suc p) ≡ suc k * weight m p
unfolding weight
weight_cons k m p = product_to-first p (λ q. suc (at (k ∷ m) q))

pub box_cons : (k : ℕ) (m : List ℕ) → box (k ∷ m) ≡ suc k * box m
unfolding box
box_cons k m = product_to-first (length m) (λ q. suc (at (k ∷ m) q))

pub box_nil : box [] ≡ 1
unfolding box product_to
box_nil = refl

pub rank_nil : (c : List ℕ) → rank [] c ≡ 0
unfolding rank sum_to
rank_nil c = refl

-- Horner's rule
pub rank_cons : (k : ℕ) (m : List ℕ) (x : ℕ) (c : List ℕ) → rank (k ∷ m) (x ∷ c) ≡ x + suc k * rank m c
unfolding rank
rank_cons k m x c = sum_to-first (length m) _ ∙ ap₂ ◌+◌ (omega (arith, ap (λ (w : ℕ). x * w) (weight_zero (k ∷ m)))) (sum_to-same (length m) _ _ term ∙ sum_to-scale (length m) (suc k) _)
  where
    term : (p : ℕ) → p < length m → at c p * weight (k ∷ m) (suc p) ≡ suc k * (at c p * weight m p)
    term p h = rw (weight_cons k m p) (omega arith)

pub box_pos : (m : List ℕ) → 0 < box m
unfolding box
box_pos m = product_to-pos (length m) _ (λ q h. omega arith)

pub weight_pos : (m : List ℕ) (p : ℕ) → 0 < weight m p
unfolding weight
weight_pos m p = product_to-pos p _ (λ q h. omega arith)

pub rank_lt : (m c : List ℕ) → Within m c → rank m c < box m
rank_lt [] [] w = rw (rank_nil, box_nil) (omega arith)
rank_lt [] (x ∷ c) w = absurd w
rank_lt (k ∷ m) [] w = absurd w
rank_lt (k ∷ m) (x ∷ c) w = rw (rank_cons, box_cons) (omega (arith, w.0, mul-le-mul_left (suc k) (rank_lt m c w.1)))

-- the rest of a rank below the box, once station 1 is taken out
rest_lt : (k : ℕ) (m : List ℕ) (r : ℕ) → r < box (k ∷ m) → r / suc k < box m
rest_lt k m r h = (div-lt_iff_lt-mul (zero-lt-suc k)).1 (omega (arith, rw box_cons at h))

pub unrank_within : (m : List ℕ) (r : ℕ) → r < box m → Within m (unrank m r)
unfolding unrank
unrank_within [] r h = tt
unrank_within (k ∷ m) r h = (le_of_suc-le-suc (mod-lt r (zero-lt-suc k)), unrank_within m (r / suc k) (rest_lt k m r h))

pub rank_unrank : (m : List ℕ) (r : ℕ) → r < box m → rank m (unrank m r) ≡ r
unfolding unrank
rank_unrank [] r h = rank_nil _ ∙ omega (arith, rw box_nil at h)
rank_unrank (k ∷ m) r h = rank_cons k m _ _ ∙ rw (rank_unrank m (r / suc k) (rest_lt k m r h)) (mod-add-div r (suc k))

pub unrank_rank : (m c : List ℕ) → Within m c → unrank m (rank m c) ≡ c
unfolding unrank
unrank_rank [] [] w = refl
unrank_rank [] (x ∷ c) w = absurd w
unrank_rank (k ∷ m) [] w = absurd w
unrank_rank (k ∷ m) (x ∷ c) w =
    ap (λ (r : ℕ). unrank (k ∷ m) r) (rank_cons k m x c)
    ∙ ap₂ {C = List ℕ} (λ y d. y ∷ d)
    (add-mul-mod_self_left x (suc k) (rank m c) ∙ mod-eq_of_lt lt)
    (ap (unrank m) (add-mul-div_left x (rank m c) (zero-lt-suc k) ∙ omega (arith, div-eq_of_lt lt)) ∙ unrank_rank m c w.1)
  where
    lt : x < suc k
    lt = omega (arith, w.0)

pub rank_zeros : (m : List ℕ) → rank m (zeros (length m)) ≡ 0
rank_zeros [] = rank_nil []
rank_zeros (k ∷ m) = rw (rank_cons, rank_zeros m) (omega arith)

pub rank_forward : (m c : List ℕ) (p : ℕ) → length c ≡ length m → p < length m → rank m (forward p c) ≡ rank m c + weight m p
rank_forward [] c p e h = absurd (not-suc-le-zero h)
rank_forward (k ∷ m) [] p e h = absurd (suc-ne-zero (length m) (sym e))
rank_forward (k ∷ m) (x ∷ c) zero e h = omega (arith, rank_cons k m (suc x) c, rank_cons k m x c, weight_zero (k ∷ m))
rank_forward (k ∷ m) (x ∷ c) (suc p) e h =
    omega (arith, rank_cons k m x (forward p c), rank_cons k m x c, weight_cons k m p, ap (λ (r : ℕ). suc k * r) (rank_forward m c p (omega arith) (le_of_suc-le-suc h)))

pub rank_back : (m c : List ℕ) (p : ℕ) → Within m c → 0 < at c p → rank m (back p c) + weight m p ≡ rank m c
rank_back [] [] p w h = absurd (not-suc-le-zero h)
rank_back [] (x ∷ c) p w h = absurd w
rank_back (k ∷ m) [] p w h = absurd w
rank_back (k ∷ m) (x ∷ c) zero w h = omega (arith, rank_cons k m (pred x) c, rank_cons k m x c, weight_zero (k ∷ m))
rank_back (k ∷ m) (x ∷ c) (suc p) w h =
    omega (arith, rank_cons k m x (back p c), rank_cons k m x c, weight_cons k m p, ap (λ (r : ℕ). suc k * r) (rank_back m c p w.1 h))

pub rank_back_lt : (m c : List ℕ) (p : ℕ) → Within m c → 0 < at c p → rank m (back p c) < rank m c
rank_back_lt m c p w h = omega (arith, rank_back m c p w h, weight_pos m p)
