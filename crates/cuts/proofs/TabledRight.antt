-- A table of marks in rank order has each cut's mark at its rank, because a step back lowers the rank. Whatever the marks are.
-- Assumes nothing.
use mathlib.Core.Path.{◌≡◌, refl, sym, ap, ◌∙◌, fun_ext}
use mathlib.Core.Logic.{◌⊎◌, inl, inr}
use mathlib.Core.Bool.{Bool, true, false, cond}
use mathlib.Core.List.{List, []}
use Prim.Native.Nat.{ℕ, zero, suc, ◌<◌}
use native.Mathlib.Nat.{eq-or-lt_of_le, le_of_suc-le-suc}
use native.Mathlib.Omega.{arith}
use lib.ListN.{length, get_or, length-append, get_or-append}
use lib.Seq.{get_or_at}
use lib.Dec.{ltb}
use borrow.Author.Tests.{ltb-true}
use Rattle.cuts.specs.Cut.{at, back, total, Within}
use Rattle.cuts.specs.Rank.{rank, unrank}
use Rattle.cuts.proofs.CutLaws.{within_back, total_back, zeros_of, at_zeros}
use Rattle.cuts.proofs.RankLaws.{rank_back_lt, unrank_rank}
use Rattle.cuts.specs.Computed.{by_back, value, tabled}

module _ (f : List ℕ → (ℕ → ℕ) → ℕ) where
  pub length_tabled : (m : List ℕ) (r : ℕ) → length (tabled f m r) ≡ r
  unfolding tabled
  length_tabled m zero = refl
  length_tabled m (suc r) = length-append (tabled f m r) _ ∙ omega (arith, length_tabled m r)

  -- a cut's mark, from those one step back
  pub value_is : (c : List ℕ) → value f c ≡ f c (λ p. cond (ltb 0 (at c p)) (value f (back p c)) 0)
  unfolding by_back
  value_is c = go (total c) refl
    where
      go : (k : ℕ) → total c ≡ k → by_back f k c ≡ f c (λ p. cond (ltb 0 (at c p)) (value f (back p c)) 0)
      go zero e = ap (f c) (fun_ext (λ p. one p (ltb 0 (at c p)) refl))
        where
          one : (p : ℕ) (b : Bool) → ltb 0 (at c p) ≡ b → 0 ≡ cond b (value f (back p c)) 0
          one p true x = absurd (omega (arith, ltb-true 0 (at c p) x, ap (λ (d : List ℕ). at d p) (zeros_of c e), at_zeros (length c) p))
          one p false x = refl
      go (suc k) e = ap (f c) (fun_ext (λ p. one p (ltb 0 (at c p)) refl))
        where
          one : (p : ℕ) (b : Bool) → ltb 0 (at c p) ≡ b → cond b (by_back f k (back p c)) 0 ≡ cond b (value f (back p c)) 0
          one p true x = let q : k ≡ total (back p c) = omega (arith, total_back p c (ltb-true 0 (at c p) x)) in ap (λ (j : ℕ). by_back f j (back p c)) q
          one p false x = refl

  pub tabled_at : (m : List ℕ) (R : ℕ) (c : List ℕ) → Within m c → rank m c < R → get_or (tabled f m R) (rank m c) 0 ≡ value f c
  unfolding tabled
  tabled_at m zero c w h = absurd (omega arith)
  tabled_at m (suc R) c w h = go (tabled_at m R) (eq-or-lt_of_le (le_of_suc-le-suc h))
    where
      g : ℕ → List ℕ → ℕ → ℕ
      g k c p = cond (ltb 0 (at c p)) (get_or (tabled f m k) (rank m (back p c)) 0) 0

      go : ((c : List ℕ) → Within m c → rank m c < R → get_or (tabled f m R) (rank m c) 0 ≡ value f c) → (rank m c ≡ R) ⊎ (rank m c < R) → get_or (tabled f m (suc R)) (rank m c) 0 ≡ value f c
      go ih (inl e) = get_or_at (tabled f m R) _ [] 0 (rank m c) (length_tabled m R ∙ sym e) ∙ ap (λ (d : List ℕ). f d (g R d)) (ap (unrank m) (sym e) ∙ unrank_rank m c w) ∙ ap (f c) (fun_ext (λ p. one p (ltb 0 (at c p)) refl)) ∙ sym (value_is c)
        where
          one : (p : ℕ) (b : Bool) → ltb 0 (at c p) ≡ b → cond b (get_or (tabled f m R) (rank m (back p c)) 0) 0 ≡ cond b (value f (back p c)) 0
          one p true x = ih (back p c) (within_back m c p w) (omega (arith, rank_back_lt m c p w (ltb-true 0 (at c p) x)))
          one p false x = refl
      go ih (inr l) = get_or-append (tabled f m R) _ 0 (rank m c) (omega (arith, length_tabled m R)) ∙ ih c w l
