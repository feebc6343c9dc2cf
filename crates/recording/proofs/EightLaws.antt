-- An array of eight, made place by place, as the list of a function's values. Assumes nothing.
use mathlib.Core.Path.{◌≡◌, sym, ◌∙◌}
use mathlib.Core.List.{List}
use Prim.Native.Nat.{ℕ, zero, suc, ◌<◌}
use native.Mathlib.Omega.{arith}
use lib.ListN.{length, get_or}
use lib.Seq.{ext_get_or}
use Rattle.cuts.specs.Below.{tab}
use Rattle.cuts.proofs.BelowLaws.{length_tab, get_d-tab}

pub eight_made : (l : List ℕ) (f : ℕ → ℕ) → length l ≡ 8 → get_or l 0 0 ≡ f 0 → get_or l 1 0 ≡ f 1 → get_or l 2 0 ≡ f 2 → get_or l 3 0 ≡ f 3
    → get_or l 4 0 ≡ f 4 → get_or l 5 0 ≡ f 5 → get_or l 6 0 ≡ f 6 → get_or l 7 0 ≡ f 7 → l ≡ tab 8 f
eight_made l f e h0 h1 h2 h3 h4 h5 h6 h7 =
    ext_get_or 0 l (tab 8 f) (e ∙ sym (length_tab 8 f)) (λ i h. go i (omega (arith, e)) ∙ sym (get_d-tab 8 f 0 i (omega (arith, e))))
  where
    go : (i : ℕ) → i < 8 → get_or l i 0 ≡ f i
    go zero k = h0
    go (suc zero) k = h1
    go (suc (suc zero)) k = h2
    go (suc (suc (suc zero))) k = h3
    go (suc (suc (suc (suc zero)))) k = h4
    go (suc (suc (suc (suc (suc zero))))) k = h5
    go (suc (suc (suc (suc (suc (suc zero)))))) k = h6
    go (suc (suc (suc (suc (suc (suc (suc zero))))))) k = h7
    go (suc (suc (suc (suc (suc (suc (suc (suc i)))))))) k = absurd (omega arith)
