-- Rank and box: document 01, "Rank". Station 1 moves fastest. `unrank` is the way back, computed.
use Rattle.std.specs.Prelude.{List, [], ◌∷◌, ℕ, suc, ◌*◌, ◌/◌, ◌%◌, length}
use Rattle.cuts.specs.Below.{sum_to, product_to}
use Rattle.cuts.specs.Cut.{at}

-- "the product of (m_q + 1) for all q below p"
unfoldable pub weight : List ℕ → ℕ → ℕ
weight m p = product_to p (λ q. suc (at m q))

-- "The sum over p of c_p times the product of (m_q + 1) for all q below p"
unfoldable pub rank : List ℕ → List ℕ → ℕ
rank m c = sum_to (length m) (λ p. at c p * weight m p)

-- "The box is the product of all (m_p + 1)"
unfoldable pub box : List ℕ → ℕ
box m = product_to (length m) (λ p. suc (at m p))

-- the cut of a rank
unfoldable pub unrank : List ℕ → ℕ → List ℕ
unrank [] r = []
unrank (k ∷ m) r = (r % suc k) ∷ unrank m (r / suc k)
