-- Laws of a cut as a value. In order: the counts under m; a step that is found; steps on lists;
-- the eight counts; weights, the box and its ceiling; the rank; the events of the first stations. Assumes nothing.
use mathlib.Core.Path.{◌≡◌, refl, sym, ap, ap₂, ◌∙◌}
use mathlib.Core.Bool.{Bool, true, false, false≢true}
use mathlib.Core.Logic.{◌↔◌, ⊎_elim}
use mathlib.Core.List.{List, [], ◌∷◌}
use Prim.Native.Nat.{ℕ, zero, suc, ◌+◌, ◌-◌, ◌*◌, ◌≤◌, ◌<◌, min}
use native.Mathlib.Nat.{mul-le-mul, le-mul_of_pos_right, le_trans, eq-or-lt_of_le, le_of_suc-le-suc, not-suc-le-zero}
use native.Mathlib.Decide.{dec_le}
use native.Mathlib.Numerals.{add-one}
use native.Mathlib.Omega.{arith}
use lib.Arith.{le-zero}
use lib.Dec.{leb}
use lib.ListN.{length, take, set}
use lib.Seq.{length-take-le, get_or-take}
use mir.Syntax.{w16}
use mir.Val.{Val}
use denote.Laws.{Is}
use denote.Struct.Declared.{row}
use borrow.Kind.Array.{e_int, good_length}
use borrow.Author.Tests.{leb-true, lt-ltb, le-ltb, le-leb}
use Rattle.cuts.specs.Below.{sum_to, product_to}
use Rattle.cuts.specs.Cut.{at, forward, back, total, Within}
use Rattle.cuts.specs.Rank.{weight, rank, box}
use Rattle.cut.specs.Value.{counts_of, most_at, under, moved, with_count, forward_of, back_of}
use Rattle.cut.specs.declared.Cut.{Cut}
use Rattle.std.proofs.Common.{Some, is_some, IsSome}
use Rattle.cut.specs.contracts.Cut.{the_type}
use Rattle.cuts.proofs.BelowLaws.{every_true, true_every, sum_to-same, sum_to-more, sum_to-first, product_to-same, product_to-more}

pub most_at-in : (m : Cut) (p : ℕ) → p < m.n → most_at m p ≡ at m.counts p
unfolding most_at
most_at-in m p h = simp (lt-ltb _ _ h)

pub most_at-beyond : (m : Cut) (p : ℕ) → m.n ≤ p → most_at m p ≡ 0
unfolding most_at
most_at-beyond m p h = simp (le-ltb _ _ h)

pub under_at : (m c : Cut) → (under m c ≡ true) ↔ ((p : ℕ) → p < 8 → at c.counts p ≤ most_at m p)
unfolding under
under_at m c = (
  λ h p l. leb-true (at c.counts p) (most_at m p) (every_true 8 (λ q. leb (at c.counts q) (most_at m q)) h p l),
  λ h. true_every 8 _ (λ p l. le-leb _ _ (h p l)),
)

pub found_moved : (t : Bool) (new : Cut) → is_some (moved t new) ≡ t
unfolding moved
found_moved true new = refl
found_moved false new = refl

moved_some : (t : Bool) (new : Cut) → IsSome (moved t new) → Some new ≡ moved t new
unfolding moved
moved_some true new h = refl
moved_some false new h = absurd (false≢true h)

-- a step that is found hands back the cut with the one count changed
pub forward_of-some : (m c : Cut) (s : ℕ) → IsSome (forward_of m c s)
    → Some (with_count c (s - 1) (at c.counts (s - 1) + 1)) ≡ forward_of m c s
unfolding forward_of
forward_of-some m c s h = moved_some _ _ h

pub back_of-some : (m c : Cut) (s : ℕ) → IsSome (back_of m c s)
    → Some (with_count c (s - 1) (at c.counts (s - 1) - 1)) ≡ back_of m c s
unfolding back_of
back_of-some m c s h = moved_some _ _ h

pub at-counts_of : (c : Cut) (p : ℕ) → p < c.n → at (counts_of c) p ≡ at c.counts p
at-counts_of c p h = get_or-take c.n c.counts p 0 h

-- a count stays under b where the one put in and the old one are
pub at_set_le : (l : List ℕ) (p x q b : ℕ) → (q ≡ p → x ≤ b) → at l q ≤ b → at (set l p x) q ≤ b
at_set_le [] p x q b h k = k
at_set_le (y ∷ l) zero x zero b h k = h refl
at_set_le (y ∷ l) zero x (suc q) b h k = k
at_set_le (y ∷ l) (suc p) x zero b h k = k
at_set_le (y ∷ l) (suc p) x (suc q) b h k = at_set_le l p x q b (λ e. h (ap suc e)) k

-- one more at place p is the step forward
pub set_forward : (l : List ℕ) (p : ℕ) → set l p (at l p + 1) ≡ forward p l
set_forward [] p = refl
set_forward (x ∷ l) zero = ap {B = List ℕ} (λ y. y ∷ l) (add-one x)
set_forward (x ∷ l) (suc p) = ap {B = List ℕ} (λ r. x ∷ r) (set_forward l p)

-- one less is the step back
pub set_back : (l : List ℕ) (p : ℕ) → set l p (at l p - 1) ≡ back p l
set_back [] p = refl
set_back (x ∷ l) zero = ap {B = List ℕ} (λ y. y ∷ l) (omega arith)
set_back (x ∷ l) (suc p) = ap {B = List ℕ} (λ r. x ∷ r) (set_back l p)

-- the first n counts make a cut of the first n stations
pub within_take : (n : ℕ) (m c : List ℕ) → n ≤ length m → n ≤ length c → ((p : ℕ) → p < n → at c p ≤ at m p) → Within (take n m) (take n c)
within_take zero m c h g k = tt
within_take (suc n) [] c h g k = absurd (not-suc-le-zero h)
within_take (suc n) (y ∷ m) [] h g k = absurd (not-suc-le-zero g)
within_take (suc n) (y ∷ m) (x ∷ c) h g k =
    (k 0 (omega arith), within_take n m c (le_of_suc-le-suc h) (le_of_suc-le-suc g) (λ p l. k (suc p) (omega arith)))

-- a cut that is passed by value has eight counts
pub eight_counts : (c : Cut) (vs : List Val) → Is (row the_type) c vs → length c.counts ≡ 8
eight_counts c vs g = good_length (e_int w16) 8 c.counts _ g.1.1.0

-- no weight is above the box
pub weight_le : (l : List ℕ) (p n : ℕ) → p ≤ n → weight l p ≤ weight l n
unfolding weight product_to
weight_le l p zero h = rw (le-zero h) (omega arith)
weight_le l p (suc n) h =
    ⊎_elim
    (λ e. rw e (omega arith))
    (λ k. le_trans (weight_le l p n (le_of_suc-le-suc k)) (le-mul_of_pos_right (weight l n) (omega arith)))
    (eq-or-lt_of_le h)

pub weight_more : (l : List ℕ) (p : ℕ) → weight l (p + 1) ≡ weight l p * (at l p + 1)
unfolding weight
weight_more l p = rw (add-one (at l p)) (product_to-more p (λ q. suc (at l q)))

-- one more factor, under the ceiling
pub held_more : (b k : ℕ) → min (min b 65537 * (k + 1)) 65537 ≡ min (b * (k + 1)) 65537
held_more b k = go (dec_le b 65537)
  where
    go : Dec (b ≤ 65537) → min (min b 65537 * (k + 1)) 65537 ≡ min (b * (k + 1)) 65537
    go (yes l) =
        let e : min b 65537 ≡ b = omega arith in
        rw e refl
    go (no l) =
        let e : min b 65537 ≡ 65537 = omega arith in
        let g : b ≤ b * (k + 1) = le-mul_of_pos_right b (omega arith) in
        rw e (omega arith)

-- a product of a factor under x and one under y
pub mul_under : (a b x y : ℕ) → a ≤ x → b ≤ y → a * b ≤ x * y
mul_under a b x y h g = mul-le-mul h g

weight_take : (l : List ℕ) (n p : ℕ) → p ≤ n → weight (take n l) p ≡ weight l p
unfolding weight
weight_take l n p h = product_to-same p _ _ (λ q k. ap suc (get_or-take n l q 0 (omega arith)))

pub box_take : (l : List ℕ) (n : ℕ) → n ≤ length l → box (take n l) ≡ weight l n
unfolding box weight
box_take l n h = rw (length-take-le n l h) (product_to-same n _ _ (λ q k. ap suc (get_or-take n l q 0 k)))

-- the first n terms of a rank
unfoldable pub rank_to : List ℕ → List ℕ → ℕ → ℕ
rank_to m c n = sum_to n (λ p. at c p * weight m p)

pub rank_to-more : (m c : List ℕ) (p : ℕ) → rank_to m c (p + 1) ≡ rank_to m c p + at c p * weight m p
unfolding rank_to
rank_to-more m c p = sum_to-more p _

pub rank_take : (m c : List ℕ) (n : ℕ) → n ≤ length m → rank (take n m) (take n c) ≡ rank_to m c n
unfolding rank rank_to
rank_take m c n h = rw (length-take-le n m h) (sum_to-same n _ _ (λ q k. ap₂ ◌*◌ (get_or-take n c q 0 k) (weight_take m n q (omega arith))))

-- the events of the first n stations
pub total_take : (n : ℕ) (l : List ℕ) → n ≤ length l → total (take n l) ≡ sum_to n (at l)
unfolding sum_to
total_take zero l h = refl
total_take (suc n) [] h = absurd (not-suc-le-zero h)
total_take (suc n) (x ∷ l) h = ap (λ (s : ℕ). x + s) (total_take n l (le_of_suc-le-suc h)) ∙ sym (sum_to-first n (at (x ∷ l)))
