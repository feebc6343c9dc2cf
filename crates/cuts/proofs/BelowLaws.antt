-- Laws of the tests, searches, sums, products and lists below a bound. In order: and, or; every; first and any; sums; products; lists; own.
-- Assumes nothing.
use mathlib.Core.Path.{◌≡◌, refl, sym, ap, ap₂, ◌∙◌}
use mathlib.Core.Bool.{Bool, true, false, ◌&&◌, ◌||◌, cond, false≢true}
use mathlib.Core.Logic.{◌≢◌, ◌⊎◌, inl, inr, ⊎_elim}
use mathlib.Core.List.{List, [], ◌∷◌, ◌++◌, map, map-append}
use Prim.Native.Nat.{ℕ, zero, suc, ◌+◌, ◌*◌, ◌≤◌, ◌<◌}
use native.Mathlib.Nat.{eq-or-lt_of_le, le_of_suc-le-suc, not-suc-le-zero, mul-pos}
use native.Mathlib.Numerals.{add-one}
use native.Mathlib.Omega.{arith}
use lib.Dec.{ltb}
use lib.ListN.{length, get_or, length-append, get_or-append}
use lib.Seq.{get_or_at}
use borrow.Author.Tests.{ltb-true, ltb-false, lt-ltb}
use Rattle.cuts.specs.Below.{first_from, first, any, every, sum_to, product_to, tab, own}

pub and_true : (a b : Bool) → (a && b) ≡ true → (a ≡ true) × (b ≡ true)
and_true true b h = (refl, h)
and_true false b h = absurd (false≢true h)

pub and_false : (a : Bool) → (a && false) ≡ false
and_false true = refl
and_false false = refl

pub or_true : (a b : Bool) → (a || b) ≡ true → (a ≡ true) ⊎ (b ≡ true)
or_true true b h = inl refl
or_true false b h = inr h

pub or_right : (a b : Bool) → b ≡ true → (a || b) ≡ true
or_right true b e = refl
or_right false b e = e

pub or_second : (a b : Bool) → a ≡ false → (a || b) ≡ true → b ≡ true
or_second true b e h = absurd (false≢true (sym e))
or_second false b e h = h

pub or_if : (a b : Bool) → (a ≡ false → b ≡ true) → (a || b) ≡ true
or_if true b h = refl
or_if false b h = h refl

-- a number below n + 1 is n or below n
pub last_or_below : (n q : ℕ) → q < suc n → (q ≡ n) ⊎ (q < n)
last_or_below n q l = eq-or-lt_of_le (le_of_suc-le-suc l)

pub every_true : (n : ℕ) (f : ℕ → Bool) → every n f ≡ true → (q : ℕ) → q < n → f q ≡ true
unfolding every
every_true zero f h q l = absurd (not-suc-le-zero l)
every_true (suc n) f h q l =
    let (a, b) = and_true (every n f) (f n) h in
    ⊎_elim (λ e. ap f e ∙ b) (λ k. every_true n f a q k) (last_or_below n q l)

pub true_every : (n : ℕ) (f : ℕ → Bool) → ((q : ℕ) → q < n → f q ≡ true) → every n f ≡ true
unfolding every
true_every zero f h = refl
true_every (suc n) f h = rw (true_every n f (λ q l. h q (omega arith))) (h n (omega arith))

pub every_false : (n : ℕ) (f : ℕ → Bool) (q : ℕ) → q < n → f q ≡ false → every n f ≡ false
unfolding every
every_false zero f q l e = absurd (not-suc-le-zero l)
every_false (suc n) f q l e = ⊎_elim (λ p. rw (← p, e) (and_false (every q f))) (λ k. rw (every_false n f q k e) refl) (last_or_below n q l)

pub every_more : (n : ℕ) (f : ℕ → Bool) → every n f ≡ true → f n ≡ true → every (n + 1) f ≡ true
unfolding every
every_more n f h e = rw (add-one n, h, e) refl

-- two tests of all numbers below n that agree there
pub every_same : (n : ℕ) (f g : ℕ → Bool) → ((q : ℕ) → q < n → f q ≡ g q) → every n f ≡ every n g
unfolding every
every_same zero f g h = refl
every_same (suc n) f g h = rw (every_same n f g (λ q l. h q (omega arith)), h n (omega arith)) refl

-- what is so of the first of the numbers from p to n
pub record First (f : ℕ → Bool) (p n r : ℕ) : Type 0 where
  pub low : p ≤ r
  pub high : r ≤ n
  pub before : (q : ℕ) → p ≤ q → q < r → f q ≡ false
  pub passes : r < n → f r ≡ true

pub first_from-is : (f : ℕ → Bool) (n p : ℕ) → First f p (p + n) (first_from f n p)
unfolding first_from
first_from-is f zero p = record { low = omega arith; high = omega arith; before = λ q a b. absurd (omega arith); passes = λ h. absurd (omega arith) }
first_from-is f (suc n) p = go (f p) refl (first_from f n (suc p)) (first_from-is f n (suc p))
  where
    go : (b : Bool) → f p ≡ b → (r : ℕ) → First f (suc p) (suc p + n) r → First f p (p + suc n) (cond b p r)
    go true e r i = record { low = omega arith; high = omega arith; before = λ q a b. absurd (omega arith); passes = λ h. e }
    go false e r i = record {
      low = omega (arith, i.low);
      high = omega (arith, i.high);
      before = λ q a b. ⊎_elim (λ x. ap f (sym x) ∙ e) (λ l. i.before q l b) (eq-or-lt_of_le a);
      passes = λ h. i.passes (omega arith);
    }

pub first_is : (f : ℕ → Bool) (n : ℕ) → First f 0 n (first f n)
first_is f n =
    let e : 0 + n ≡ n = omega arith in
    rw e at (first_from-is f n 0)

-- the first is not above one that passes
pub first_le : (f : ℕ → Bool) (n p : ℕ) → f p ≡ true → first f n ≤ p
first_le f n p h = go (ltb p (first f n)) refl
  where
    go : (b : Bool) → ltb p (first f n) ≡ b → first f n ≤ p
    go true e = absurd (false≢true (sym ((first_is f n).before p (omega arith) (ltb-true _ _ e)) ∙ h))
    go false e = ltb-false _ _ e

pub any_true : (f : ℕ → Bool) (n : ℕ) → any f n ≡ true → (first f n < n) × (f (first f n) ≡ true)
unfolding any
any_true f n e = (ltb-true _ _ e, (first_is f n).passes (ltb-true _ _ e))

pub true_any : (f : ℕ → Bool) (n p : ℕ) → p < n → f p ≡ true → any f n ≡ true
unfolding any
true_any f n p h e = lt-ltb (first f n) n (omega (arith, first_le f n p e))

pub sum_to-le : (n : ℕ) (f g : ℕ → ℕ) → ((q : ℕ) → q < n → f q ≤ g q) → sum_to n f ≤ sum_to n g
unfolding sum_to
sum_to-le zero f g h = omega arith
sum_to-le (suc n) f g h = omega (arith, h n (omega arith), sum_to-le n f g (λ q l. h q (omega arith)))

pub sum_to-lt : (n : ℕ) (f g : ℕ → ℕ) (p : ℕ) → p < n → ((q : ℕ) → q < n → f q ≤ g q) → f p < g p → sum_to n f < sum_to n g
unfolding sum_to
sum_to-lt zero f g p l h s = absurd (omega arith)
sum_to-lt (suc n) f g p l h s =
    let low : (q : ℕ) → q < n → f q ≤ g q = λ q k. h q (omega arith) in
    ⊎_elim
    (λ e. omega (arith, sum_to-le n f g low, rw e at s))
    (λ k. omega (arith, sum_to-lt n f g p k low s, h n (omega arith)))
    (last_or_below n p l)

pub sum_to-same : (n : ℕ) (f g : ℕ → ℕ) → ((q : ℕ) → q < n → f q ≡ g q) → sum_to n f ≡ sum_to n g
unfolding sum_to
sum_to-same zero f g h = refl
sum_to-same (suc n) f g h = ap₂ ◌+◌ (sum_to-same n f g (λ q l. h q (omega arith))) (h n (omega arith))

-- the first term apart
pub sum_to-first : (n : ℕ) (f : ℕ → ℕ) → sum_to (suc n) f ≡ f 0 + sum_to n (λ q. f (suc q))
unfolding sum_to
sum_to-first zero f = omega arith
sum_to-first (suc n) f = omega (arith, sum_to-first n f)

pub sum_to-scale : (n k : ℕ) (f : ℕ → ℕ) → sum_to n (λ q. k * f q) ≡ k * sum_to n f
unfolding sum_to
sum_to-scale zero k f = omega arith
sum_to-scale (suc n) k f = omega (arith, sum_to-scale n k f)

pub sum_to-more : (n : ℕ) (f : ℕ → ℕ) → sum_to (n + 1) f ≡ sum_to n f + f n
unfolding sum_to
sum_to-more n f = rw (add-one n) refl

pub product_to-same : (n : ℕ) (f g : ℕ → ℕ) → ((q : ℕ) → q < n → f q ≡ g q) → product_to n f ≡ product_to n g
unfolding product_to
product_to-same zero f g h = refl
product_to-same (suc n) f g h = ap₂ ◌*◌ (product_to-same n f g (λ q l. h q (omega arith))) (h n (omega arith))

-- the first factor apart
pub product_to-first : (n : ℕ) (f : ℕ → ℕ) → product_to (suc n) f ≡ f 0 * product_to n (λ q. f (suc q))
unfolding product_to
product_to-first zero f = omega arith
product_to-first (suc n) f = ap (λ (k : ℕ). k * f (suc n)) (product_to-first n f) ∙ omega arith

pub product_to-pos : (n : ℕ) (f : ℕ → ℕ) → ((q : ℕ) → q < n → 0 < f q) → 0 < product_to n f
unfolding product_to
product_to-pos zero f h = omega arith
product_to-pos (suc n) f h = mul-pos (product_to-pos n f (λ q l. h q (omega arith))) (h n (omega arith))

pub product_to-more : (n : ℕ) (f : ℕ → ℕ) → product_to (n + 1) f ≡ product_to n f * f n
unfolding product_to
product_to-more n f = rw (add-one n) refl

pub length_tab : {A : Type 0} (n : ℕ) (f : ℕ → A) → length (tab n f) ≡ n
unfolding tab
length_tab zero f = refl
length_tab (suc n) f = length-append (tab n f) _ ∙ omega (arith, length_tab n f)

pub get_d-tab : {A : Type 0} (n : ℕ) (f : ℕ → A) (d : A) (p : ℕ) → p < n → get_or (tab n f) p d ≡ f p
unfolding tab
get_d-tab zero f d p h = absurd (not-suc-le-zero h)
get_d-tab (suc n) f d p h =
    ⊎_elim
    (λ e. get_or_at (tab n f) (f n) [] d p (length_tab n f ∙ sym e) ∙ ap f (sym e))
    (λ l. get_or-append (tab n f) _ d p (omega (arith, length_tab n f)) ∙ get_d-tab n f d p l)
    (last_or_below n p h)

pub tab_same : {A : Type 0} (n : ℕ) (f g : ℕ → A) → ((q : ℕ) → q < n → f q ≡ g q) → tab n f ≡ tab n g
unfolding tab
tab_same zero f g h = refl
tab_same (suc n) f g h = ap₂ {C = List _} (λ l x. l ++ (x ∷ [])) (tab_same n f g (λ q l. h q (omega arith))) (h n (omega arith))

pub map_tab : {A B : Type 0} (n : ℕ) (f : ℕ → A) (g : A → B) → map g (tab n f) ≡ tab n (λ q. g (f q))
unfolding tab
map_tab zero f g = refl
map_tab (suc n) f g = map-append g (tab n f) (f n ∷ []) ∙ ap (λ (l : List _). l ++ (g (f n) ∷ [])) (map_tab n f g)

pub own_self : (p : ℕ) → own p p ≡ 1
own_self zero = refl
own_self (suc p) = own_self p

pub own_other : (p q : ℕ) → p ≢ q → own p q ≡ 0
own_other zero zero h = absurd (h refl)
own_other zero (suc q) h = refl
own_other (suc p) zero h = refl
own_other (suc p) (suc q) h = own_other p q (λ e. h (ap suc e))

pub own_pos : (p q : ℕ) → 0 < own p q → p ≡ q
own_pos zero zero h = refl
own_pos zero (suc q) h = absurd (not-suc-le-zero h)
own_pos (suc p) zero h = absurd (not-suc-le-zero h)
own_pos (suc p) (suc q) h = ap suc (own_pos p q h)

pub own_le : (p q : ℕ) → own p q ≤ 1
own_le zero zero = omega arith
own_le zero (suc q) = omega arith
own_le (suc p) zero = omega arith
own_le (suc p) (suc q) = own_le p q
