-- Tests, searches, sums, products and lists over the numbers below a bound; every other file counts with these.
-- In order: every, first, any; sum and product; the list of f's values; 1 at one place.
use Rattle.std.specs.Prelude.{Bool, true, ◌&&◌, cond, List, [], ◌∷◌, ◌++◌, ℕ, zero, suc, ◌+◌, ◌*◌, ltb}

-- f holds of every number below n
unfoldable pub every : ℕ → (ℕ → Bool) → Bool
every zero f = true
every (suc n) f = every n f && f n

-- of the n numbers from p on the first of which f holds, and p + n if there is none
unfoldable pub first_from : (ℕ → Bool) → ℕ → ℕ → ℕ
first_from f zero p = p
first_from f (suc n) p = let r = first_from f n (suc p) in cond (f p) p r

-- the lowest number below n of which f holds, and n if there is none
abbrev pub first : (ℕ → Bool) → ℕ → ℕ
first f n = first_from f n 0

-- f holds of some number below n
unfoldable pub any : (ℕ → Bool) → ℕ → Bool
any f n = ltb (first f n) n

-- f 0 + f 1 + .., n terms
unfoldable pub sum_to : ℕ → (ℕ → ℕ) → ℕ
sum_to zero f = 0
sum_to (suc n) f = sum_to n f + f n

-- f 0 * f 1 * .., n factors
unfoldable pub product_to : ℕ → (ℕ → ℕ) → ℕ
product_to zero f = 1
product_to (suc n) f = product_to n f * f n

-- f 0, f 1, .., n of them
unfoldable pub tab : {A : Type 0} → ℕ → (ℕ → A) → List A
tab zero f = []
tab (suc n) f = tab n f ++ (f n ∷ [])

-- 1 at place p, 0 at every other place q
abbrev pub own : ℕ → ℕ → ℕ
own zero zero = 1
own zero (suc q) = 0
own (suc p) zero = 0
own (suc p) (suc q) = own p q
