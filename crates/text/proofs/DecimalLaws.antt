-- Numbers in decimal. In order: one digit, and a digit behind those of the tenth; more digits than suffice change nothing; lengths;
-- std's decimal is the same, and a list of numbers so. Assumes nothing.
use mathlib.Core.Path.{◌≡◌, refl, sym}
use mathlib.Core.List.{List, [], ◌∷◌, ◌++◌}
use Prim.Native.Nat.{ℕ, zero, suc, ◌/◌, ◌%◌, ◌^◌, ◌≤◌, ◌<◌, ◌+◌}
use native.Mathlib.Nat.{pow-suc}
use native.Mathlib.Decide.{dec_lt}
use native.Mathlib.Omega.{arith}
use lib.ListN.{length, get_or, length-append}
use borrow.Author.Tests.{lt-ltb, le-ltb}
use Rattle.std.specs.Prelude.{flat_map}
use Rattle.std.specs.Fmt as digits
use Rattle.std.proofs.lemmas.Fmt.{AppendsLastDigit, decimal_from_appends, length-decimal-le}
use Rattle.text.specs.Text.{decimal_to, decimal, numbers}

-- one digit
pub decimal_to-digit : (k x : ℕ) → x < 10 → decimal_to (suc k) x ≡ (48 + x) ∷ []
unfolding decimal_to
decimal_to-digit k x h = rw (lt-ltb x 10 h) refl

-- the last digit behind those of the tenth
pub decimal_to-tens : (k x : ℕ) → 10 ≤ x → decimal_to (suc k) x ≡ decimal_to k (x / 10) ++ ((48 + x % 10) ∷ [])
unfolding decimal_to
decimal_to-tens k x h = rw (le-ltb x 10 h) refl

-- a digit more than suffice changes nothing
pub decimal_to-more : (k x : ℕ) → x < 10 ^ suc k → decimal_to (suc (suc k)) x ≡ decimal_to (suc k) x
decimal_to-more zero x h = rw (decimal_to-digit 1 x (omega (arith, pow-suc 10 0)), decimal_to-digit 0 x (omega (arith, pow-suc 10 0))) refl
decimal_to-more (suc k) x h = go (dec_lt x 10) (decimal_to-more k (x / 10) (omega (arith, pow-suc 10 (suc k))))
  where
    go : Dec (x < 10) → decimal_to (suc (suc k)) (x / 10) ≡ decimal_to (suc k) (x / 10) → decimal_to (suc (suc (suc k))) x ≡ decimal_to (suc (suc k)) x
    go (yes l) ih = rw (decimal_to-digit (suc (suc k)) x l, decimal_to-digit (suc k) x l) refl
    go (no l) ih = rw (decimal_to-tens (suc (suc k)) x (omega arith), decimal_to-tens (suc k) x (omega arith), ih) refl

-- a number below 10 to the power k + 1 has at most k + 1 digits
pub length-decimal_to : (d k x : ℕ) → x < 10 ^ suc k → length (decimal_to d x) ≤ suc k
unfolding decimal_to
length-decimal_to zero k x h = omega arith
length-decimal_to (suc d) zero x h = rw (decimal_to-digit d x (omega (arith, pow-suc 10 0))) (omega arith)
length-decimal_to (suc d) (suc k) x h = go (dec_lt x 10) (length-decimal_to d k (x / 10) (omega (arith, pow-suc 10 (suc k))))
  where
    go : Dec (x < 10) → length (decimal_to d (x / 10)) ≤ suc k → length (decimal_to (suc d) x) ≤ suc (suc k)
    go (yes l) ih = rw (decimal_to-digit d x l) (omega arith)
    go (no l) ih = rw (decimal_to-tens d x (omega arith)) (simp length-append (omega arith))

-- std's digits are those
decimal_appends : AppendsLastDigit decimal_to
decimal_appends = record { one = decimal_to-digit; more = decimal_to-tens }

decimal_std : (x : ℕ) → x < 65536 → digits.decimal x ≡ decimal x
decimal_std x h = sym (decimal_from_appends decimal_to decimal_appends 20 x (omega arith) (length-decimal-le 20 x (omega arith) (omega arith) (omega arith)))

pub numbers_std : (xs : List ℕ) → ((i : ℕ) → get_or xs i 0 < 65536) → flat_map (λ x. 32 ∷ digits.decimal x) xs ≡ numbers xs
unfolding numbers
numbers_std [] h = refl
numbers_std (x ∷ xs) h = rw (decimal_std x (h 0), numbers_std xs (λ i. h (suc i))) refl
