-- Putting a field of bits into a list of bytes, most significant bit first, as document 01 lays them.
-- In order: a bit made another; putting a field; what the reply says. A bit and a field are in the crate `bits`.
use Rattle.std.specs.Prelude.{◌≡◌, Bool, ◌&&◌, cond, List, ℕ, zero, suc, ◌+◌, ◌-◌, ◌*◌, ◌/◌, ◌%◌, ◌^◌, leb, ltb, length, get_or, set}

-- the number x with bit i, counted from the least significant, made b
unfoldable pub with_bit : ℕ → ℕ → ℕ → ℕ
with_bit x i b = (x / 2 ^ suc i * 2 + b) * 2 ^ i + x % 2 ^ i

-- s with bit i made b
unfoldable pub set_bit : List ℕ → ℕ → ℕ → List ℕ
set_bit s i b = set s (i / 8) (with_bit (get_or s (i / 8) 0) (7 - i % 8) b)

-- s with the k bits from bit `at` on made those of v
unfoldable pub put_at : List ℕ → ℕ → ℕ → ℕ → List ℕ
put_at s at zero v = s
put_at s at (suc k) v = set_bit (put_at s at k (v / 2)) (at + k) (v % 2)

-- a field of 1 to 16 bits that lies within n bytes, and a value that it can hold
unfoldable pub can_hold : ℕ → ℕ → ℕ → ℕ → Bool
can_hold n at k v = leb 1 k && leb k 16 && leb (at + k) (8 * n) && ltb v (2 ^ k)

-- the same within s
unfoldable pub is_put : List ℕ → ℕ → ℕ → ℕ → Bool
is_put s at k v = can_hold (length s) at k v

-- s with the field put; s itself where it cannot be
unfoldable pub put_of : List ℕ → ℕ → ℕ → ℕ → List ℕ
put_of s at k v = cond (is_put s at k v) (put_at s at k v) s

-- the reply r to putting v, and the bytes after it
pub record Put (s : List ℕ) (at k v : ℕ) (r : Bool) (after : List ℕ) : Type 0 where
  pub said : r ≡ is_put s at k v
  pub bytes : after ≡ put_of s at k v
