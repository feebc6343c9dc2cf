-- Levels: document 01, "a signed whole number from −2,048 to 2,047", and "two's complement". In ℤ; tables hold the excess number, level + 2,048.
-- In order: numbers of k bits with a sign, and back; what is a level; a level as 12 bits; excess numbers.
use Rattle.std.specs.Prelude.{Bool, ◌&&◌, cond, ℕ, suc, ◌+◌, ◌-◌, ◌%◌, ◌^◌, ltb, ℤ, pos, negsuc, Option, Some, None}
use Rattle.std.proofs.Math.IntN.{sub_ℕ}
use Rattle.std.specs.Int.Signed.{le_z}

-- the number that k bits stand for in two's complement
unfoldable pub twos : ℕ → ℕ → ℤ
twos k f = cond (ltb f (2 ^ (k - 1))) (pos f) (sub_ℕ f (2 ^ k))

-- the k bits of a number in two's complement
unfoldable pub bits_of : ℕ → ℤ → ℕ
bits_of k (pos x) = x
bits_of k (negsuc x) = 2 ^ k - suc x

-- "from −2,048 to 2,047"
unfoldable pub is_level : ℤ → Bool
is_level v = le_z (negsuc 2047) v && le_z v (pos 2047)

-- a level as its 12 bits, nothing of a number that is none
unfoldable pub field_of : ℤ → Option ℕ
field_of v = cond (is_level v) (Some (bits_of 12 v)) None

-- the level that an excess number stands for
unfoldable pub level_of : ℕ → ℤ
level_of x = sub_ℕ x 2048

-- the excess number of a level's 12 bits
unfoldable pub excess_of : ℕ → ℕ
excess_of f = (f + 2048) % 4096
