-- Fields of bits in a list of bytes: document 01, "most significant bit first".
-- In order: a bit, a field; taking a field; the bit reader, what it takes and what is left. Putting a field is in the crate `put`.
use Rattle.std.specs.Prelude.{◌≡◌, Bool, ◌&&◌, cond, List, ℕ, zero, suc, ◌+◌, ◌-◌, ◌*◌, ◌/◌, ◌%◌, ◌^◌, min, leb, length, get_or, Option, Some, None}
use Rattle.bits.specs.declared.BitReader.{BitReader}

-- bit i of s, the most significant of each byte first; 0 past the end
unfoldable pub bit_at : List ℕ → ℕ → ℕ
bit_at s i = get_or s (i / 8) 0 / 2 ^ (7 - i % 8) % 2

-- the k bits from bit `at` on, as a number
unfoldable pub field : List ℕ → ℕ → ℕ → ℕ
field s at zero = 0
field s at (suc k) = field s at k * 2 + bit_at s (at + k)

-- the k bits from bit `at` on where k is at most 16, else 0
unfoldable pub peeked : List ℕ → ℕ → ℕ → ℕ
peeked s at k = cond (leb k 16) (field s at k) 0

-- not "a read past the end, or not of 1 to 16 bits"; the next place is a number of the machine
unfoldable pub is_field : List ℕ → ℕ → ℕ → Bool
is_field s at k = leb 1 k && leb k 16 && leb (at + k) (min (8 * length s) 0xffff_ffff_ffff_ffff)

-- the field; else it "takes none and says so"
unfoldable pub taken_of : List ℕ → ℕ → ℕ → Option ℕ
taken_of s at k = cond (is_field s at k) (Some (field s at k)) None

-- the place after k bits are asked from place `at` on and t is found: "takes none" leaves it
unfoldable pub place_after : ℕ → ℕ → Option ℕ → ℕ
place_after at k (Some v) = at + k
place_after at k None = at

-- the reader after k bits are asked of it: the same lent bytes, and the bits then taken
unfoldable pub moved : BitReader → ℕ → BitReader
moved r k = record { bytes = r.bytes; taken = place_after r.taken k (taken_of r.bytes.now r.taken k) }

-- the reply t to asking k bits of the reader r, and the whole reader after it
pub record Takes (r : BitReader) (k : ℕ) (t : Option ℕ) (after : BitReader) : Type 0 where
  pub said : t ≡ taken_of r.bytes.now r.taken k
  pub reader : after ≡ moved r k

-- how many bits from bit `at` on can be taken
unfoldable pub left_of : List ℕ → ℕ → ℕ
left_of s at = min (8 * length s) 0xffff_ffff_ffff_ffff - at
