-- The condition: document 01, "The condition". In order: a condition as a value of the logic, and when it holds; its 38 bytes, field by field; what is
-- refused with 8; the value that the code holds; what the bytes say, and what is refused, in the law's words.
-- Levels are ℤ. Whether a level lies in a window, and the sum of the asked levels, stand behind one definition each.
use Rattle.std.specs.Prelude.{◌≡◌, ℕ, zero, suc, ◌+◌, ◌-◌, ◌*◌, ◌<◌, Bool, true, false, cond, not, ◌&&◌, ◌||◌, ◌≢◌, ◌⊎◌, List, length, ℤ, pos, ◌+ℤ◌, ◌==◌, int_le, int_lt, nat_le, slice_index_or, if◌then◌else◌, Result, Ok, Err}
use Rattle.std.specs.Result.{result_and}
use Rattle.std.proofs.Math.IntN.{sub_ℕ}
use Rattle.bits.specs.Bits.{field}
use Rattle.levels.specs.Level.{twos}
use Rattle.cuts.specs.Below.{every, sum_to, tab}
use Rattle.refusal.specs.Refusal.{Tested}
use Rattle.refusal.specs.declared.Reason.{Reason}
use Rattle.condition.specs.declared.Kind.{Kind}
use Rattle.condition.specs.declared.Window.{Window}
use Rattle.condition.specs.declared.Condition.{Condition}

-- the number that an excess number of a window's end, or of Sum's, stands for
unfoldable pub bound_of : ℕ → ℤ
bound_of x = sub_ℕ x 32768

-- what the law's fields say of a kind: its number, k, low and high
pub record Paper : Type 0 where
  pub number : ℕ
  pub k : ℕ
  pub low : ℤ
  pub high : ℤ

-- the law's number and values for each kind
abbrev pub paper_of : Kind → Paper
paper_of Kind.Together = record { number = 0; k = 0; low = pos 0; high = pos 0 }
paper_of (Kind.AtLeast k) = record { number = 1; k = k; low = pos 0; high = pos 0 }
paper_of (Kind.Sum low high) = record { number = 2; k = 0; low = bound_of low; high = bound_of high }

-- whether a kind uses the windows of the asked stations: Sum uses none
unfoldable pub uses_windows : Kind → Bool
uses_windows Kind.Together = true
uses_windows (Kind.AtLeast k) = true
uses_windows (Kind.Sum low high) = false

-- v lies from low to high
unfoldable pub between : ℤ → ℤ → ℤ → Bool
between low high v = int_le low v && int_le v high

-- a level lies in a window
unfoldable pub lies : Window → ℤ → Bool
lies w v = between (bound_of w.low) (bound_of w.high) v

-- what is beside a station that is not there
abbrev pub no_window : Window
no_window = record { asked = false; low = 0; high = 0 }

abbrev pub window_at : Condition → ℕ → Window
window_at c p = slice_index_or c.windows p no_window

-- the signed sum of the asked ones among the first k stations' levels
unfoldable pub sum_asked : Condition → (ℕ → ℤ) → ℕ → ℤ
sum_asked c v zero = pos 0
sum_asked c v (suc p) = sum_asked c v p +ℤ cond (window_at c p).asked (v p) (pos 0)

-- an asked station's level lies in its window
unfoldable pub inside : Condition → (ℕ → ℤ) → ℕ → Bool
inside c v p = (window_at c p).asked && lies (window_at c p) (v p)

-- whether the condition holds of the levels v
unfoldable pub holds_by : Kind → Condition → (ℕ → ℤ) → Bool
-- "Together: every asked station's level lies in its window. With none asked it holds"
holds_by Kind.Together c v = every 8 (λ p. not (window_at c p).asked || inside c v p)
-- "At least k: k or more asked stations have levels in their windows"
holds_by (Kind.AtLeast k) c v = nat_le k (sum_to 8 (λ p. cond (inside c v p) 1 0))
-- "Sum: the signed sum of the asked stations' levels lies from low to high"
holds_by (Kind.Sum low high) c v = between (bound_of low) (bound_of high) (sum_asked c v 8)

unfoldable pub holds_of : Condition → (ℕ → ℤ) → Bool
holds_of c v = holds_by c.kind c v

-- a pair of ends in two's complement that is not upside down
abbrev pub upright : ℕ → ℕ → Bool
upright low high = int_le (twos 16 low) (twos 16 high)

abbrev pub zeros : ℕ → ℕ → Bool
zeros low high = low == 0 && high == 0

-- a pair of ends that is used is not upside down, another is zero
abbrev pub pair_ok : Bool → ℕ → ℕ → Bool
pair_ok used low high = cond used (upright low high) (zeros low high)

-- the excess number of 16 bits in two's complement
unfoldable pub raised_of : ℕ → ℕ
raised_of f = cond (nat_le 32768 f) (f - 32768) (f + 32768)

module _ (s : List ℕ) where
  -- "2 bits kind .., 6 bits k, 16 bits low, 16 bits high (two's complement), 8 asked bits with station 1 first, then eight windows of 16 bits low and 16
  -- bits high"
  unfoldable pub kind_at : ℕ
  kind_at = field s 0 2

  unfoldable pub k_at : ℕ
  k_at = field s 2 6

  unfoldable pub low_at : ℕ
  low_at = field s 8 16

  unfoldable pub high_at : ℕ
  high_at = field s 24 16

  unfoldable pub asked_at : ℕ → Bool
  asked_at p = field s (40 + p) 1 == 1

  unfoldable pub window_low : ℕ → ℕ
  window_low p = field s (48 + 32 * p) 16

  unfoldable pub window_high : ℕ → ℕ
  window_high p = field s (64 + 32 * p) 16

  -- the window of the station at place p: used by Together and At least where the station is asked, else zero
  unfoldable pub window_ok : ℕ → Bool
  window_ok p = pair_ok (asked_at p && not (kind_at == 2)) (window_low p) (window_high p)

  -- the fields before the windows are in order: no kind 3, no k above 8, no k or ends that should be zero and are not, no low above high
  abbrev pub head_ok : Bool
  head_ok = nat_le kind_at 2 && nat_le k_at 8 && (kind_at == 1 || k_at == 0) && pair_ok (kind_at == 2) low_at high_at

  -- not refused with 8: no kind 3, no k above 8, no field that should be zero and is not, no low above high
  unfoldable pub condition_ok : Bool
  condition_ok = head_ok && every 8 window_ok

  -- the kind with its own numbers
  unfoldable pub kind_of : ℕ → Kind
  kind_of zero = Kind.Together
  kind_of (suc zero) = Kind.AtLeast k_at
  kind_of (suc (suc k)) = Kind.Sum (raised_of low_at) (raised_of high_at)

  unfoldable pub window_of : ℕ → Window
  window_of p = record { asked = asked_at p; low = raised_of (window_low p); high = raised_of (window_high p) }

  unfoldable pub condition_of : Condition
  condition_of = record { kind = kind_of kind_at; windows = tab 8 window_of }

  -- why the first 38 bytes are refused, if they are: "fewer than 38 bytes (1), 8"
  unfoldable pub refused_of : Tested
  refused_of = if nat_le 38 (length s) then (if condition_ok then Ok tt else Err Reason.Condition) else Err Reason.TooShort

  -- the condition that was read, or why it is refused
  unfoldable pub read_of : Result Condition Reason
  read_of = result_and refused_of (Ok condition_of)

-- the value c is what the 38 bytes s say, in the law's numbers
pub record Says (s : List ℕ) (c : Condition) : Type 0 where
  pub kind_is : paper_of c.kind ≡ record { number = kind_at s; k = k_at s; low = twos 16 (low_at s); high = twos 16 (high_at s) }
  pub asked_is : (p : ℕ) → p < 8 → (window_at c p).asked ≡ asked_at s p
  pub low_is : (p : ℕ) → p < 8 → bound_of (window_at c p).low ≡ twos 16 (window_low s p)
  pub high_is : (p : ℕ) → p < 8 → bound_of (window_at c p).high ≡ twos 16 (window_high s p)

-- low lies above high, both in two's complement
abbrev pub Above : ℕ → ℕ → Type 0
Above low high = int_lt (twos 16 high) (twos 16 low) ≡ true

abbrev pub NotZero : ℕ → ℕ → Type 0
NotZero low high = (0 < low) ⊎ (0 < high)

-- what is refused with 8
pub data Broken (s : List ℕ) : Type 0 where
  -- "Kind 3"
  kind_three : kind_at s ≡ 3 → Broken s
  -- "k above 8"
  k_above : 8 < k_at s → Broken s
  -- "a field that should be zero and is not": "k except for At least, low and high except for Sum,
  k_unused : kind_at s ≢ 1 → 0 < k_at s → Broken s
  ends_unused : kind_at s ≢ 2 → NotZero (low_at s) (high_at s) → Broken s
  -- every window for Sum, and the window of each unasked station"
  window_of_sum : {p : ℕ} → p < 8 → kind_at s ≡ 2 → NotZero (window_low s p) (window_high s p) → Broken s
  window_unasked : {p : ℕ} → p < 8 → asked_at s p ≡ false → NotZero (window_low s p) (window_high s p) → Broken s
  -- "low above high (in an asked station's window, or in Sum's own pair even with none asked)"
  window_above : {p : ℕ} → p < 8 → asked_at s p ≡ true → Above (window_low s p) (window_high s p) → Broken s
  ends_above : kind_at s ≡ 2 → Above (low_at s) (high_at s) → Broken s
