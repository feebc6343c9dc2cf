-- Where the fields of a recording stand. In order: how many bits the parts of stations and records take, where counts have at most 9 bits; what is read
-- at a place; how many records stand before a station's, and where its own stand. Assumes nothing.
use mathlib.Core.Path.{◌≡◌, ap, ◌∙◌}
use mathlib.Core.List.{List}
use Prim.Native.Nat.{ℕ, suc, ◌+◌, ◌*◌, ◌^◌, ◌≤◌, ◌<◌}
use native.Mathlib.Nat.{mul-le-mul, lt_of_lt_of_le}
use native.Mathlib.Omega.{arith}
use lib.Pow.{pow_mono}
use Rattle.bits.specs.Bits.{field, peeked}
use Rattle.bits.proofs.BitsLaws.{field_lt, peeked_field}
use Rattle.cuts.proofs.BelowLaws.{sum_to-more}
use Rattle.recording.specs.Form.{m_at, first_at}
use Rattle.recording.proofs.SumLaws.{sum_to-grows, sum_to-part, sum_to-most}

-- the parts of the first p stations, where p is at most a number
pub stations_le : (w p most : ℕ) → w ≤ 9 → p ≤ most → (w + 12) * p ≤ 21 * most
stations_le w p most h k = mul-le-mul {n₁ = w + 12} {m₁ = p} {n₂ = 21} {m₂ = most} (omega arith) k

-- q counts of a stamp
pub counts_le : (w q most : ℕ) → w ≤ 9 → q ≤ most → w * q ≤ 9 * most
counts_le w q most h k = mul-le-mul {n₁ = w} {m₁ = q} {n₂ = 9} {m₂ = most} h k

-- r records of stamps with n counts
pub records_le : (w n r widest most : ℕ) → w ≤ 9 → n ≤ widest → r ≤ most → (16 + w + w * n) * r ≤ (25 + 9 * widest) * most
records_le w n r widest most h k l =
    mul-le-mul {n₁ = 16 + w + w * n} {m₁ = r} {n₂ = 25 + 9 * widest} {m₂ = most} (omega (arith, counts_le w n widest h k)) l

-- a field that was looked at, of k bits where j are the most
pub peeked_read : (s : List ℕ) (at at' k j r : ℕ) → r ≡ peeked s at k → at ≡ at' → k ≤ j → j ≤ 16 → (r ≡ field s at' k) × (r < 2 ^ j)
peeked_read s at at' k j r e a h l =
    let f : r ≡ field s at' k = e ∙ peeked_field s at k (omega arith) ∙ ap (λ (i : ℕ). field s i k) a in (
      f,
      rw f (lt_of_lt_of_le (field_lt s at' k) (pow_mono h)),
    )

module _ (lead w : ℕ) (s : List ℕ) where
  pub m_at-lt : (p : ℕ) → w ≤ 9 → m_at lead w s p < 512
  unfolding m_at
  m_at-lt p h = lt_of_lt_of_le (field_lt s _ w) (pow_mono h)

  pub first_at-more : (p : ℕ) → first_at lead w s (p + 1) ≡ first_at lead w s p + m_at lead w s p
  unfolding first_at
  first_at-more p = sum_to-more p (m_at lead w s)

  pub first_at-le : (p : ℕ) → w ≤ 9 → first_at lead w s p ≤ 511 * p
  unfolding first_at
  first_at-le p h = sum_to-most (m_at lead w s) 511 p (λ q. omega (arith, m_at-lt q h))

  pub first_at-mono : (p d : ℕ) → first_at lead w s p ≤ first_at lead w s (p + d)
  unfolding first_at
  first_at-mono = sum_to-grows (m_at lead w s)

  -- the records of a station stand before those of the stations after it
  pub first_at-lt : (p e n : ℕ) → p < n → e < m_at lead w s p → first_at lead w s p + e < first_at lead w s n
  unfolding first_at
  first_at-lt p e n h k = omega (arith, sum_to-part (m_at lead w s) n p (suc e) h k)
