-- Laws of fields of bits, at any width. In order: a power of 2; a bit and a field; fields that join and fields of the same bits; whole
-- bytes; what is looked at; what is taken; two replies. Putting a field is in the crate `put`. Assumes nothing.
use mathlib.Core.Path.{◌≡◌, refl, sym, ◌∙◌}
use mathlib.Core.Bool.{true, ◌&&◌, and-eq-true_iff}
use mathlib.Core.Logic.{◌↔◌, ◌⊎◌, inl, inr, ⊎_elim}
use mathlib.Core.List.{List}
use Prim.Native.Nat.{ℕ, zero, suc, ◌+◌, ◌-◌, ◌*◌, ◌/◌, ◌%◌, ◌^◌, ◌≤◌, ◌<◌, min}
use native.Mathlib.Nat.{zero-add, add-zero, add-suc, add_assoc, mul_assoc, mul-one, pow-suc, pow-zero, div-eq_of_lt, div-one, eq-or-lt_of_le, le_of_suc-le-suc, one-mul, mod-lt, mod-eq_of_lt, lt_of_le_of_lt, lt_of_lt_of_le}
use native.Mathlib.Decide.{dec_lt}
use native.Mathlib.Numerals.{add-one}
use native.Mathlib.Omega.{arith}
use lib.Pow.{shr-shr, high, low, pow_pos, pow_mono}
use lib.Dec.{leb, lit<}
use lib.ListN.{length, get_or, take}
use lib.Seq.{get_or-take, ext_get_or}
use borrow.Author.Tests.{le-leb, lt-leb, leb-true}
use Rattle.cuts.proofs.ReplyLaws.{refuted, replies_equal}
use Rattle.bits.specs.Bits.{bit_at, field, peeked, is_field, taken_of, left_of}
use Rattle.std.proofs.Common.{Some, None}
use Rattle.std.proofs.lemmas.Option.{cond_some, none-some}

-- 1 shifted by at most 16 is 2 ^ k: no bit is lost
pub one_shifted : (k : ℕ) → k ≤ 16 → 1 * 2 ^ k % 2 ^ 64 ≡ 2 ^ k
one_shifted k h = rw one-mul (mod-eq_of_lt (lt_of_le_of_lt (pow_mono h) (lit< tt)))

pub bit_lt : (s : List ℕ) (i : ℕ) → bit_at s i < 2
unfolding bit_at
bit_lt s i = omega arith

pub field_lt : (s : List ℕ) (at k : ℕ) → field s at k < 2 ^ k
unfolding field
field_lt s at zero = omega arith
field_lt s at (suc k) = omega (arith, field_lt s at k, bit_lt s (at + k), pow-suc 2 k)

-- j + k bits are j bits and then k bits
pub field_add : (s : List ℕ) (at j k : ℕ) → field s at (j + k) ≡ field s at j * 2 ^ k + field s (at + j) k
unfolding field
field_add s at j zero = simp (add-zero, pow-zero, mul-one)
field_add s at j (suc k) = rw (add-suc, add_assoc, field_add s at j k, pow-suc, ← mul_assoc) (omega arith)

-- two fields that are equal piece by piece are equal
pub field_join : (s t : List ℕ) (at j k : ℕ) → field s at j ≡ field t at j → field s (at + j) k ≡ field t (at + j) k
    → field s at (j + k) ≡ field t at (j + k)
field_join s t at j k h g = rw (field_add s at j k, field_add t at j k, h, g) refl

-- the same bits make the same field
pub field_ext : (s t : List ℕ) (at k : ℕ) → ((i : ℕ) → i < k → bit_at s (at + i) ≡ bit_at t (at + i)) → field s at k ≡ field t at k
unfolding field
field_ext s t at zero h = refl
field_ext s t at (suc k) h = rw (field_ext s t at k (λ i g. h i (omega arith)), h k (omega arith)) refl

-- equal fields have equal bits
pub field_bits : (s t : List ℕ) (at k i : ℕ) → field s at k ≡ field t at k → i < k → bit_at s (at + i) ≡ bit_at t (at + i)
unfolding field
field_bits s t at zero i e h = absurd (omega arith)
field_bits s t at (suc k) i e h =
    let e₁ : field s at k ≡ field t at k = omega (arith, bit_lt s (at + k), bit_lt t (at + k)) in
    let e₂ : bit_at s (at + k) ≡ bit_at t (at + k) = omega (arith, bit_lt s (at + k), bit_lt t (at + k)) in
    ⊎_elim (λ (l : i ≡ k). rw l e₂) (λ (l : i < k). field_bits s t at k i e₁ l) (eq-or-lt_of_le (le_of_suc-le-suc h))

-- a bit within the first b bytes is theirs
pub bit_take : (s : List ℕ) (b i : ℕ) → i < 8 * b → bit_at (take b s) i ≡ bit_at s i
unfolding bit_at
bit_take s b i h = rw (get_or-take b s (i / 8) 0 (omega arith)) refl

-- a field that ends within the first b bytes is theirs
pub field_take : (s : List ℕ) (b at k : ℕ) → at + k ≤ 8 * b → field (take b s) at k ≡ field s at k
field_take s b at k h = field_ext (take b s) s at k (λ i g. bit_take s b (at + i) (omega arith))

-- the first j bits of a byte, of which t are left
byte_part : (s : List ℕ) (q : ℕ) → get_or s q 0 < 256 → (j t : ℕ) → j + t ≡ 8 → field s (q * 8) j ≡ get_or s q 0 / 2 ^ t
unfolding field bit_at
byte_part s q h zero t e =
    let e₁ : t ≡ 8 = omega arith in
    rw e₁ (sym (div-eq_of_lt h))
byte_part s q h (suc j) t e =
    let e₁ : (q * 8 + j) / 8 ≡ q = omega arith in
    let e₂ : 7 - (q * 8 + j) % 8 ≡ t = omega arith in
    let e₃ : get_or s q 0 / 2 ^ suc t ≡ get_or s q 0 / 2 ^ t / 2 ^ 1 = sym (rw add-one at (shr-shr (get_or s q 0) t 1)) in
    rw (e₁, e₂, byte_part s q h j (suc t) (omega arith), e₃) (omega arith)

-- eight bits at a byte's first are the byte
pub field_byte : (s : List ℕ) (q : ℕ) → get_or s q 0 < 256 → field s (q * 8) 8 ≡ get_or s q 0
field_byte s q h = byte_part s q h 8 0 refl ∙ div-one (get_or s q 0)

-- bytes are known by their bits
pub bytes_ext : (s t : List ℕ) → ((i : ℕ) → get_or s i 0 < 256) → ((i : ℕ) → get_or t i 0 < 256) → length s ≡ length t
    → field s 0 (8 * length s) ≡ field t 0 (8 * length s) → s ≡ t
bytes_ext s t hs ht l e =
    ext_get_or 0 s t l λ q h.
    sym (field_byte s q (hs q))
    ∙ field_ext s t (q * 8) 8 (λ i g. rw zero-add at (field_bits s t 0 (8 * length s) (q * 8 + i) e (omega arith)))
    ∙ field_byte t q (ht q)

-- three bytes as one number
pub field_three : (s : List ℕ) (q a b c : ℕ) → (a ≡ get_or s q 0) × (a < 256) → (b ≡ get_or s (q + 1) 0) × (b < 256)
    → (c ≡ get_or s (q + 2) 0) × (c < 256) → a * 65536 + b * 256 + c ≡ field s (q * 8) 24
field_three s q a b c ha hb hc =
    let e₁ : q * 8 + 8 ≡ (q + 1) * 8 = omega arith in
    let e₂ : (q + 1) * 8 + 8 ≡ (q + 2) * 8 = omega arith in
    let f : (i d : ℕ) → (d ≡ get_or s i 0) × (d < 256) → field s (i * 8) 8 ≡ d = λ i d h. field_byte s i (rw h.0 at h.1) ∙ sym h.0 in
    rw (field_add s (q * 8) 8 16, e₁, field_add s ((q + 1) * 8) 8 8, e₂) (rw (f q a ha, f (q + 1) b hb, f (q + 2) c hc) (omega arith))

-- k bits after the first r of a field of r + k + t
pub field_mid : (s : List ℕ) (at r k t : ℕ) → field s at (r + k + t) / 2 ^ t % 2 ^ k ≡ field s (at + r) k
field_mid s at r k t =
    rw (field_add s at (r + k) t, high (field s at (r + k)) t (field_lt s (at + (r + k)) t), field_add s at r k)
    (low (field s at r) k (field_lt s (at + r) k))

pub peeked_field : (s : List ℕ) (at k : ℕ) → k ≤ 16 → peeked s at k ≡ field s at k
unfolding peeked
peeked_field s at k h = simp (le-leb _ _ h)

pub peeked_wide : (s : List ℕ) (at k : ℕ) → 16 < k → peeked s at k ≡ 0
unfolding peeked
peeked_wide s at k h = simp (lt-leb _ _ h)

-- what is looked at, from the three bytes that hold it
pub peeked_three : (s : List ℕ) (at k w : ℕ) → k ≤ 16 → w ≡ field s (at / 8 * 8) 24
    → w / 2 ^ (24 - at % 8 - k) % (1 * 2 ^ k % 2 ^ 64) ≡ peeked s at k
peeked_three s at k w h e =
    let e₁ : at % 8 + k + (24 - at % 8 - k) ≡ 24 = omega arith in
    let e₂ : at / 8 * 8 + at % 8 ≡ at = omega arith in
    rw (peeked_field s at k h, one_shifted k h, e) (rw (e₁, e₂) at (field_mid s (at / 8 * 8) (at % 8) k (24 - at % 8 - k)))

-- and it is 16 bits
pub remainder_16 : (w k : ℕ) → k ≤ 16 → w % (1 * 2 ^ k % 2 ^ 64) < 65536
remainder_16 w k h = rw (one_shifted k h) (lt_of_lt_of_le (mod-lt w (pow_pos k)) (pow_mono h))

pub is_field-fits : (s : List ℕ) (at k : ℕ) → is_field s at k ≡ true
    → (1 ≤ k) × (k ≤ 16) × (at + k ≤ min (8 * length s) 0xffff_ffff_ffff_ffff)
unfolding is_field
is_field-fits s at k h =
    let p = (and-eq-true_iff (leb 1 k && leb k 16) (leb (at + k) (min (8 * length s) 0xffff_ffff_ffff_ffff))).0 h in
    let q = (and-eq-true_iff (leb 1 k) (leb k 16)).0 p.0 in
    (leb-true 1 k q.0, leb-true k 16 q.1, leb-true (at + k) (min (8 * length s) 0xffff_ffff_ffff_ffff) p.1)

-- nothing is taken where one of the tests fails
pub taken_of-none : (s : List ℕ) (at k : ℕ) → (1 ≤ k → k ≤ 16 → at + k ≤ min (8 * length s) 0xffff_ffff_ffff_ffff → ⊥)
    → None ≡ taken_of s at k
unfolding taken_of
taken_of-none s at k h = rw (refuted (is_field s at k) (λ t. let f = is_field-fits s at k t in h f.0 f.1 f.2)) refl

pub taken_of-some : (s : List ℕ) (at k : ℕ) → 1 ≤ k → k ≤ 16 → at + k ≤ min (8 * length s) 0xffff_ffff_ffff_ffff
    → Some (field s at k) ≡ taken_of s at k
unfolding taken_of is_field
taken_of-some s at k h₁ h₂ h₃ = simp (le-leb _ _ h₁, le-leb _ _ h₂, le-leb _ _ h₃)

-- what a field that was taken says
pub taken_of-field : (s : List ℕ) (at k v : ℕ) → Some v ≡ taken_of s at k
    → (v ≡ field s at k) × (1 ≤ k) × (k ≤ 16) × (at + k ≤ min (8 * length s) 0xffff_ffff_ffff_ffff)
unfolding taken_of
taken_of-field s at k v e =
    let (t, f) = cond_some (is_field s at k) (field s at k) v (sym e) in
    let g = is_field-fits s at k t in
    (sym f, g.0, g.1, g.2)

-- what can be taken is what is left
pub left_of-fits : (s : List ℕ) (at k : ℕ) → 1 ≤ k → k ≤ left_of s at → at + k ≤ min (8 * length s) 0xffff_ffff_ffff_ffff
unfolding left_of
left_of-fits s at k h₁ h₂ = omega arith

pub fits-left_of : (s : List ℕ) (at k : ℕ) → at + k ≤ min (8 * length s) 0xffff_ffff_ffff_ffff → k ≤ left_of s at
unfolding left_of
fits-left_of s at k h = omega arith

-- None, exactly if k is not 1 to 16, the field does not end within s, or the next place is above the largest usize
pub take_none : (s : List ℕ) (at k : ℕ)
    → (taken_of s at k ≡ None) ↔ ((k < 1) ⊎ ((16 < k) ⊎ ((8 * length s < at + k) ⊎ (0xffff_ffff_ffff_ffff < at + k))))
take_none s at k = (
  λ e. refused e (dec_lt k 1) (dec_lt 16 k) (dec_lt (8 * length s) (at + k)) (dec_lt 0xffff_ffff_ffff_ffff (at + k)),
  λ d.
      sym
      (taken_of-none s at k λ h₁ h₂ h₃.
      ⊎_elim (λ a. omega arith) (⊎_elim (λ a. omega arith) (⊎_elim (λ a. omega arith) (λ a. omega arith))) d),
)
  where
    refused : taken_of s at k ≡ None → Dec (k < 1) → Dec (16 < k) → Dec (8 * length s < at + k) → Dec (0xffff_ffff_ffff_ffff < at + k)
        → (k < 1) ⊎ ((16 < k) ⊎ ((8 * length s < at + k) ⊎ (0xffff_ffff_ffff_ffff < at + k)))
    refused e (yes a) _ _ _ = inl a
    refused e (no _) (yes a) _ _ = inr (inl a)
    refused e (no _) (no _) (yes a) _ = inr (inr (inl a))
    refused e (no _) (no _) (no _) (yes a) = inr (inr (inr a))
    refused e (no a) (no b) (no c) (no d) =
        absurd (none-some _ (sym e ∙ sym (taken_of-some s at k (omega arith) (omega arith) (omega arith))))

pub peek_unique : (s : List ℕ) (at k r r' : ℕ) → r ≡ peeked s at k → r' ≡ peeked s at k → r ≡ r'
peek_unique s at k r r' = replies_equal
