-- Laws of putting a field, at any width. In order: a bit of a number made another; a bit of s; the field that was put, those beside it
-- and the bytes; the turns of the code's loop; what is put where it fits, and where not; two replies. Assumes nothing.
use mathlib.Core.Path.{◌≡◌, refl, sym, ap, ◌∙◌}
use mathlib.Core.Bool.{Bool, true, false, ◌&&◌, and-eq-true_iff}
use mathlib.Core.Logic.{◌↔◌, ◌≢◌, ◌⊎◌, inl, inr, ⊎_elim}
use mathlib.Core.List.{List}
use Prim.Native.Nat.{ℕ, zero, suc, ◌+◌, ◌-◌, ◌*◌, ◌/◌, ◌%◌, ◌^◌, ◌≤◌, ◌<◌}
use native.Mathlib.Nat.{pow-suc, mod-lt, le_antisymm, sub_self, div-one, div-lt_iff_lt-mul}
use native.Mathlib.Decide.{ℕ_discrete, dec_lt}
use native.Mathlib.Numerals.{add-one}
use native.Mathlib.Omega.{arith}
use lib.Arith.{digits_lt}
use lib.Pow.{pow_pos, pow_mono, pow-add, shr-shr, shr_lt, high, low, mod-mod-pow}
use lib.Pow as Pow
use lib.Dec.{leb, ltb}
use lib.ListN.{length, get_or, set, drop, length-set}
use lib.Seq.{get_or-set_same, get_or-set_other, set_out, drop-set-lt}
use borrow.Author.Tests.{le-leb, lt-ltb, le-ltb, leb-true, ltb-true}
use Rattle.bits.specs.Bits.{bit_at, field}
use Rattle.put.specs.Put.{with_bit, set_bit, put_at, can_hold, is_put, put_of, Put}
use Rattle.bits.proofs.BitsLaws.{one_shifted, field_ext}
use Rattle.cuts.proofs.ReplyLaws.{refuted, replies_equal}

pub with_bit-same : (x i b : ℕ) → b < 2 → with_bit x i b / 2 ^ i % 2 ≡ b
unfolding with_bit
with_bit-same x i b h = rw (high (x / 2 ^ suc i * 2 + b) i (mod-lt x (pow_pos i))) (omega arith)

-- bit n of y is bit n of x, where they agree below bit d + n + 1
low_bit : (x y n d : ℕ) → y % 2 ^ (d + suc n) ≡ x % 2 ^ (d + suc n) → y / 2 ^ n % 2 ≡ x / 2 ^ n % 2
low_bit x y n d e =
    let e₁ : y % 2 ^ suc n ≡ x % 2 ^ suc n = sym (mod-mod-pow y d (suc n)) ∙ ap (λ (z : ℕ). z % 2 ^ suc n) e ∙ mod-mod-pow x d (suc n) in
    let e₂ : (1 + n) ≡ suc n = omega arith in
    sym (Pow.field y 1 n) ∙ rw (e₂, e₁) refl ∙ rw e₂ at (Pow.field x 1 n)

-- bit n of y is bit n of x, where they agree from bit i on
high_bit : (x y i n : ℕ) → i ≤ n → y / 2 ^ i ≡ x / 2 ^ i → y / 2 ^ n % 2 ≡ x / 2 ^ n % 2
high_bit x y i n h e =
    let e₁ : i + (n - i) ≡ n = omega arith in
    let s : (z : ℕ) → z / 2 ^ n ≡ z / 2 ^ i / 2 ^ (n - i) = λ z. sym (rw e₁ at (shr-shr z i (n - i))) in
    rw (s y, s x, e) refl

pub with_bit-other : (x i b n : ℕ) → b < 2 → n ≢ i → with_bit x i b / 2 ^ n % 2 ≡ x / 2 ^ n % 2
unfolding with_bit
with_bit-other x i b n h ne = go (dec_lt n i)
  where
    go : Dec (n < i) → with_bit x i b / 2 ^ n % 2 ≡ x / 2 ^ n % 2
    go (yes p) =
        let e : i - suc n + suc n ≡ i = omega arith in
        low_bit x (with_bit x i b) n (i - suc n) (rw e (low (x / 2 ^ suc i * 2 + b) i (mod-lt x (pow_pos i)) ∙ refl))
    go (no q) =
        let e : with_bit x i b / 2 ^ suc i ≡ with_bit x i b / 2 ^ i / 2 ^ 1 = sym (rw add-one at (shr-shr (with_bit x i b) i 1)) in
        high_bit x (with_bit x i b) (suc i) n (omega arith) (e ∙ rw (high (x / 2 ^ suc i * 2 + b) i (mod-lt x (pow_pos i))) (omega arith))

-- a byte stays a byte
pub with_bit-lt : (x i b : ℕ) → x < 256 → i < 8 → b < 2 → with_bit x i b < 256
unfolding with_bit
with_bit-lt x i b hx hi hb =
    let e : 8 - i + i ≡ 8 = omega arith in
    let e₂ : 7 - i + suc i ≡ 8 = omega arith in
    let e₃ : suc (7 - i) ≡ 8 - i = omega arith in
    let h : x / 2 ^ suc i < 2 ^ (7 - i) = shr_lt (7 - i) (suc i) (rw e₂ hx) in
    let h₂ : x / 2 ^ suc i * 2 + b < 2 ^ (8 - i) = omega (arith, rw e₃ at (pow-suc 2 (7 - i))) in
    rw (← pow-add 2 (8 - i) i, e) at (digits_lt h₂ (mod-lt x (pow_pos i)))

-- as the code has it, with p for 2 ^ i
pub with_bit-code : (x i b p : ℕ) → p ≡ 2 ^ i → (x / (p * 2) * 2 + b) * p + x % p ≡ with_bit x i b
unfolding with_bit
with_bit-code x i b p e = rw (e, ← pow-suc) refl

pub with_bit-code_lt : (x i b p : ℕ) → x < 256 → (i < 8) × (b < 2) → p ≡ 2 ^ i → (x / (p * 2) * 2 + b) * p + x % p < 256
with_bit-code_lt x i b p h g e = rw (with_bit-code x i b p e) (with_bit-lt x i b h g.0 g.1)

-- the power that the code shifts out of 1 is that of a bit of a byte
pub power_byte : (i : ℕ) → i < 8 → (1 * 2 ^ i % 2 ^ 64 ≡ 2 ^ i) × (0 < 1 * 2 ^ i % 2 ^ 64) × (1 * 2 ^ i % 2 ^ 64 ≤ 128)
power_byte i h =
    let l : i ≤ 7 = omega arith in
    let e = one_shifted i (omega arith) in
    (e, rw e (pow_pos i), rw e (pow_mono l))

pub set_same : (s : List ℕ) (i b : ℕ) → i < 8 * length s → b < 2 → bit_at (set_bit s i b) i ≡ b
unfolding bit_at set_bit
set_same s i b h g =
    let l : i / 8 < length s = omega arith in
    rw (get_or-set_same s (i / 8) (with_bit (get_or s (i / 8) 0) (7 - i % 8) b) 0 l) (with_bit-same (get_or s (i / 8) 0) (7 - i % 8) b g)

pub set_other : (s : List ℕ) (i b j : ℕ) → i < 8 * length s → b < 2 → j ≢ i → bit_at (set_bit s i b) j ≡ bit_at s j
unfolding bit_at set_bit
set_other s i b j h g ne = go (ℕ_discrete (j / 8) (i / 8))
  where
    go : Dec (j / 8 ≡ i / 8) → bit_at (set_bit s i b) j ≡ bit_at s j
    go (yes e) =
        let l : i / 8 < length s = omega arith in
        let ne₂ : 7 - j % 8 ≢ 7 - i % 8 = omega arith in
        rw (e, get_or-set_same s (i / 8) (with_bit (get_or s (i / 8) 0) (7 - i % 8) b) 0 l)
        (with_bit-other (get_or s (i / 8) 0) (7 - i % 8) b (7 - j % 8) g ne₂)
    go (no q) = rw (get_or-set_other s (i / 8) (j / 8) (with_bit (get_or s (i / 8) 0) (7 - i % 8) b) 0 q) refl

-- the field that ends before the bit
pub set_before : (s : List ℕ) (at k b : ℕ) → at + k < 8 * length s → b < 2 → field (set_bit s (at + k) b) at k ≡ field s at k
set_before s at k b h g = field_ext _ _ at k (λ i l. set_other s (at + k) b (at + i) h g (omega arith))

pub set_length : (s : List ℕ) (i b : ℕ) → length (set_bit s i b) ≡ length s
unfolding set_bit
set_length s i b = simp length-set

pub set_bytes : (s : List ℕ) (i b : ℕ) → b < 2 → ((j : ℕ) → get_or s j 0 < 256) → (j : ℕ) → get_or (set_bit s i b) j 0 < 256
unfolding set_bit
set_bytes s i b g h j = go (ℕ_discrete j (i / 8)) (dec_lt (i / 8) (length s))
  where
    go : Dec (j ≡ i / 8) → Dec (i / 8 < length s) → get_or (set_bit s i b) j 0 < 256
    go (yes e) (yes l) =
        rw (e, get_or-set_same s (i / 8) (with_bit (get_or s (i / 8) 0) (7 - i % 8) b) 0 l)
        (with_bit-lt (get_or s (i / 8) 0) (7 - i % 8) b (h (i / 8)) (omega arith) g)
    go (yes e) (no q) = rw (set_out s (i / 8) (with_bit (get_or s (i / 8) 0) (7 - i % 8) b) (omega arith)) (h j)
    go (no q) l = rw (get_or-set_other s (i / 8) j (with_bit (get_or s (i / 8) 0) (7 - i % 8) b) 0 q) (h j)

pub set_drop : (s : List ℕ) (i b n : ℕ) → i < 8 * n → drop n (set_bit s i b) ≡ drop n s
unfolding set_bit
set_drop s i b n h = drop-set-lt n s (i / 8) (with_bit (get_or s (i / 8) 0) (7 - i % 8) b) (omega arith)

pub put_length : (s : List ℕ) (at k v : ℕ) → length (put_at s at k v) ≡ length s
unfolding put_at
put_length s at zero v = refl
put_length s at (suc k) v = set_length (put_at s at k (v / 2)) (at + k) (v % 2) ∙ put_length s at k (v / 2)

-- a bit outside the field that was put
pub put_bit : (s : List ℕ) (at k v j : ℕ) → at + k ≤ 8 * length s → (j < at) ⊎ (at + k ≤ j) → bit_at (put_at s at k v) j ≡ bit_at s j
unfolding put_at
put_bit s at zero v j h d = refl
put_bit s at (suc k) v j h d =
    let l : at + k < 8 * length (put_at s at k (v / 2)) = rw (put_length s at k (v / 2)) (omega arith) in
    set_other (put_at s at k (v / 2)) (at + k) (v % 2) j l (omega arith) (λ e. ⊎_elim (λ b. omega arith) (λ a. omega arith) d)
    ∙ put_bit s at k (v / 2) j (omega arith) (⊎_elim inl (λ a. inr (omega arith)) d)

-- what was put is taken again
pub put_same : (s : List ℕ) (at k v : ℕ) → v < 2 ^ k → at + k ≤ 8 * length s → field (put_at s at k v) at k ≡ v
unfolding put_at field
put_same s at zero v g h = omega arith
put_same s at (suc k) v g h =
    let l : at + k < 8 * length (put_at s at k (v / 2)) = rw (put_length s at k (v / 2)) (omega arith) in
    let e : field (put_at s at k (v / 2)) at k ≡ v / 2 = put_same s at k (v / 2) (omega (arith, pow-suc 2 k)) (omega arith) in
    rw (set_before (put_at s at k (v / 2)) at k (v % 2) l (omega arith), set_same (put_at s at k (v / 2)) (at + k) (v % 2) l (omega arith), e)
    (omega arith)

-- a field that ends at or before `at`, or begins at or after at + k, is as before
pub put_beside : (s : List ℕ) (at k v at' k' : ℕ) → at + k ≤ 8 * length s → (at' + k' ≤ at) ⊎ (at + k ≤ at')
    → field (put_at s at k v) at' k' ≡ field s at' k'
put_beside s at k v at' k' h d =
    field_ext _ _ at' k' (λ i g. put_bit s at k v (at' + i) h (⊎_elim (λ b. inl (omega arith)) (λ a. inr (omega arith)) d))

pub put_bytes : (s : List ℕ) (at k v : ℕ) → ((i : ℕ) → get_or s i 0 < 256) → (i : ℕ) → get_or (put_at s at k v) i 0 < 256
unfolding put_at
put_bytes s at zero v h = h
put_bytes s at (suc k) v h = set_bytes (put_at s at k (v / 2)) (at + k) (v % 2) (omega arith) (put_bytes s at k (v / 2) h)

-- bytes behind the field are unchanged
pub put_drop : (s : List ℕ) (at k v b : ℕ) → at + k ≤ 8 * b → drop b (put_at s at k v) ≡ drop b s
unfolding put_at
put_drop s at zero v b h = refl
put_drop s at (suc k) v b h = set_drop (put_at s at k (v / 2)) (at + k) (v % 2) b (omega arith) ∙ put_drop s at k (v / 2) b (omega arith)

-- bit at + i by its byte and its bit there, so that at + i need not be a number of the machine
pub set_code : (s : List ℕ) (at i b x : ℕ) → x ≡ with_bit (get_or s (at / 8 + (at % 8 + i) / 8) 0) (7 - (at % 8 + i) % 8) b
    → set s (at / 8 + (at % 8 + i) / 8) x ≡ set_bit s (at + i) b
unfolding set_bit
set_code s at i b x e =
    let e₁ : at / 8 + (at % 8 + i) / 8 ≡ (at + i) / 8 = omega arith in
    let e₂ : (at % 8 + i) % 8 ≡ (at + i) % 8 = omega arith in
    rw (e, e₁, e₂) refl

-- a turn of the loop over the bits, where t is what the turns before left
pub put_step : (s t u : List ℕ) (at i k v : ℕ) → i < k → t ≡ put_at s at i (v / 2 ^ (k - i)) → u ≡ set_bit t (at + i) (v / 2 ^ (k - 1 - i) % 2)
    → u ≡ put_at s at (i + 1) (v / 2 ^ (k - (i + 1)))
unfolding put_at
put_step s t u at i k v h e f =
    let e₁ : k - suc i ≡ k - 1 - i = omega arith in
    let e₂ : k - 1 - i + 1 ≡ k - i = omega arith in
    let e₃ : v / 2 ^ (k - 1 - i) / 2 ^ 1 ≡ v / 2 ^ (k - i) = rw e₂ at (shr-shr v (k - 1 - i) 1) in
    f ∙ rw (add-one i, e₁, e₃, e) refl

-- the loop's end
pub put_done : (s : List ℕ) (at i k v : ℕ) → i ≤ k → k ≤ i → put_at s at i (v / 2 ^ (k - i)) ≡ put_at s at k v
put_done s at i k v h g = rw (le_antisymm h g, sub_self k) (rw (div-one v) refl)

pub can_hold-fits : (n at k v : ℕ) → can_hold n at k v ≡ true → (1 ≤ k) × (k ≤ 16) × (at + k ≤ 8 * n) × (v < 2 ^ k)
unfolding can_hold
can_hold-fits n at k v h =
    let p = (and-eq-true_iff (leb 1 k && leb k 16 && leb (at + k) (8 * n)) (ltb v (2 ^ k))).0 h in
    let q = (and-eq-true_iff (leb 1 k && leb k 16) (leb (at + k) (8 * n))).0 p.0 in
    let r = (and-eq-true_iff (leb 1 k) (leb k 16)).0 q.0 in
    (leb-true 1 k r.0, leb-true k 16 r.1, leb-true (at + k) (8 * n) q.1, ltb-true v (2 ^ k) p.1)

pub can_hold-not : (n at k v : ℕ) → (1 ≤ k → k ≤ 16 → at + k ≤ 8 * n → v < 2 ^ k → ⊥) → false ≡ can_hold n at k v
can_hold-not n at k v h = sym (refuted (can_hold n at k v) (λ t. let f = can_hold-fits n at k v t in h f.0 f.1 f.2 f.3))

-- a value of k bits is one whose bits above them are 0
shifted_none : (v k : ℕ) → ltb (v / 2 ^ k) 1 ≡ ltb v (2 ^ k)
shifted_none v k = go (dec_lt v (2 ^ k))
  where
    iff : (v / 2 ^ k < 1) ↔ (v < 1 * 2 ^ k)
    iff = div-lt_iff_lt-mul (pow_pos k)

    go : Dec (v < 2 ^ k) → ltb (v / 2 ^ k) 1 ≡ ltb v (2 ^ k)
    go (yes h) = lt-ltb _ _ (iff.1 (omega arith)) ∙ sym (lt-ltb v (2 ^ k) h)
    go (no h) =
        let g : v / 2 ^ k < 1 → ⊥ = λ l. omega (arith, iff.0 l) in
        le-ltb (v / 2 ^ k) 1 (omega arith) ∙ sym (le-ltb v (2 ^ k) (omega arith))

pub can_hold-shifted : (n at k v : ℕ) → 1 ≤ k → k ≤ 16 → at + k ≤ 8 * n → ltb (v / 2 ^ k) 1 ≡ can_hold n at k v
unfolding can_hold
can_hold-shifted n at k v h₁ h₂ h₃ = simp (le-leb _ _ h₁, le-leb _ _ h₂, le-leb _ _ h₃) (shifted_none v k)

pub is_put-fits : (s : List ℕ) (at k v : ℕ) → is_put s at k v ≡ true
    → (1 ≤ k) × (k ≤ 16) × (at + k ≤ 8 * length s) × (v < 2 ^ k)
unfolding is_put
is_put-fits s = can_hold-fits (length s)

pub is_put-true : (s : List ℕ) (at k v : ℕ) → 1 ≤ k → k ≤ 16 → at + k ≤ 8 * length s → v < 2 ^ k → is_put s at k v ≡ true
unfolding is_put can_hold
is_put-true s at k v h₁ h₂ h₃ h₄ = simp (le-leb _ _ h₁, le-leb _ _ h₂, le-leb _ _ h₃, lt-ltb _ _ h₄)

pub put_of-fits : (s : List ℕ) (at k v : ℕ) → 1 ≤ k → k ≤ 16 → at + k ≤ 8 * length s → v < 2 ^ k → put_of s at k v ≡ put_at s at k v
unfolding put_of
put_of-fits s at k v h₁ h₂ h₃ h₄ = rw (is_put-true s at k v h₁ h₂ h₃ h₄) refl

-- nothing is put where s cannot hold the value there
pub put_none : (s : List ℕ) (at k v : ℕ) → can_hold (length s) at k v ≡ false → Put s at k v false s
unfolding is_put put_of
put_none s at k v e = record { said = sym e; bytes = rw e refl }

pub put_some : (s after : List ℕ) (at k v : ℕ) → can_hold (length s) at k v ≡ true → after ≡ put_at s at k v → Put s at k v true after
unfolding is_put put_of
put_some s after at k v e h = record { said = sym e; bytes = rw e h }

-- one reply, and one list of bytes after it
pub put_unique : (s : List ℕ) (at k v : ℕ) (r r' : Bool) (after after' : List ℕ) → Put s at k v r after → Put s at k v r' after'
    → (r ≡ r') × (after ≡ after')
put_unique s at k v r r' after after' p q = (replies_equal p.said q.said, replies_equal p.bytes q.bytes)
