-- Laws of levels. In order: differences of two numbers compared, equated and added; numbers of k bits in two's complement, there and back; what is a
-- level, and its 12 bits; excess numbers; what the code computes at 16 bits; that the entries have one reply each. A number v is within k bits where
-- mag v < 2 ^ (k - 1): mag x is x, and mag (−1 − x) is x. Assumes nothing.
use mathlib.Core.Path.{◌≡◌, refl, sym, ap, ◌∙◌}
use mathlib.Core.Bool.{Bool, true, false, ◌&&◌, cond}
use Prim.Native.Nat.{ℕ, zero, suc, ◌+◌, ◌-◌, ◌%◌, ◌^◌, ◌≤◌, ◌<◌}
use Rattle.std.proofs.Common.{Option, Some, None, ◌-ℤ◌}
use Rattle.std.proofs.lemmas.Int.{ints}
use Rattle.std.specs.Int.{int_rem_euclid}
use mir.Syntax.{w16}
use mir.Val.{to_z, of_z, SFits}
use mir.Facts.{to_z-of_z}
use lib.IntN.{nat_abs}
use native.Mathlib.Nat.{lt_of_not-le, two-pow-succ}
use native.Mathlib.Decide.{dec_lt, dec_le}
use native.Mathlib.Omega.{arith}
use lib.Dec.{leb, ltb}
use lib.IntN.{ℤ, pos, negsuc, sub_ℕ, ◌+ℤ◌}
use lib.Signed.{le_z, mag}
use borrow.Author.Tests.{lt-ltb, le-ltb, le-leb, lt-leb, leb-true}
use Rattle.cuts.proofs.ReplyLaws.{replies_equal}
use Rattle.levels.specs.Level.{twos, bits_of, is_level, field_of, level_of, excess_of}

-- two tests that say the same
pub leb_same : (a b c d : ℕ) → (a ≤ b → c ≤ d) → (c ≤ d → a ≤ b) → leb a b ≡ leb c d
leb_same a b c d f g = go (dec_le a b)
  where
    go : Dec (a ≤ b) → leb a b ≡ leb c d
    go (yes h) = le-leb a b h ∙ sym (le-leb c d (f h))
    go (no h) =
        let n : d < c = omega (arith, lt_of_not-le (λ (k : c ≤ d). h (g k))) in
        lt-leb a b (lt_of_not-le h) ∙ sym (lt-leb c d n)

pub sub_neg : (a b : ℕ) → a < b → sub_ℕ a b ≡ negsuc (b - suc a)
sub_neg a b h = simp (lt-ltb a b h)

pub sub_pos : (a b : ℕ) → b ≤ a → sub_ℕ a b ≡ pos (a - b)
sub_pos a b h = simp (le-ltb a b h)

-- a − b ≤ c − d exactly where a + d ≤ c + b
pub sub_le : (a b c d : ℕ) → le_z (sub_ℕ a b) (sub_ℕ c d) ≡ leb (a + d) (c + b)
sub_le a b c d = go (dec_lt a b) (dec_lt c d)
  where
    go : Dec (a < b) → Dec (c < d) → le_z (sub_ℕ a b) (sub_ℕ c d) ≡ leb (a + d) (c + b)
    go (yes h) (yes k) = rw (sub_neg a b h, sub_neg c d k) (leb_same (d - suc c) (b - suc a) (a + d) (c + b) (λ e. omega arith) (λ e. omega arith))
    go (yes h) (no k) = rw (sub_neg a b h, sub_pos c d (omega arith)) (sym (le-leb (a + d) (c + b) (omega arith)))
    go (no h) (yes k) = rw (sub_pos a b (omega arith), sub_neg c d k) (sym (lt-leb (a + d) (c + b) (omega arith)))
    go (no h) (no k) = rw (sub_pos a b (omega arith), sub_pos c d (omega arith)) (leb_same (a - b) (c - d) (a + d) (c + b) (λ e. omega arith) (λ e. omega arith))

-- a − b is c − d where a + d is c + b
pub sub_eq : (a b c d : ℕ) → a + d ≡ c + b → sub_ℕ a b ≡ sub_ℕ c d
sub_eq a b c d e = go (dec_lt a b)
  where
    go : Dec (a < b) → sub_ℕ a b ≡ sub_ℕ c d
    go (yes h) = rw (sub_neg a b h, sub_neg c d (omega arith)) (ap negsuc (omega arith))
    go (no h) = rw (sub_pos a b (omega arith), sub_pos c d (omega arith)) (ap pos (omega arith))

pub sub_add : (a b c d : ℕ) → sub_ℕ a b +ℤ sub_ℕ c d ≡ sub_ℕ (a + c) (b + d)
sub_add a b c d = go (dec_lt a b) (dec_lt c d)
  where
    go : Dec (a < b) → Dec (c < d) → sub_ℕ a b +ℤ sub_ℕ c d ≡ sub_ℕ (a + c) (b + d)
    go (yes h) (yes k) = rw (sub_neg a b h, sub_neg c d k, sub_neg (a + c) (b + d) (omega arith)) (ap negsuc (omega arith))
    go (yes h) (no k) = rw (sub_neg a b h, sub_pos c d (omega arith)) (sub_eq (c - d) (suc (b - suc a)) (a + c) (b + d) (omega arith))
    go (no h) (yes k) = rw (sub_pos a b (omega arith), sub_neg c d k) (sub_eq (a - b) (suc (d - suc c)) (a + c) (b + d) (omega arith))
    go (no h) (no k) = rw (sub_pos a b (omega arith), sub_pos c d (omega arith), sub_pos (a + c) (b + d) (omega arith)) (ap pos (omega arith))

-- what is taken away can be given back
pub sub_add_back : (a b : ℕ) → sub_ℕ a b +ℤ pos b ≡ pos a
sub_add_back a b =
    let z : sub_ℕ b 0 ≡ pos b = sub_pos b 0 (omega arith) ∙ ap pos (omega arith) in
    ap (λ y. sub_ℕ a b +ℤ y) (sym z) ∙ sub_add a b b 0 ∙ sub_pos (a + b) (b + 0) (omega arith) ∙ ap pos (omega arith)

pub sub_injective : (a b d : ℕ) → sub_ℕ a d ≡ sub_ℕ b d → a ≡ b
sub_injective a b d e =
    let p : pos a ≡ pos b = sym (sub_add_back a d) ∙ ap (λ z. z +ℤ pos d) e ∙ sub_add_back b d in
    cc

-- half of the numbers of k bits are below the sign's bit
pow_halves : (k : ℕ) → 1 ≤ k → 2 ^ k ≡ 2 ^ (k - 1) + 2 ^ (k - 1)
pow_halves zero h = absurd (omega arith)
pow_halves (suc j) h =
    let e : suc j - 1 ≡ j = omega arith in
    rw e (two-pow-succ j)

pub twos_low : (k f : ℕ) → f < 2 ^ (k - 1) → twos k f ≡ pos f
unfolding twos
twos_low k f h = simp (lt-ltb f (2 ^ (k - 1)) h)

pub twos_high : (k f : ℕ) → 2 ^ (k - 1) ≤ f → f < 2 ^ k → twos k f ≡ negsuc (2 ^ k - suc f)
unfolding twos
twos_high k f h l = simp (le-ltb f (2 ^ (k - 1)) h, lt-ltb f (2 ^ k) l)

pub twos-bits_of : (k : ℕ) (v : ℤ) → 1 ≤ k → mag v < 2 ^ (k - 1) → twos k (bits_of k v) ≡ v
unfolding bits_of
twos-bits_of k (pos x) h l = twos_low k x l
twos-bits_of k (negsuc x) h l =
    let e = pow_halves k h in
    twos_high k (2 ^ k - suc x) (omega arith) (omega arith) ∙ ap negsuc (omega arith)

pub bits_of-lt : (k : ℕ) (v : ℤ) → 1 ≤ k → mag v < 2 ^ (k - 1) → bits_of k v < 2 ^ k
unfolding bits_of
bits_of-lt k (pos x) h l = omega (arith, pow_halves k h)
bits_of-lt k (negsuc x) h l = omega (arith, pow_halves k h)

pub bits_of-twos : (k f : ℕ) → f < 2 ^ k → 1 ≤ k → bits_of k (twos k f) ≡ f
unfolding bits_of
bits_of-twos k f l h = go (dec_lt f (2 ^ (k - 1)))
  where
    go : Dec (f < 2 ^ (k - 1)) → bits_of k (twos k f) ≡ f
    go (yes s) = rw (twos_low k f s) refl
    go (no s) = rw (twos_high k f (omega arith) l) (omega arith)

pub twos_mag : (k f : ℕ) → f < 2 ^ k → 1 ≤ k → mag (twos k f) < 2 ^ (k - 1)
twos_mag k f l h = go (dec_lt f (2 ^ (k - 1)))
  where
    go : Dec (f < 2 ^ (k - 1)) → mag (twos k f) < 2 ^ (k - 1)
    go (yes s) = rw (twos_low k f s) s
    go (no s) = rw (twos_high k f (omega arith) l) (omega (arith, pow_halves k h))

-- a − b is a level exactly where it is not below −2,048 and not above 2,047
pub is_level-sub : (a b : ℕ) → is_level (sub_ℕ a b) ≡ (leb b (a + 2048) && leb a (b + 2047))
unfolding is_level
is_level-sub a b =
    let low = leb_same (0 + b) (a + 2048) b (a + 2048) (λ e. omega arith) (λ e. omega arith) in
    let high = leb_same (a + 0) (2047 + b) a (b + 2047) (λ e. omega arith) (λ e. omega arith) in
    rw (sub_le 0 2048 a b, sub_le a b 2047 0, low, high) refl

-- numbers 32,768 apart agree in their lowest 12 bits
pub bits_of-sub : (x : ℕ) → 30720 ≤ x → x ≤ 34815 → bits_of 12 (sub_ℕ x 32768) ≡ x % 4096
unfolding bits_of
bits_of-sub x l h = go (dec_lt x 32768)
  where
    go : Dec (x < 32768) → bits_of 12 (sub_ℕ x 32768) ≡ x % 4096
    go (yes k) = rw (sub_neg x 32768 k) (omega arith)
    go (no k) = rw (sub_pos x 32768 (omega arith)) (omega arith)

pub is_level-mag : (v : ℤ) → is_level v ≡ leb (mag v) 2047
unfolding is_level
is_level-mag (pos x) = refl
is_level-mag (negsuc x) = go (leb x 2047)
  where
    go : (b : Bool) → (b && true) ≡ b
    go true = refl
    go false = refl

pub level_mag : (v : ℤ) → is_level v ≡ true → mag v < 2048
level_mag v h = omega (arith, leb-true (mag v) 2047 (sym (is_level-mag v) ∙ h))

pub twos_level : (f : ℕ) → f < 4096 → is_level (twos 12 f) ≡ true
twos_level f h = is_level-mag (twos 12 f) ∙ le-leb (mag (twos 12 f)) 2047 (omega (arith, twos_mag 12 f h (omega arith)))

pub level_field : (v : ℤ) → is_level v ≡ true → twos 12 (bits_of 12 v) ≡ v
level_field v h = twos-bits_of 12 v (omega arith) (level_mag v h)

pub level_bits_lem : (v : ℤ) → is_level v ≡ true → bits_of 12 v < 4096
level_bits_lem v h = bits_of-lt 12 v (omega arith) (level_mag v h)

pub field_of-some : (v : ℤ) → is_level v ≡ true → field_of v ≡ Some (bits_of 12 v)
unfolding field_of
field_of-some v h = rw h refl

pub field_of-none : (v : ℤ) → is_level v ≡ false → field_of v ≡ None
unfolding field_of
field_of-none v h = rw h refl

pub excess_lt : (f : ℕ) → excess_of f < 4096
unfolding excess_of
excess_lt f = omega arith

-- only the lowest 12 bits matter
pub excess_mod : (f : ℕ) → excess_of (f % 4096) ≡ excess_of f
unfolding excess_of
excess_mod f = omega arith

pub level_of-excess : (f : ℕ) → f < 4096 → level_of (excess_of f) ≡ twos 12 f
unfolding level_of excess_of twos
level_of-excess f h = go (dec_lt f 2048)
  where
    go : Dec (f < 2048) → sub_ℕ ((f + 2048) % 4096) 2048 ≡ cond (ltb f 2048) (pos f) (sub_ℕ f 4096)
    go (yes k) = rw (lt-ltb f 2048 k, sub_pos ((f + 2048) % 4096) 2048 (omega arith)) (ap pos (omega arith))
    go (no k) = rw (le-ltb f 2048 (omega arith)) (sub_eq ((f + 2048) % 4096) 2048 f 4096 (omega arith))

pub level_of-injective : (x y : ℕ) → level_of x ≡ level_of y → x ≡ y
unfolding level_of
level_of-injective x y e = sub_injective x y 2048 e

-- 2,048 taken from an excess number, as the machine computes it
pub excess_lowered : (f x : ℕ) → x ≡ excess_of f → to_z w16 (of_z w16 (to_z w16 x -ℤ pos 2048)) ≡ twos 12 (f % 4096)
unfolding level_of
excess_lowered f x e =
    let l : x < 4096 = omega (arith, excess_lt f) in
    let fits : SFits w16 (to_z w16 x -ℤ pos 2048) = omega (arith, ints) in
    let z : to_z w16 x ≡ pos x = omega (arith, ints) in
    to_z-of_z fits ∙ ap (λ y. y -ℤ pos 2048) z ∙ ap level_of (e ∙ sym (excess_mod f)) ∙ level_of-excess (f % 4096) (omega arith)

-- the remainder by 4,096 is a level's 12 bits in two's complement
level_remainder : (v : ℤ) → mag v ≤ 2047 → int_rem_euclid v (pos 4096) ≡ pos (bits_of 12 v)
unfolding bits_of
level_remainder (pos x) h = ap pos (omega arith)
level_remainder (negsuc x) h = ap pos (omega arith)

-- the field of a level from the remainder that the machine computes
pub field_computed : (v r : ℤ) → SFits w16 v → SFits w16 r → r ≡ int_rem_euclid (to_z w16 (of_z w16 v)) (pos 4096) → is_level v ≡ true
    → Some (nat_abs (to_z w16 (of_z w16 r))) ≡ field_of v
field_computed v r f g e t =
    let s : int_rem_euclid v (pos 4096) ≡ pos (bits_of 12 v) = level_remainder v (omega (arith, level_mag v t)) in
    ap (λ y. Some (nat_abs y)) (to_z-of_z g ∙ e ∙ ap (λ y. int_rem_euclid y (pos 4096)) (to_z-of_z f) ∙ s) ∙ sym (field_of-some v t)

pub excess_unique : (f : ℕ) (r r' : ℕ) → r ≡ excess_of f → r' ≡ excess_of f → r ≡ r'
excess_unique f r r' = replies_equal

pub signed_unique : (f : ℕ) (r r' : ℤ) → r ≡ twos 12 (f % 4096) → r' ≡ twos 12 (f % 4096) → r ≡ r'
signed_unique f r r' = replies_equal

pub field_unique : (v : ℤ) (r r' : Option ℕ) → r ≡ field_of v → r' ≡ field_of v → r ≡ r'
field_unique v r r' = replies_equal
