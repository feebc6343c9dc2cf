-- The condition is the law's: specs/Condition.antt read in the law's words. In order: what is refused; what a condition that is accepted says; when a
-- condition holds; the range of its sum; that two replies are equal. Assumes nothing.
use Rattle.std.specs.Prelude.{Result, Ok, Err, is_ok}
use Rattle.std.specs.Result.{result_unwrap_or, result_map_both}
use Rattle.std.proofs.Common.{subst, ◌≡◌, ℕ, zero, suc, ◌+◌, ◌*◌, ◌<◌, ◌≤◌, Bool, true, false, cond, ◌&&◌, leb, ◌↔◌, List, length, ℤ, pos, negsuc, ◌+ℤ◌, sym, refl, ap, ◌∙◌, arith, le-leb}
use mathlib.Core.Bool.{false≢true}
use native.Mathlib.Decide.{dec_le}
use lib.IntN.{sub_ℕ}
use Rattle.levels.specs.Level.{twos, bits_of, is_level, level_of, excess_of}
use Rattle.levels.proofs.LevelLaws.{sub_le, sub_eq, sub_add, level_of-excess, excess_lt, level_bits_lem, level_field}
use Rattle.cuts.specs.Below.{sum_to}
use Rattle.cuts.proofs.BelowLaws.{every_same, true_every, sum_to-same, get_d-tab}
use Rattle.cuts.specs.Cut.{at}
use Rattle.cuts.proofs.ReplyLaws.{replies_equal}
use Rattle.condition.specs.Condition.{kind_at, k_at, low_at, high_at, window_low, window_high, condition_ok, kind_of, window_of, condition_of, refused_of, read_of}
use Rattle.condition.specs.Condition.{bound_of, paper_of, window_at, no_window, between, lies, inside, sum_asked, holds_by, holds_of, Says, Broken}
use Rattle.refusal.specs.Refusal.{Tested, number_of}
use Rattle.refusal.specs.declared.Reason.{Reason}
use Rattle.condition.specs.declared.Kind.{Kind}
use Rattle.condition.specs.declared.Limits.{Limits}
use Rattle.condition.specs.declared.Condition.{Condition}
use Rattle.condition.specs.Weigh.{weigh_of, limits_of}
use Rattle.condition.proofs.WeighRight.{count, count_le, sum_asked-excess}
use Rattle.condition.proofs.FieldLaws.{Kept, refused_of-short, refused_of-broken, refused_of-good, read_of-refused, read_of-good, condition_ok-kept, bound_raised, kind_of-zero, kind_of-one, kind_of-two}
use Rattle.condition.proofs.BrokenLaws.{kept_k, kept_ends_zero, not_kept_broken, broken_refuted}

-- the law's number of an answer, 0 of one that refuses nothing
abbrev number_in : Tested → ℕ
number_in (Ok u) = 0
number_in (Err k) = number_of k

module _ (s : List ℕ) where
  -- the three answers, each with its reason
  data Judged : Type 0 where
    short : length s < 38 → refused_of s ≡ Err Reason.TooShort → Judged
    broke : 38 ≤ length s → Broken s → refused_of s ≡ Err Reason.Condition → Judged
    good : 38 ≤ length s → ¬ Broken s → refused_of s ≡ Ok tt → Judged

  judged : Judged
  judged = go (dec_le 38 (length s)) (condition_ok s) refl
    where
      go : Dec (38 ≤ length s) → (k : Bool) → condition_ok s ≡ k → Judged
      go (no n) k e = short (omega arith) (refused_of-short s (omega arith))
      go (yes l) false e = broke l (not_kept_broken s e) (refused_of-broken s l e)
      go (yes l) true e = good l (λ b. false≢true (sym (broken_refuted s b) ∙ e)) (refused_of-good s l e)

  -- two answers that are one have one number
  apart : {t u : Tested} → refused_of s ≡ t → refused_of s ≡ u → number_in t ≡ number_in u
  apart d e = ap number_in (sym d ∙ e)

  -- "fewer than 38 bytes (1)"
  pub refused_1 : (refused_of s ≡ Err Reason.TooShort) ↔ (length s < 38)
  unfolding number_of
  refused_1 = (go judged, refused_of-short s)
    where
      go : Judged → refused_of s ≡ Err Reason.TooShort → length s < 38
      go (short l r) e = l
      go (broke l b r) e = absurd (omega (arith, apart r e))
      go (good l n r) e = absurd (omega (arith, apart r e))

  -- 8 is given exactly where 38 bytes are there and "the condition breaks its section"
  pub refused_8 : (refused_of s ≡ Err Reason.Condition) ↔ ((38 ≤ length s) × Broken s)
  unfolding number_of
  refused_8 = (go judged, λ x. refused_of-broken s x.0 (broken_refuted s x.1))
    where
      go : Judged → refused_of s ≡ Err Reason.Condition → (38 ≤ length s) × Broken s
      go (short l r) e = absurd (omega (arith, apart r e))
      go (broke l b r) e = (l, b)
      go (good l n r) e = absurd (omega (arith, apart r e))

  -- and else nothing is refused
  pub refused_0 : (refused_of s ≡ Ok tt) ↔ ((38 ≤ length s) × ¬ Broken s)
  unfolding number_of
  refused_0 = (go judged, back judged)
    where
      go : Judged → refused_of s ≡ Ok tt → (38 ≤ length s) × ¬ Broken s
      go (short l r) e = absurd (omega (arith, apart r e))
      go (broke l b r) e = absurd (omega (arith, apart r e))
      go (good l n r) e = (l, n)

      back : Judged → (38 ≤ length s) × ¬ Broken s → refused_of s ≡ Ok tt
      back (short l r) x = absurd (omega arith)
      back (broke l b r) x = absurd (x.1 b)
      back (good l n r) x = r

  kind_says : Kept s → (k : ℕ) → kind_at s ≡ k → k ≤ 2
      → paper_of (kind_of s (kind_at s)) ≡ record { number = kind_at s; k = k_at s; low = twos 16 (low_at s); high = twos 16 (high_at s) }
  unfolding twos
  kind_says h zero e l =
      let (a, b) = kept_ends_zero h (λ z. omega arith) in
      rw (kind_of-zero s e, e, kept_k h (λ z. omega arith), a, b) refl
  kind_says h (suc zero) e l =
      let (a, b) = kept_ends_zero h (λ z. omega arith) in
      rw (kind_of-one s e, e, a, b) refl
  kind_says h (suc (suc zero)) e l =
      rw (kind_of-two s (omega arith), e, kept_k h (λ z. omega arith), bound_raised (low_at s), bound_raised (high_at s)) refl
  kind_says h (suc (suc (suc k))) e l = absurd (omega arith)

  -- what the bytes say of a condition that keeps to its section, in the law's numbers
  pub read_says : condition_ok s ≡ true → Says s (condition_of s)
  unfolding condition_of window_of
  read_says h = record {
    kind_is = kind_says (condition_ok-kept s h) (kind_at s) refl (condition_ok-kept s h).kind;
    asked_is = λ p l. ap (λ w. w.asked) (get_d-tab 8 (window_of s) no_window p l);
    low_is = λ p l. ap (λ w. bound_of w.low) (get_d-tab 8 (window_of s) no_window p l) ∙ bound_raised (window_low s p);
    high_is = λ p l. ap (λ w. bound_of w.high) (get_d-tab 8 (window_of s) no_window p l) ∙ bound_raised (window_high s p);
  }

  -- the reply refuses what is refused, for the same reason ..
  pub read_refused : result_map_both (λ _. tt) (λ k. k) (read_of s) ≡ refused_of s
  read_refused = go judged
    where
      go : Judged → result_map_both (λ _. tt) (λ k. k) (read_of s) ≡ refused_of s
      go (short l r) = rw (read_of-refused s r, r) refl
      go (broke l b r) = rw (read_of-refused s r, r) refl
      go (good l n r) = rw (read_of-good s r, r) refl

  -- .. and a reply that accepts says what the bytes say
  pub read_accepts : (c : Condition) → read_of s ≡ Ok c → Says s c
  read_accepts c e = go judged
    where
      go : Judged → Says s c
      go (short l r) = absurd (false≢true (ap is_ok (sym (read_of-refused s r) ∙ e)))
      go (broke l b r) = absurd (false≢true (ap is_ok (sym (read_of-refused s r) ∙ e)))
      go (good l n r) = subst (λ c. Says s c) (ap (λ x. result_unwrap_or x c) (sym (read_of-good s r) ∙ e)) (read_says (kept (condition_ok s) refl))
        where
          kept : (k : Bool) → condition_ok s ≡ k → k ≡ true
          kept true d = refl
          kept false d = absurd (n (not_kept_broken s d))

module _ (c : Condition) (v : ℕ → ℤ) where
  -- "With none asked it holds"
  pub together_none : c.kind ≡ Kind.Together → ((p : ℕ) → p < 8 → (window_at c p).asked ≡ false) → holds_of c v ≡ true
  unfolding holds_of holds_by
  together_none k n = rw k (true_every 8 _ (λ p l. rw (n p l) refl))

  -- "k = 0 holds always"
  pub at_least-zero : c.kind ≡ Kind.AtLeast 0 → holds_of c v ≡ true
  unfolding holds_of holds_by inside
  at_least-zero k = rw k (le-leb 0 (sum_to 8 (λ p. cond (inside c v p) 1 0)) (omega arith))

  -- "With none asked the sum is 0", over n stations
  pub sum_none : (n : ℕ) → ((p : ℕ) → p < n → (window_at c p).asked ≡ false) → sum_asked c v n ≡ pos 0
  unfolding sum_asked
  sum_none zero q = refl
  sum_none (suc n) q = rw (sum_none n (λ p l. q p (omega arith)), q n (omega arith)) refl

-- levels that are the same at every asked station
module _ (c : Condition) (v w : ℕ → ℤ) where
  sum_asked-same : (n : ℕ) → ((p : ℕ) → p < n → (window_at c p).asked ≡ true → v p ≡ w p) → sum_asked c v n ≡ sum_asked c w n
  unfolding sum_asked
  sum_asked-same zero h = refl
  sum_asked-same (suc n) h = rw (sum_asked-same n (λ p l. h p (omega arith))) (go (window_at c n).asked (h n (omega arith)))
    where
      go : (a : Bool) → (a ≡ true → v n ≡ w n) → sum_asked c w n +ℤ cond a (v n) (pos 0) ≡ sum_asked c w n +ℤ cond a (w n) (pos 0)
      go true e = rw (e refl) refl
      go false e = refl

  inside_same : (p : ℕ) → ((window_at c p).asked ≡ true → v p ≡ w p) → inside c v p ≡ inside c w p
  unfolding inside
  inside_same p = go (window_at c p).asked
    where
      go : (a : Bool) → (a ≡ true → v p ≡ w p) → (a && lies (window_at c p) (v p)) ≡ (a && lies (window_at c p) (w p))
      go true e = rw (e refl) refl
      go false e = refl

  same_by : (k : Kind) → ((p : ℕ) → p < 8 → (window_at c p).asked ≡ true → v p ≡ w p) → holds_by k c v ≡ holds_by k c w
  unfolding holds_by
  same_by Kind.Together h = every_same 8 _ _ (λ p l. rw (inside_same p (h p l)) refl)
  same_by (Kind.AtLeast k) h = ap (λ (n : ℕ). leb k n) (sum_to-same 8 _ _ (λ p l. rw (inside_same p (h p l)) refl))
  same_by (Kind.Sum low high) h = rw (sum_asked-same 8 h) refl

  -- the level of a station that is not asked does not matter
  pub unasked_level : ((p : ℕ) → p < 8 → (window_at c p).asked ≡ true → v p ≡ w p) → holds_of c v ≡ holds_of c w
  unfolding holds_of
  unasked_level = same_by c.kind

-- a level as an excess number
unfoldable excess_level : ℤ → ℕ
excess_level v = excess_of (bits_of 12 v)

excess_level_lem : (v : ℤ) → is_level v ≡ true → level_of (excess_level v) ≡ v
unfolding excess_level
excess_level_lem v h = level_of-excess (bits_of 12 v) (level_bits_lem v h) ∙ level_field v h

excess_level_le : (v : ℤ) → excess_level v ≤ 4095
unfolding excess_level
excess_level_le v = omega (arith, excess_lt (bits_of 12 v))

asked_sum_le : (c : Condition) (x : ℕ → ℕ) (n : ℕ) → ((p : ℕ) → x p ≤ 4095)
    → sum_to n (λ p. cond (window_at c p).asked (x p) 0) ≤ 4095 * count n (λ p. (window_at c p).asked)
unfolding sum_to count
asked_sum_le c x zero h = omega arith
asked_sum_le c x (suc n) h = go (window_at c n).asked _ _ (asked_sum_le c x n h) (h n)
  where
    go : (a : Bool) (s k : ℕ) → s ≤ 4095 * k → x n ≤ 4095 → s + cond a (x n) 0 ≤ 4095 * (k + cond a 1 0)
    go true s k i l = omega arith
    go false s k i l = omega arith

module _ (c : Condition) (v : ℕ → ℤ) (n : ℕ) (levels : (p : ℕ) → p < n → is_level (v p) ≡ true) where
  sum_asked-levels : sum_asked c v n
      ≡ sub_ℕ (sum_to n (λ p. cond (window_at c p).asked (excess_level (v p)) 0)) (2048 * count n (λ p. (window_at c p).asked))
  sum_asked-levels =
      sum_asked-same c v (λ p. level_of (excess_level (v p))) n (λ p l a. sym (excess_level_lem (v p) (levels p l)))
      ∙ sum_asked-excess c (λ p. excess_level (v p)) n

  -- the sum of n stations' levels lies from −2,048 n to 2,047 n
  pub sum_range_to : between (sub_ℕ 0 (2048 * n)) (sub_ℕ (2047 * n) 0) (sum_asked c v n) ≡ true
  unfolding between
  sum_range_to =
      let s = sum_to n (λ p. cond (window_at c p).asked (excess_level (v p)) 0) in
      let a = count n (λ p. (window_at c p).asked) in
      let l : s ≤ 4095 * a = asked_sum_le c (λ p. excess_level (v p)) n (λ p. excess_level_le (v p)) in
      let k : a ≤ n = count_le n (λ p. (window_at c p).asked) in
      rw (sum_asked-levels, sub_le 0 (2048 * n) s (2048 * a), sub_le s (2048 * a) (2047 * n) 0)
      (rw (le-leb (0 + 2048 * a) (s + 2048 * n) (omega arith), le-leb (s + 0) (2047 * n + 2048 * a) (omega arith)) refl)

-- "Sums run from −16,384 to 16,376"
pub sum_range : (c : Condition) (v : ℕ → ℤ) → ((p : ℕ) → p < 8 → is_level (v p) ≡ true) → between (negsuc 16383) (pos 16376) (sum_asked c v 8) ≡ true
sum_range c v h = sum_range_to c v 8 h

-- n asked stations at one level
sum_alike : (c : Condition) (a b n : ℕ) → ((p : ℕ) → p < n → (window_at c p).asked ≡ true) → sum_asked c (λ p. sub_ℕ a b) n ≡ sub_ℕ (a * n) (b * n)
unfolding sum_asked
sum_alike c a b zero h = sub_eq 0 0 (a * 0) (b * 0) (omega arith)
sum_alike c a b (suc n) h =
    rw (sum_alike c a b n (λ p l. h p (omega arith)), h n (omega arith))
    (sub_add (a * n) (b * n) a b ∙ sub_eq (a * n + a) (b * n + b) (a * suc n) (b * suc n) (omega arith))

-- .. and both ends are met: eight stations at −2,048, all asked, have the sum −16,384
pub sum_ends : (c : Condition) → ((p : ℕ) → p < 8 → (window_at c p).asked ≡ true)
    → (sum_asked c (λ p. negsuc 2047) 8 ≡ negsuc 16383) × (sum_asked c (λ p. pos 2047) 8 ≡ pos 16376)
sum_ends c h = (sum_alike c 0 2048 8 h, sum_alike c 2047 0 8 h)

-- each entry's contract permits one reply
pub read_unique : (s : List ℕ) (r r' : Result Condition Reason) → r ≡ read_of s → r' ≡ read_of s → r ≡ r'
read_unique s r r' = replies_equal

pub weigh_unique : (c : Condition) (p level r r' : ℕ) → r ≡ weigh_of c p level → r' ≡ weigh_of c p level → r ≡ r'
weigh_unique c p level r r' = replies_equal

pub limits_unique : (c : Condition) (r r' : Limits) → r ≡ limits_of c → r' ≡ limits_of c → r ≡ r'
limits_unique c r r' = replies_equal

pub holds_unique : (c : Condition) (levels : List ℕ) (r r' : Bool)
    → r ≡ holds_of c (λ p. level_of (at levels p)) → r' ≡ holds_of c (λ p. level_of (at levels p)) → r ≡ r'
holds_unique c levels r r' = replies_equal
