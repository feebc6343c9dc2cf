-- One sum decides whether a condition holds: specs/Weigh.antt meets specs/Condition.antt. In order: tests that say the same; counts; the signed sum as an
-- excess number; the three kinds; the same over n stations. Assumes nothing.
use Rattle.std.proofs.Common.{◌≡◌, ℕ, zero, suc, ◌+◌, ◌*◌, ◌<◌, ◌≤◌, Bool, true, false, cond, not, ◌&&◌, ◌||◌, leb, pos, ◌+ℤ◌, sym, refl, ap, ◌∙◌, ⊎_elim, le_of_suc-le-suc, eq-or-lt_of_le, arith, le-leb, leb-true}
use mathlib.Core.Bool.{false≢true, and-true}
use lib.IntN.{sub_ℕ, +ℤ_idr}
use Rattle.levels.specs.Level.{level_of}
use Rattle.levels.proofs.LevelLaws.{sub_le, sub_eq, sub_add}
use Rattle.cuts.specs.Below.{every, sum_to}
use Rattle.cuts.proofs.BelowLaws.{every_true, true_every, sum_to-le, sum_to-lt, sum_to-more}
use Rattle.condition.specs.Condition.{bound_of, between, lies, window_at, inside, sum_asked, holds_by, holds_of}
use Rattle.condition.specs.Weigh.{weigh_by, weigh_of, asked_of, limits_by, limits_of, within}
use Rattle.condition.specs.declared.Kind.{Kind}
use Rattle.condition.specs.declared.Condition.{Condition}
use Rattle.condition.specs.declared.Limits.{Limits}
use Rattle.condition.proofs.FieldLaws.{leb_add}
use Rattle.condition.proofs.WeighLaws.{weigh_unasked}

-- two tests that say the same
tests_same : (a b : Bool) → (a ≡ true → b ≡ true) → (b ≡ true → a ≡ true) → a ≡ b
tests_same true b f g = sym (f refl)
tests_same false true f g = g refl
tests_same false false f g = refl

-- how many of the first n numbers pass a test
unfoldable pub count : ℕ → (ℕ → Bool) → ℕ
count n f = sum_to n (λ p. cond (f p) 1 0)

one_le : (b : Bool) → cond b 1 0 ≤ 1
one_le true = omega arith
one_le false = omega arith

pub count_le : (n : ℕ) (f : ℕ → Bool) → count n f ≤ n
unfolding count sum_to
count_le zero f = omega arith
count_le (suc n) f = omega (arith, count_le n f, one_le (f n))

-- who passes both tests passes the first; no more do
both_le : (a b : Bool) → cond (a && b) 1 0 ≤ cond a 1 0
both_le true b = one_le b
both_le false b = omega arith

passed_le : (a b : Bool) → (not a || (a && b)) ≡ true → cond a 1 0 ≤ cond (a && b) 1 0
passed_le true true h = omega arith
passed_le true false h = absurd (false≢true h)
passed_le false b h = omega arith

failed_lt : (a b : Bool) → (not a || (a && b)) ≡ false → cond (a && b) 1 0 < cond a 1 0
failed_lt true true h = absurd (false≢true (sym h))
failed_lt true false h = omega arith
failed_lt false b h = absurd (false≢true (sym h))

-- every number that passes f passes g, exactly if no fewer pass both than f
pub every_count : (n : ℕ) (f g : ℕ → Bool) → every n (λ p. not (f p) || (f p && g p)) ≡ leb (count n f) (count n (λ p. f p && g p))
unfolding count
every_count n f g = tests_same _ _ counted passed
  where
    one : ℕ → ℕ
    one p = cond (f p) 1 0

    two : ℕ → ℕ
    two p = cond (f p && g p) 1 0

    counted : every n (λ p. not (f p) || (f p && g p)) ≡ true → leb (sum_to n one) (sum_to n two) ≡ true
    counted h = le-leb _ _ (sum_to-le n one two (λ q l. passed_le (f q) (g q) (every_true n _ h q l)))

    passed : leb (sum_to n one) (sum_to n two) ≡ true → every n (λ p. not (f p) || (f p && g p)) ≡ true
    passed h = true_every n _ (λ q l. go q l (not (f q) || (f q && g q)) refl)
      where
        go : (q : ℕ) → q < n → (b : Bool) → (not (f q) || (f q && g q)) ≡ b → b ≡ true
        go q l true e = refl
        go q l false e = absurd (omega (arith, leb-true (sum_to n one) (sum_to n two) h, sum_to-lt n two one q l (λ p k. both_le (f p) (g p)) (failed_lt (f q) (g q) e)))

-- the limits of a count that is at most 8
within_count : (a k : ℕ) → k ≤ 8 → within (record { least = 32768 + a; most = 32768 + 8 }) k ≡ leb a k
unfolding within
within_count a k h =
    let e : 32768 + a ≡ a + 32768 = omega arith in
    rw (e, leb_add a k 32768, le-leb (k + 32768) 32776 (omega arith)) (and-true (leb a k))

module _ (c : Condition) (x : ℕ → ℕ) where
  -- the asked levels' sum, as the excess numbers' sum less 2,048 for each
  pub sum_asked-excess : (n : ℕ) → sum_asked c (λ p. level_of (x p)) n
      ≡ sub_ℕ (sum_to n (λ p. cond (window_at c p).asked (x p) 0)) (2048 * count n (λ p. (window_at c p).asked))
  unfolding sum_asked sum_to count level_of
  sum_asked-excess zero = refl
  sum_asked-excess (suc n) = rw (sum_asked-excess n) (go (window_at c n).asked (sum_to n (λ p. cond (window_at c p).asked (x p) 0)) (count n (λ p. (window_at c p).asked)))
    where
      go : (a : Bool) (s k : ℕ) → sub_ℕ s (2048 * k) +ℤ cond a (sub_ℕ (x n) 2048) (pos 0) ≡ sub_ℕ (s + cond a (x n) 0) (2048 * (k + cond a 1 0))
      go true s k = sub_add s (2048 * k) (x n) 2048 ∙ sub_eq (s + x n) (2048 * k + 2048) (s + x n) (2048 * (k + 1)) (omega arith)
      go false s k = +ℤ_idr (sub_ℕ s (2048 * k)) ∙ sub_eq s (2048 * k) (s + 0) (2048 * (k + 0)) (omega arith)

  -- the three kinds
  weighs : (k : Kind) → holds_by k c (λ p. level_of (x p)) ≡ within (limits_by k (asked_of c)) (sum_to 8 (λ p. weigh_by k c p (x p)))
  unfolding holds_by inside weigh_by limits_by asked_of count between bound_of within
  weighs Kind.Together =
      every_count 8 (λ p. (window_at c p).asked) (λ p. lies (window_at c p) (level_of (x p)))
      ∙ sym (within_count (count 8 (λ p. (window_at c p).asked)) _ (count_le 8 (λ p. (window_at c p).asked && lies (window_at c p) (level_of (x p)))))
  weighs (Kind.AtLeast k) = sym (within_count k _ (count_le 8 (λ p. (window_at c p).asked && lies (window_at c p) (level_of (x p)))))
  weighs (Kind.Sum low high) =
      let s = sum_to 8 (λ p. cond (window_at c p).asked (x p) 0) in
      let k = 2048 * count 8 (λ p. (window_at c p).asked) in
      rw (sum_asked-excess 8, sub_le low 32768 s k, sub_le s k high 32768) refl

  -- the condition holds exactly if the sum of what the stations add is within the limits
  pub holds_weigh : holds_of c (λ p. level_of (x p)) ≡ within (limits_of c) (sum_to 8 (λ p. weigh_of c p (x p)))
  unfolding holds_of limits_of weigh_of
  holds_weigh = weighs c.kind

-- .. where the sum s is kept 32,768 above, as the limits l are
pub holds_sum : (c : Condition) (x : ℕ → ℕ) (l : Limits) (s : ℕ) → l ≡ limits_of c → s ≡ sum_to 8 (λ p. weigh_of c p (x p)) + 32768
    → (leb l.least s && leb s l.most) ≡ holds_of c (λ p. level_of (x p))
unfolding within
holds_sum c x l s d e = rw (d, e) (sym (holds_weigh c x))

-- a turn of the loop that makes it
pub sum_more : (f : ℕ → ℕ) (p s r : ℕ) → s ≡ sum_to p f + 32768 → r ≡ f p → s + r ≡ sum_to (p + 1) f + 32768
sum_more f p s r e d = omega (arith, sum_to-more p f)

-- what adds nothing can be left out
sum_to-quiet : (k n : ℕ) (f : ℕ → ℕ) → n ≤ k → ((p : ℕ) → n ≤ p → p < k → f p ≡ 0) → sum_to k f ≡ sum_to n f
unfolding sum_to
sum_to-quiet zero n f h q =
    let e : n ≡ 0 = omega arith in
    rw e refl
sum_to-quiet (suc k) n f h q =
    ⊎_elim
    (λ e. rw e refl)
    (λ l. omega (arith, sum_to-quiet k n f (le_of_suc-le-suc l) (λ p a b. q p a (omega arith)), q k (le_of_suc-le-suc l) (omega arith)))
    (eq-or-lt_of_le h)

-- the same over n stations, where none beyond them is asked
pub holds_weigh_to : (c : Condition) (x : ℕ → ℕ) (n : ℕ) → n ≤ 8 → ((p : ℕ) → n ≤ p → p < 8 → (window_at c p).asked ≡ false)
    → holds_of c (λ p. level_of (x p)) ≡ within (limits_of c) (sum_to n (λ p. weigh_of c p (x p)))
holds_weigh_to c x n h q =
    holds_weigh c x ∙ ap (λ (s : ℕ). within (limits_of c) s) (sum_to-quiet 8 n (λ p. weigh_of c p (x p)) h (λ p a b. weigh_unasked c p (x p) (q p a b)))
