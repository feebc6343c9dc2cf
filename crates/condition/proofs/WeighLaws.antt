-- Laws of what a station adds to the sum that decides. In order: the eight windows of a condition; the asked ones, counted; a window's test; a test as a number; what a station adds.
-- Assumes nothing.
use Rattle.std.proofs.Common.{◌≡◌, ℕ, ◌+◌, ◌≤◌, Bool, true, false, cond, ◌&&◌, leb, List, [], ◌∷◌, length, sym, ◌∙◌, refl, ap, arith}
use Rattle.std.specs.List.{count_by}
use Rattle.std.proofs.lemmas.List.Sums.{sum_by-cons}
use lib.ListN.{get_or, get_or-eq_default}
use mir.Val.{Val, bool_byte}
use denote.Laws.{Is}
use denote.Struct.Declared.{row}
use Rattle.cuts.specs.Below.{sum_to}
use Rattle.cuts.proofs.BelowLaws.{sum_to-first}
use Rattle.levels.specs.Level.{level_of}
use Rattle.levels.proofs.LevelLaws.{sub_le}
use Rattle.condition.specs.Condition.{bound_of, between, lies, window_at, no_window}
use Rattle.condition.specs.Weigh.{weigh_by, weigh_of, asked_of}
use Rattle.condition.specs.declared.Window.{Window}
use Rattle.condition.specs.declared.Kind.{Kind}
use Rattle.condition.specs.declared.Condition.{Condition}
use Rattle.condition.specs.contracts.Condition.{the_type}
use Rattle.condition.proofs.FieldLaws.{leb_add}

-- a condition that is passed by value has eight windows
pub eight_windows : (c : Condition) (vs : List Val) → Is (row the_type) c vs → length c.windows ≡ 8
eight_windows c vs g = g.1.1.1.0.1.0.1

-- no station beyond the eighth is asked
pub unasked_beyond : (c : Condition) (p : ℕ) → length c.windows ≡ 8 → 8 ≤ p → (window_at c p).asked ≡ false
unasked_beyond c p e h = ap (λ (w : Window). w.asked) (get_or-eq_default c.windows no_window (omega arith))

-- a count of the elements that pass a test, as a sum over their places
count_places : {A : Type 0} (f : A → Bool) (d : A) (xs : List A) → count_by f xs ≡ sum_to (length xs) (λ q. cond (f (get_or xs q d)) 1 0)
unfolding sum_to
count_places f d [] = refl
count_places f d (x ∷ xs) = sum_by-cons (λ y. cond (f y) 1 0) x xs ∙ sym (sum_to-first (length xs) (λ q. cond (f (get_or (x ∷ xs) q d)) 1 0) ∙ ap (λ (n : ℕ). cond (f x) 1 0 + n) (sym (count_places f d xs)))

-- the asked stations of a condition, counted window by window
pub count_asked : (c : Condition) → length c.windows ≡ 8 → count_by (λ w. w.asked) c.windows ≡ asked_of c
unfolding asked_of
count_asked c e = rw (count_places (λ (w : Window). w.asked) no_window c.windows, e) refl

-- a window's ends and a level, as excess numbers
pub lies_excess : (w : Window) (x : ℕ) → lies w (level_of x) ≡ (leb w.low (x + 30720) && leb (x + 30720) w.high)
unfolding lies between bound_of level_of
lies_excess w x =
    let e : x + 32768 ≡ x + 30720 + 2048 = omega arith in
    rw (sub_le w.low 32768 x 2048, sub_le x 2048 w.high 32768, e, leb_add w.low (x + 30720) 2048, leb_add (x + 30720) w.high 2048) refl

-- a test as a number
pub byte_one : (b : Bool) → bool_byte b ≡ cond b 1 0
byte_one true = refl
byte_one false = refl

-- what a station adds, for a condition of kind k
module _ (c : Condition) (p x : ℕ) where
  unasked_by : (k : Kind) → (window_at c p).asked ≡ false → weigh_by k c p x ≡ 0
  unfolding weigh_by
  unasked_by Kind.Together e = rw e refl
  unasked_by (Kind.AtLeast k) e = rw e refl
  unasked_by (Kind.Sum low high) e = rw e refl

  -- an unasked station adds nothing
  pub weigh_unasked : (window_at c p).asked ≡ false → weigh_of c p x ≡ 0
  unfolding weigh_of
  weigh_unasked e = unasked_by c.kind e

  -- a station whose window is w is asked, and its level lies in the window
  abbrev is_inside : Window → Bool
  is_inside w = w.asked && (leb w.low (x + 30720) && leb (x + 30720) w.high)

  inside_by : (k : Kind) → ((low high : ℕ) → k ≡ Kind.Sum low high → ⊥) → bool_byte (is_inside (window_at c p)) ≡ weigh_by k c p x
  unfolding weigh_by
  inside_by Kind.Together o = rw (lies_excess (window_at c p) x) (byte_one (is_inside (window_at c p)))
  inside_by (Kind.AtLeast k) o = rw (lies_excess (window_at c p) x) (byte_one (is_inside (window_at c p)))
  inside_by (Kind.Sum low high) o = absurd (o low high refl)

  -- such a station adds 1, for Together and At least; w is its window as the code has it
  pub weigh_inside : {w : Window} → w ≡ window_at c p → ((low high : ℕ) → c.kind ≡ Kind.Sum low high → ⊥) → bool_byte (is_inside w) ≡ weigh_of c p x
  unfolding weigh_of
  weigh_inside e o = rw e (inside_by c.kind o)

  -- and for Sum an asked one its level, another nothing
  pub weigh_asked : {w : Window} {low high : ℕ} → w ≡ window_at c p → c.kind ≡ Kind.Sum low high → w.asked ≡ true → x ≡ weigh_of c p x
  unfolding weigh_of weigh_by
  weigh_asked e k a = rw (k, rw e at a) refl

  pub weigh_nothing : {w : Window} → w ≡ window_at c p → w.asked ≡ false → 0 ≡ weigh_of c p x
  weigh_nothing e a = sym (weigh_unasked (rw e at a))
