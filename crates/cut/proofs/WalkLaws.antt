-- Laws of the walk over the eight places. In order: sums and products whose last parts are nothing; what is so after p places; where the walk stops;
-- after eight places; what the entries read off; a step's answer. Assumes nothing.
use mathlib.Core.Path.{◌≡◌, refl, sym, ◌∙◌}
use mathlib.Core.Bool.{Bool, true, false, ◌&&◌, cond}
use mathlib.Core.Logic.{⊎_elim}
use mathlib.Core.List.{List}
use Prim.Native.Nat.{ℕ, zero, suc, ◌+◌, ◌-◌, ◌*◌, ◌≤◌, ◌<◌, min}
use native.Mathlib.Nat.{le-mul_of_pos_right, eq-or-lt_of_le, le_of_suc-le-suc}
use native.Mathlib.Decide.{dec_le, dec_lt}
use native.Mathlib.Numerals.{add-one}
use native.Mathlib.Omega.{arith}
use lib.Arith.{le-zero}
use lib.Dec.{leb}
use lib.ListN.{length}
use borrow.Author.Tests.{lt-ltb, le-ltb, le-leb, lt-leb}
use Rattle.std.proofs.Common.{Option, Some, None, MatchOption, SomeIff}
use Rattle.cuts.specs.Below.{sum_to, product_to}
use Rattle.cuts.specs.Cut.{at}
use Rattle.cuts.specs.Rank.{weight}
use Rattle.cut.specs.Value.{is_full, is_cut, is_station, FullCut, CutOf, with_count, moved, forward_of, back_of, box_of, rank_of, events_of}
use Rattle.cut.specs.Walk.{Found, Walks}
use Rattle.cut.specs.declared.Cut.{Cut}
use Rattle.cut.specs.declared.Walked.{Walked}
use Rattle.cuts.proofs.BelowLaws.{last_or_below, sum_to-more}
use Rattle.cuts.proofs.ReplyLaws.{refuted}
use Rattle.cut.proofs.ValueLaws.{held_more, mul_under, weight_more, rank_to, rank_to-more}
use Rattle.cut.proofs.ValueRight.{is_full-is, is_cut-is, station_is, box_loop, box_of-loop, rank_of-loop, rank_of-none, events_of-loop}

-- terms from n on that are 0 add nothing
sum_to-beyond : (f : ℕ → ℕ) (n k : ℕ) → n ≤ k → ((q : ℕ) → q < k → n ≤ q → f q ≡ 0) → sum_to k f ≡ sum_to n f
unfolding sum_to
sum_to-beyond f n zero h z = rw (le-zero h) refl
sum_to-beyond f n (suc k) h z =
    ⊎_elim
    (λ e. rw e refl)
    (λ l. omega (arith, sum_to-beyond f n k (le_of_suc-le-suc l) (λ q b. z q (omega arith)), z k (omega arith) (omega arith)))
    (eq-or-lt_of_le h)

-- .. and counts that are 0 leave the weight
weight_beyond : (l : List ℕ) (n k : ℕ) → n ≤ k → ((q : ℕ) → q < k → n ≤ q → at l q ≡ 0) → weight l k ≡ weight l n
weight_beyond l n zero h z = rw (le-zero h) refl
weight_beyond l n (suc k) h z =
    ⊎_elim
    (λ e. rw e refl)
    (λ b. rw (← add-one k, weight_more, z k (omega arith) (omega arith)) (omega (arith, weight_beyond l n k (le_of_suc-le-suc b) (λ q i. z q (omega arith)))))
    (eq-or-lt_of_le h)

-- the counts at place q will do: none above its station's events, none beyond n other than 0
pub record Fitting (n : ℕ) (m c : List ℕ) (q : ℕ) : Type 0 where
  pub no_above : at c q ≤ at m q
  pub beyond : n ≤ q → at m q ≡ 0

-- what is so after p places; 4,294,967,295 is 65,535 times 65,537, the most that a term of the rank can be
pub record Turned (n : ℕ) (m c : List ℕ) (w r t p : ℕ) : Type 0 where
  pub fits : (q : ℕ) → q < p → Fitting n m c q
  pub size : w ≡ min (weight m p) 65537
  pub ranked : w ≤ 65536 → r ≡ rank_to m c p
  pub small : r ≤ 4294967295 * p
  pub summed : t ≡ sum_to p (at m)
  pub few : t ≤ 65535 * p

pub turned_none : (n : ℕ) (m c : List ℕ) → Turned n m c 1 0 0 0
unfolding weight product_to rank_to sum_to
turned_none n m c = record {
  fits = λ q l. absurd (omega arith);
  size = refl;
  ranked = λ a. refl;
  small = omega arith;
  summed = refl;
  few = omega arith;
}

module _ {n : ℕ} {m c : List ℕ} {w r t p : ℕ} (i : Turned n m c w r t p) where
  pub term_small : (x : ℕ) → x < 65536 → x * w ≤ 4294967295
  term_small x l = mul_under x w 65535 65537 (omega arith) (omega (arith, i.size))

  pub product_small : (k : ℕ) → k < 65536 → w * (k + 1) ≤ 4295032832
  product_small k l = mul_under w (k + 1) 65537 65536 (omega (arith, i.size)) (omega arith)

  -- a product under the limit has a factor under it
  factor_under : (k : ℕ) → min (weight m p * (k + 1)) 65537 ≤ 65536 → (w ≡ weight m p) × (w ≤ 65536)
  factor_under k h =
      let l : weight m p ≤ weight m p * (k + 1) = le-mul_of_pos_right (weight m p) (omega arith) in
      (omega (arith, i.size), omega (arith, i.size))

  pub turn : (k x : ℕ) → (k ≡ at m p) × (k < 65536) → (x ≡ at c p) × (x < 65536) → Fitting n m c p
      → Turned n m c (min (w * (k + 1)) 65537) (r + x * w) (t + k) (p + 1)
  turn k x (ek, lk) (ex, lx) f = record {
    fits = λ q l. ⊎_elim (λ e. rw e f) (i.fits q) (last_or_below p q (rw add-one at l));
    size = grown ∙ rw (ek, weight_more) refl;
    ranked = λ a.
        let (ew, lw) = factor_under k (rw grown at a) in
        rw (i.ranked lw, ew, ex, rank_to-more) refl;
    small = omega (arith, i.small, term_small x lx);
    summed = rw (i.summed, ek, sum_to-more) refl;
    few = omega (arith, i.few);
  }
    where
      grown : min (w * (k + 1)) 65537 ≡ min (weight m p * (k + 1)) 65537
      grown = rw i.size (held_more (weight m p) k)

-- c is no cut of the recording where it breaks the law's words
pub not_cut : (m c : Cut) → (CutOf m c → ⊥) → is_cut m c ≡ false
not_cut m c h = refuted (is_cut m c) (λ e. h ((is_cut-is m c).0 e))

-- .. nor where the counts at some place will not do
pub unfit : (m c : Cut) (p : ℕ) → p < 8 → (Fitting m.n m.counts c.counts p → ⊥) → is_cut m c ≡ false
unfit m c p l h = not_cut m c (λ d. h (record { no_above = under d (dec_lt p m.n); beyond = d.full.beyond p l }))
  where
    under : CutOf m c → Dec (p < m.n) → at c.counts p ≤ at m.counts p
    under d (yes k) = d.no_above p k
    under d (no k) = omega (arith, d.beyond p l (omega arith))

module _ (m c : Cut) {w r t : ℕ} (some : 1 ≤ m.n) (eight : m.n ≤ 8) (same : c.n ≡ m.n) (l : length m.counts ≡ 8)
    (i : Turned m.n m.counts c.counts w r t 8) where
  -- after eight places c is a cut of the recording
  cut : CutOf m c
  cut = record {
    full = record { some_station = some; most_eight = eight; beyond = λ q k o. (i.fits q k).beyond o };
    same_n = same;
    no_above = λ q k. (i.fits q (omega arith)).no_above;
    beyond = λ q k o. omega (arith, (i.fits q k).no_above, (i.fits q k).beyond o);
  }

  weight_same : weight m.counts 8 ≡ weight m.counts m.n
  weight_same = weight_beyond m.counts m.n 8 eight cut.full.beyond

  rank_same : rank_to m.counts c.counts 8 ≡ rank_to m.counts c.counts m.n
  unfolding rank_to
  rank_same = sum_to-beyond _ m.n 8 eight (λ q k o. rw (cut.beyond q k o) (omega arith))

  rank_found : Dec (w ≤ 65536) → rank_of m c ≡ cond (leb w 65536) (Some r) None
  rank_found (yes k) =
      rw (le-leb w 65536 k, i.ranked k, rank_same) (rank_of-loop m c cut l (omega (arith, i.size, weight_same)))
  rank_found (no k) =
      rw (lt-leb w 65536 (omega arith)) (rank_of-none m c (λ f b. omega (arith, i.size, weight_same, box_loop m f.full l)))

  pub walked : Found m c (record { size = w; rank = r; events = t })
  walked = record {
    cut = (is_cut-is m c).1 cut;
    size = i.size ∙ rw (box_of-loop m cut.full l, ← weight_same) refl;
    rank = rank_found (dec_le w 65536);
    events = i.summed ∙ sum_to-beyond (at m.counts) m.n 8 eight cut.full.beyond ∙ sym (events_of-loop m cut.full l);
  }

-- two tests, each true where the other is
both_true : (a b : Bool) → (a ≡ true → b ≡ true) → (b ≡ true → a ≡ true) → a ≡ b
both_true true b f g = sym (f refl)
both_true false true f g = g refl
both_true false false f g = refl

-- the full cut is one of its own recording
is_cut-self : (m : Cut) → is_cut m m ≡ is_full m
is_cut-self m = both_true _ _ (λ e. (is_full-is m).1 ((is_cut-is m m).0 e).full) (λ e. (is_cut-is m m).1 (self ((is_full-is m).0 e)))
  where
    self : FullCut m → CutOf m m
    self f = record { full = f; same_n = refl; no_above = λ p l. omega arith; beyond = f.beyond }

-- the box and T, read off a walk over the full cut
pub size-box_of : (m : Cut) (r : Option Walked) (v : ℕ) → Walks m m r → MatchOption r (v ≡ 0) (λ w. v ≡ w.size) → v ≡ box_of m
unfolding box_of
size-box_of m (Some w) v k e = e ∙ k.size
size-box_of m None v k e = rw (sym (is_cut-self m) ∙ k) e

pub events-events_of : (m : Cut) (r : Option Walked) (v : ℕ) → Walks m m r → MatchOption r (v ≡ 0) (λ w. v ≡ w.events) → v ≡ events_of m
unfolding events_of
events-events_of m (Some w) v k e = e ∙ k.events
events-events_of m None v k e = rw (sym (is_cut-self m) ∙ k) e

-- the station of a step: none beyond n, none below 1, else at its place
pub no_station : (m c : Cut) (s : ℕ) → (1 ≤ s → s ≤ m.n → ⊥) → (is_cut m c && is_station m s) ≡ false
no_station m c s h = refuted (is_cut m c && is_station m s) (λ e. let d = (station_is m c s).0 e in h d.1 d.2)

pub placed : (m c : Cut) (s : ℕ) (r : Option ℕ) → is_cut m c ≡ true → s ≤ m.n → SomeIff r (1 ≤ s) (s - 1)
    → MatchOption r ((is_cut m c && is_station m s) ≡ false) (λ p. ((is_cut m c && is_station m s) ≡ true) × (p ≡ s - 1) × (p < 8))
placed m c s None e l k = no_station m c s (λ a b. k a)
placed m c s (Some p) e l (a, b) =
    let d = (is_cut-is m c).0 e in
    ((station_is m c s).1 (d, a, l), b, omega (arith, d.full.most_eight))

module _ (m c : Cut) (s : ℕ) where
  -- a step of no station of the recording, or of no cut
  pub forward_none : (is_cut m c && is_station m s) ≡ false → None ≡ forward_of m c s
  unfolding forward_of moved
  forward_none e = rw e refl

  pub back_none : (is_cut m c && is_station m s) ≡ false → None ≡ back_of m c s
  unfolding back_of moved
  back_none e = rw e refl

  module _ (p : ℕ) (h : ((is_cut m c && is_station m s) ≡ true) × (p ≡ s - 1) × (p < 8)) where
    -- .. of a station at the end, and of any other
    pub forward_last : at m.counts p ≤ at c.counts p → None ≡ forward_of m c s
    unfolding forward_of moved
    forward_last l = rw (h.0, ← h.1, le-ltb _ _ l) refl

    pub forward_next : at c.counts p < at m.counts p → Some (with_count c p (at c.counts p + 1)) ≡ forward_of m c s
    unfolding forward_of moved
    forward_next l = rw (h.0, ← h.1, lt-ltb _ _ l) refl

    pub back_last : (1 ≤ at c.counts p → ⊥) → None ≡ back_of m c s
    unfolding back_of moved
    back_last l = rw (h.0, ← h.1, le-ltb 0 (at c.counts p) (omega arith)) refl

    pub back_next : (x : ℕ) → (1 ≤ at c.counts p) × (x ≡ at c.counts p - 1) → Some (with_count c p x) ≡ back_of m c s
    unfolding back_of moved
    back_next x (l, e) = rw (h.0, e, ← h.1, lt-ltb 0 (at c.counts p) (omega arith)) refl

-- what a step comes to, for the check to choose from
pub ruleset forward_steps = (forward_none, forward_last, forward_next)

pub ruleset back_steps = (back_none, back_last, back_next)

pub rank_none : (m c : Cut) → is_cut m c ≡ false → None ≡ rank_of m c
unfolding rank_of
rank_none m c e = rw e refl
