-- Laws of the rows of station 1. In order: a list behind its front; a row of zeros; the digits of a rank; lists filled in part; the last cut of a row,
-- its other cuts and where it lies; the next row. Assumes nothing.
use mathlib.Core.Path.{◌≡◌, refl, sym, ap, ◌∙◌}
use mathlib.Core.List.{List, [], ◌∷◌, ◌++◌, append_assoc, append-nil}
use Prim.Native.Nat.{ℕ, zero, suc, ◌+◌, ◌-◌, ◌*◌, ◌/◌, ◌%◌, ◌≤◌, ◌<◌}
use native.Mathlib.Nat.{mul-div_cancel_left, not-suc-le-zero, le_of_suc-le-suc, zero-lt-suc, div-one, div-div-eq-div-mul, mul-add-mod_self_left, mul-add-div, mod-eq_of_lt, div-eq_of_lt, mul-le-mul_left, mod-lt, div-add-mod}
use native.Mathlib.Decide.{dec_lt}
use native.Mathlib.Numerals.{add-one}
use native.Mathlib.Omega.{arith}
use lib.ListN.{length, take, drop, set, replicate, take-append-drop, length-append, length-drop, length-set, length-replicate, get_or-replicate, replicate-append-replicate, get_or-eq_default}
use lib.Seq.{length-take-le, drop_at, drop-set-lt, drop-append-add, drop-drop, get_or-append-add, get_or-drop, set-get_or}
use Rattle.cuts.specs.Below.{tab}
use Rattle.cuts.specs.Cut.{at}
use Rattle.cuts.specs.Rank.{weight, unrank, box}
use Rattle.cut.specs.Value.{counts_of, FullCut}
use Rattle.cut.specs.declared.Cut.{Cut}
use Rattle.cuts.proofs.BelowLaws.{product_to-same, tab_same, length_tab, get_d-tab}
use Rattle.cuts.proofs.RankLaws.{weight_zero, weight_cons, box_cons}
use Rattle.cuts.proofs.TabLaws.{front_more, tab_more}
use Rattle.cut.proofs.ValueLaws.{at-counts_of, weight_more}
use Rattle.marks.specs.Rows.{cut_at, top_at, RowAt, BlankFrom}

-- the rest of a list whose first k are xs
pub drop_front : (xs d : List ℕ) (k n : ℕ) → length xs ≡ k → k ≤ n → drop n (xs ++ drop k d) ≡ drop n d
drop_front xs d k n e h =
    let a : n ≡ length xs + (n - k) = omega arith in
    let b : k + (n - k) ≡ n = omega arith in
    ap (λ (i : ℕ). drop i (xs ++ drop k d)) a ∙ drop-append-add xs (drop k d) (n - k) ∙ drop-drop (n - k) k d ∙ ap (λ (i : ℕ). drop i d) b

-- no zero yet
blank_none : (l : List ℕ) (first : ℕ) → l ≡ (take first l ++ replicate 0 0) ++ drop (first + 0) l
blank_none l first =
    let e : first + 0 ≡ first = omega arith in
    sym (rw (e, append-nil) (take-append-drop first l))

replicate_more : (k a : ℕ) → replicate (k + 1) a ≡ replicate k a ++ (a ∷ [])
replicate_more k a = sym (replicate-append-replicate k 1 a)

pub replicate_snoc : (k a : ℕ) → replicate (suc k) a ≡ replicate k a ++ (a ∷ [])
replicate_snoc k a = ap (λ (i : ℕ). replicate i a) (sym (add-one k)) ∙ replicate_more k a

-- one zero more
blank_more : (l : List ℕ) (first x : ℕ) → first + x < length l
    → set ((take first l ++ replicate x 0) ++ drop (first + x) l) (first + x) 0 ≡ (take first l ++ replicate (x + 1) 0) ++ drop (first + (x + 1)) l
blank_more l first x h =
    let e : first + x + 1 ≡ first + (x + 1) = omega arith in
    front_more (take first l ++ replicate x 0) l (first + x) 0 0
    (length-append (take first l) _ ∙ omega (arith, length-take-le first l (omega arith), length-replicate {A = ℕ} x 0))
    h
    ∙ rw (e, replicate_more x 0, ← append_assoc (take first l) (replicate x 0) (0 ∷ [])) refl

-- zeros that are there already
pub blank_there : (l : List ℕ) (first x : ℕ) → first + x ≤ length l → BlankFrom l first x → l ≡ (take first l ++ replicate x 0) ++ drop (first + x) l
blank_there l first zero h z = blank_none l first
blank_there l first (suc x) h z =
    let same : set l (first + x) 0 ≡ l = rw (← z x (omega arith)) (set-get_or l (first + x) 0) in
    let before = blank_there l first x (omega arith) (λ i k. z i (omega arith)) in
    sym same ∙ ap (λ (d : List ℕ). set d (first + x) 0) before ∙ blank_more l first x (omega arith) ∙ rw (add-one x) refl

-- the zeros of a box, behind the marks xs of its first ranks
pub blank_rest : (xs : List ℕ) (size first width : ℕ) → length xs ≡ first → first + width ≤ size → BlankFrom (xs ++ drop first (replicate size 0)) first width
blank_rest xs size first width e h x l =
    ap (λ (k : ℕ). at (xs ++ drop first (replicate size 0)) (k + x)) (sym e)
    ∙ get_or-append-add xs (drop first (replicate size 0)) x 0
    ∙ get_or-drop first (replicate size 0) x 0
    ∙ get_or-replicate size (first + x) 0 0 (omega arith)

pub length_unrank : (m : List ℕ) (r : ℕ) → length (unrank m r) ≡ length m
unfolding unrank
length_unrank [] r = refl
length_unrank (k ∷ m) r = ap suc (length_unrank m (r / suc k))

-- a digit of a rank
pub at_unrank : (m : List ℕ) (r i : ℕ) → i < length m → at (unrank m r) i ≡ (r / weight m i) % suc (at m i)
unfolding unrank
at_unrank [] r i h = absurd (not-suc-le-zero h)
at_unrank (k ∷ m) r zero h = rw (weight_zero, div-one) refl
at_unrank (k ∷ m) r (suc i) h = at_unrank m (r / suc k) i (le_of_suc-le-suc h) ∙ rw (weight_cons, div-div-eq-div-mul) refl

-- counts of the last cut of row j, as far as they come by division
unfoldable pub digit_at : List ℕ → ℕ → ℕ → ℕ
digit_at events j zero = at events 0
digit_at events j (suc i) = (j / weight (drop 1 events) i) % suc (at (drop 1 events) i)

at_drop_one : (l : List ℕ) (i : ℕ) → at (drop 1 l) i ≡ at l (suc i)
at_drop_one [] i = refl
at_drop_one (x ∷ l) i = refl

digit_at-more : (events : List ℕ) (j i : ℕ) → digit_at events j (i + 1) ≡ (j / weight (drop 1 events) i) % (at events (i + 1) + 1)
unfolding digit_at
digit_at-more events j i = rw (add-one i, add-one (at events (suc i)), at_drop_one) refl

-- the first of them
pub top_one : (events counts : List ℕ) (j : ℕ) → 0 < length counts → set counts 0 (at events 0) ≡ tab 1 (digit_at events j) ++ drop 1 (set counts 0 (at events 0))
unfolding tab digit_at
top_one events [] j h = absurd (not-suc-le-zero h)
top_one events (x ∷ counts) j h = refl

pub weight_next : (l : List ℕ) (p w k : ℕ) → w ≡ weight l p → k ≡ at l p → w * (k + 1) ≡ weight l (p + 1)
weight_next l p w k e f = rw (e, f, weight_more) refl

-- what remains of j after one digit more
digits_left : (events : List ℕ) (j i : ℕ) → j / weight (drop 1 events) i / (at events (i + 1) + 1) ≡ j / weight (drop 1 events) (i + 1)
digits_left events j i =
    div-div-eq-div-mul j (weight (drop 1 events) i) (at events (i + 1) + 1)
    ∙ ap (λ (w : ℕ). j / w)
    (weight_next (drop 1 events) i _ (at events (i + 1)) refl (sym (at_drop_one events i ∙ ap (at events) (sym (add-one i)))))

-- one count more of the last cut of row j, of the eight
pub top_more : (events room counts : List ℕ) (j i left w : ℕ) → length room ≡ 8 → i + 1 < 8 → left ≡ j / weight (drop 1 events) i → w ≡ at events (i + 1)
    → counts ≡ tab (i + 1) (digit_at events j) ++ drop (i + 1) room
    → (left / (w + 1) ≡ j / weight (drop 1 events) (i + 1))
    × (set counts (i + 1) (left % (w + 1)) ≡ tab (i + 1 + 1) (digit_at events j) ++ drop (i + 1 + 1) room)
top_more events room counts j i left w eight l e f laid = (
  rw (e, f) (digits_left events j i),
  rw (e, f, ← digit_at-more events j i, laid) (tab_more (i + 1) (digit_at events j) room (omega arith)),
)

-- .. at place p, behind place i
pub top_next : (events room counts : List ℕ) (j i p left w : ℕ) → p ≡ i + 1 → length room ≡ 8 → p < 8 → left ≡ j / weight (drop 1 events) i → w ≡ at events p
    → counts ≡ tab p (digit_at events j) ++ drop p room
    → (left / (w + 1) ≡ j / weight (drop 1 events) (p + 1 - 1)) × (set counts p (left % (w + 1)) ≡ tab (p + 1) (digit_at events j) ++ drop (p + 1) room)
top_next events room counts j i p left w behind eight l e f laid =
    let d : p + 1 - 1 ≡ i + 1 = omega arith in
    rw (d, behind) (top_more events room counts j i left w eight (omega arith) e (rw behind at f) (rw behind at laid))

drop_replicate : (n k a : ℕ) → drop n (replicate k a) ≡ replicate (k - n) a
drop_replicate zero k a =
    let e : k - 0 ≡ k = omega arith in
    rw e refl
drop_replicate (suc n) zero a =
    let e : 0 - suc n ≡ 0 = omega arith in
    rw e refl
drop_replicate (suc n) (suc k) a =
    let e : suc k - suc n ≡ k - n = omega arith in
    rw e (drop_replicate n k a)

tab_more_zeros : (n k : ℕ) (f : ℕ → ℕ) → ((q : ℕ) → n ≤ q → f q ≡ 0) → tab n f ++ replicate k 0 ≡ tab (n + k) f
unfolding tab
tab_more_zeros n zero f h =
    let e : n + 0 ≡ n = omega arith in
    rw e (append-nil (tab n f))
tab_more_zeros n (suc k) f h =
    let e : n + suc k ≡ suc (n + k) = omega arith in
    ap (λ (l : List ℕ). tab n f ++ l) (replicate_snoc k 0)
    ∙ sym (append_assoc (tab n f) (replicate k 0) (0 ∷ []))
    ∙ ap (λ (l : List ℕ). l ++ (0 ∷ [])) (tab_more_zeros n k f h)
    ∙ rw (e, h (n + k) (omega arith)) refl

-- a list filled as far as f is not 0 is filled
pub tab_zeros : (n k : ℕ) (f : ℕ → ℕ) → n ≤ k → ((q : ℕ) → n ≤ q → f q ≡ 0) → tab n f ++ drop n (replicate k 0) ≡ tab k f
tab_zeros n k f l h =
    let e : n + (k - n) ≡ k = omega arith in
    rw (drop_replicate n k 0, tab_more_zeros n (k - n) f h, e) refl

cons_of : (l : List ℕ) → 0 < length l → l ≡ at l 0 ∷ drop 1 l
cons_of [] h = absurd (not-suc-le-zero h)
cons_of (x ∷ l) h = refl

pub unrank_cons : (k : ℕ) (m : List ℕ) (j x : ℕ) → x ≤ k → unrank (k ∷ m) (suc k * j + x) ≡ x ∷ unrank m j
unfolding unrank
unrank_cons k m j x h =
    let l : x < suc k = omega arith in
    let a : (suc k * j + x) % suc k ≡ x = mul-add-mod_self_left (suc k) j x ∙ mod-eq_of_lt l in
    let b : (suc k * j + x) / suc k ≡ j = mul-add-div (zero-lt-suc k) j x ∙ omega (arith, div-eq_of_lt l) in
    rw (a, b) refl

-- a row that begins below the box lies in it
whole_row : (k j b : ℕ) → suc k * j < suc k * b → suc k * j + suc k ≤ suc k * b
whole_row k j b h = go (dec_lt j b)
  where
    go : Dec (j < b) → suc k * j + suc k ≤ suc k * b
    go (yes l) = omega (arith, mul-le-mul_left (suc k) l)
    go (no l) = let g : b ≤ j = omega arith in absurd (omega (arith, mul-le-mul_left (suc k) g))

module _ (m : Cut) (full : FullCut m) (eight : length m.counts ≡ 8) where
  pub length-counts_of : length (counts_of m) ≡ m.n
  length-counts_of = length-take-le m.n m.counts (omega (arith, full.most_eight))

  -- the stations but the first
  length_others : suc (length (drop 1 (counts_of m))) ≡ m.n
  length_others = omega (arith, length-drop 1 (counts_of m), length-counts_of, full.some_station)

  at_others : (i : ℕ) → suc i < m.n → at (drop 1 (counts_of m)) i ≡ at (drop 1 m.counts) i
  at_others i h = at_drop_one (counts_of m) i ∙ at-counts_of m (suc i) h ∙ sym (at_drop_one m.counts i)

  weight_others : (i : ℕ) → i < m.n → weight (drop 1 (counts_of m)) i ≡ weight (drop 1 m.counts) i
  unfolding weight
  weight_others i h = product_to-same i _ _ (λ q l. ap suc (at_others q (omega arith)))

  -- the digits of j are the counts of the last cut of row j
  pub top_at-digits : (j : ℕ) → tab m.n (digit_at m.counts j) ++ drop m.n (replicate 8 0) ≡ top_at m j
  unfolding digit_at top_at
  top_at-digits j =
      ap (λ (l : List ℕ). l ++ drop m.n (replicate 8 0)) (tab_same m.n _ g same)
      ∙ tab_zeros m.n 8 g full.most_eight (λ q h. get_or-eq_default (k ∷ u) 0 {n = q} (omega (arith, length_others, length_unrank (drop 1 (counts_of m)) j)))
    where
      k : ℕ
      k = at m.counts 0

      u : List ℕ
      u = unrank (drop 1 (counts_of m)) j

      g : ℕ → ℕ
      g = at (k ∷ u)

      same : (q : ℕ) → q < m.n → digit_at m.counts j q ≡ g q
      same zero h = refl
      same (suc i) h = sym (at_unrank (drop 1 (counts_of m)) j i (omega (arith, length_others)) ∙ rw (at_others i h, weight_others i (omega arith)) refl)

  -- .. over counts that are 0 beyond n
  pub top_at-laid : (counts : List ℕ) (j v : ℕ) → drop m.n counts ≡ drop m.n (replicate 8 0)
      → tab m.n (digit_at m.counts j) ++ drop m.n (set counts 0 v) ≡ top_at m j
  top_at-laid counts j v h = rw (drop-set-lt m.n counts 0 v full.some_station, h) (top_at-digits j)

  pub drop-top_at : (j : ℕ) → drop m.n (top_at m j) ≡ drop m.n (replicate 8 0)
  drop-top_at j = rw (← top_at-digits j) (drop_at (tab m.n (digit_at m.counts j)) _ m.n (length_tab m.n _))

  -- the counts of a row, whatever their first is, are eight, and 0 beyond n
  pub top_at-kept : (top c : List ℕ) (j x : ℕ) → top ≡ top_at m j → c ≡ set top 0 x → (length c ≡ 8) × (drop m.n c ≡ drop m.n (replicate 8 0))
  unfolding top_at
  top_at-kept top c j x e f =
      rw (f, e) (simp length-set (length_tab 8 _), drop-set-lt m.n _ 0 x full.some_station ∙ drop-top_at j)

  -- station 1 and the others
  counts_of-cons : counts_of m ≡ at m.counts 0 ∷ drop 1 (counts_of m)
  counts_of-cons = cons_of (counts_of m) (omega (arith, length-counts_of, full.some_station)) ∙ rw (at-counts_of m 0 full.some_station) refl

  -- the cut of row j with x events of station 1
  pub set-top_at : (j x : ℕ) → x ≤ at m.counts 0 → set (top_at m j) 0 x ≡ cut_at m (suc (at m.counts 0) * j + x)
  unfolding top_at cut_at tab
  set-top_at j x h = sym (ap (λ (c : List ℕ). tab 8 (at c)) (ap (λ (k : List ℕ). unrank k (suc (at m.counts 0) * j + x)) counts_of-cons ∙ unrank_cons (at m.counts 0) (drop 1 (counts_of m)) j x h))

  -- the cut of a rank
  pub set-top_at-rank : (r k : ℕ) → k ≡ at m.counts 0 → set (top_at m (r / (k + 1))) 0 (r % (k + 1)) ≡ cut_at m r
  set-top_at-rank r k e =
      let s : k + 1 ≡ suc (at m.counts 0) = omega arith in
      rw s (set-top_at (r / suc (at m.counts 0)) (r % suc (at m.counts 0)) (le_of_suc-le-suc (mod-lt r (zero-lt-suc (at m.counts 0)))) ∙ ap (cut_at m) (div-add-mod r (suc (at m.counts 0))))

  -- row j, where its first rank is below the box
  pub row_at-is : (j : ℕ) → suc (at m.counts 0) * j < box (counts_of m) → RowAt m (top_at m j) (suc (at m.counts 0) * j)
  unfolding top_at
  row_at-is j h = record {
    eight = length_tab 8 _;
    last = get_d-tab 8 (at (at m.counts 0 ∷ unrank (drop 1 (counts_of m)) j)) 0 0 (omega arith);
    cuts = set-top_at j;
    within = omega (arith, size, whole_row (at m.counts 0) j (box (drop 1 (counts_of m))) (omega (arith, size)));
  }
    where
      size : box (counts_of m) ≡ suc (at m.counts 0) * box (drop 1 (counts_of m))
      size = ap box counts_of-cons ∙ box_cons (at m.counts 0) (drop 1 (counts_of m))

  -- the row that begins at rank r, for w events of station 1
  pub row_at-here : (w j r : ℕ) → w ≡ at m.counts 0 → r ≡ (w + 1) * j → r < box (counts_of m) → RowAt m (top_at m j) r
  row_at-here w j r e f h =
      let s : r ≡ suc (at m.counts 0) * j = f ∙ ap (λ (k : ℕ). k * j) (omega arith) in
      rw s (row_at-is j (rw s at h))

  -- the box is whole rows
  pub rows_whole : box (counts_of m) / (at m.counts 0 + 1) * (at m.counts 0 + 1) ≡ box (counts_of m)
  rows_whole =
      let k = at m.counts 0 in
      let b = box (drop 1 (counts_of m)) in
      let size : box (counts_of m) ≡ (k + 1) * b = ap box counts_of-cons ∙ box_cons k (drop 1 (counts_of m)) ∙ omega arith in
      let rows : (k + 1) * b / (k + 1) ≡ b = mul-div_cancel_left b (omega arith) in
      rw (size, rows) (omega arith)

-- a row of k + 1 ranks whose number is below that of the whole rows lies in the box
pub rows_inside : (j k size : ℕ) → j < size / (k + 1) → j * (k + 1) + (k + 1) ≤ size
rows_inside j k size h = omega (arith, mul-le-mul_left (k + 1) h, div-add-mod size (k + 1))
