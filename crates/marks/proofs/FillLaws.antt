-- The marks that the code works out row by row are those of the lattice. In order: rows met at two cuts of a row; the lattice's tests at a cut of a row;
-- a step back from it; the marks after a row; what a row is filled from is there. Assumes nothing.
use mathlib.Core.Path.{◌≡◌, refl, sym, ap, ◌∙◌, subst}
use mathlib.Core.Bool.{Bool, true, false, ◌&&◌, ◌||◌, cond, false≢true}
use mathlib.Core.List.{List, [], ◌∷◌, ◌++◌}
use Rattle.std.specs.Prelude.{Some, None}
use Prim.Native.Nat.{ℕ, zero, suc, ◌+◌, ◌-◌, ◌*◌, ◌≤◌, ◌<◌}
use native.Mathlib.Nat.{zero-mod, zero-div}
use native.Mathlib.Numerals.{add-one}
use native.Mathlib.Omega.{arith}
use lib.Dec.{leb, ltb, eqb}
use lib.ListN.{length, take, drop, set, replicate}
use lib.Seq.{get_or-set_same, get_or-set_other, get_or-take, set-get_or, ext_get_or, length-take-le, take_at}
use borrow.Author.Tests.{leb-true, le-leb, lt-leb, lt-ltb, ltb-true, ltb-false, eqb-true, eq-eqb}
use Rattle.cuts.specs.Below.{every, any, sum_to, tab}
use Rattle.cuts.specs.Cut.{at, zeros, back, total, Within}
use Rattle.cuts.specs.Rank.{rank, unrank, box}
use Rattle.cuts.specs.Computed.{number, leads, met, mark_of, tabled}
use Rattle.cut.specs.Value.{counts_of, FullCut}
use Rattle.cut.specs.declared.Cut.{Cut}
use Rattle.cuts.proofs.BelowLaws.{and_false, every_same, every_true, true_every, sum_to-same, length_tab, get_d-tab}
use Rattle.cuts.proofs.CutLaws.{zeros_of, within_at}
use Rattle.cuts.proofs.RankLaws.{unrank_within, rank_unrank, rank_zeros}
use Rattle.cuts.proofs.TabledRight.{length_tabled}
use Rattle.cut.proofs.ValueLaws.{at-counts_of}
use Rattle.cuts.proofs.ReplyLaws.{refuted}
use Rattle.marks.specs.declared.Task.{Task}
use Rattle.marks.specs.declared.frame.Others.{Others}
use Rattle.marks.specs.Flat.{row_met, between, flat_consistent, flat_holds}
use Rattle.marks.specs.Rows.{cut_at, strides_of, leads_back, StepsBack, others_met, others_need, others_add, others_of, asked, lattice_of, marks_to, RowsThere, Ready, RowAt, cut_mark, row_marks, BlankFrom}
use Rattle.marks.proofs.SearchLaws.{tests_same, every_split, sum_to-split, any_same, leb-most_to}
use Rattle.marks.proofs.RowLaws.{length_unrank, length-counts_of, drop_front, blank_rest}
use Rattle.marks.proofs.BackLaws.{steps_back, leads_same}

-- of two cuts of a row, with x and with all events of station 1
module _ (n : ℕ) (some : 1 ≤ n) (needs top : List ℕ) (long : 0 < length top) (x : ℕ) where
  at_other : (i : ℕ) → at (set top 0 x) (suc i) ≡ at top (suc i)
  at_other i = get_or-set_other top 0 (suc i) x 0 (λ z. omega arith)

  -- a row met by the last cut is met by one with x exactly if it needs no more than x of station 1
  pub row_met-set : (from : ℕ) → row_met n needs from top ≡ true → row_met n needs from (set top 0 x) ≡ leb (at needs from) x
  unfolding row_met
  row_met-set from t = tests_same _ _ reads tests
    where
      e : from + 0 ≡ from
      e = omega arith

      reads : every n (λ q. leb (at needs (from + q)) (at (set top 0 x) q)) ≡ true → leb (at needs from) x ≡ true
      reads h = rw (e, get_or-set_same top 0 x 0 long) at (every_true n (λ q. leb (at needs (from + q)) (at (set top 0 x) q)) h 0 some)

      tests : leb (at needs from) x ≡ true → every n (λ q. leb (at needs (from + q)) (at (set top 0 x) q)) ≡ true
      tests h = true_every n _ at_q
        where
          at_q : (q : ℕ) → q < n → leb (at needs (from + q)) (at (set top 0 x) q) ≡ true
          at_q zero l = rw (e, get_or-set_same top 0 x 0 long) h
          at_q (suc q) l = rw (at_other q) (every_true n (λ q. leb (at needs (from + q)) (at top q)) t (suc q) l)

  -- a row met by one with x is met by the last
  pub row_met-unset : (from : ℕ) → x ≤ at top 0 → row_met n needs from (set top 0 x) ≡ true → row_met n needs from top ≡ true
  unfolding row_met
  row_met-unset from h t = true_every n _ at_q
    where
      met_q : (q : ℕ) → q < n → at needs (from + q) ≤ at (set top 0 x) q
      met_q q l = leb-true _ _ (every_true n (λ q. leb (at needs (from + q)) (at (set top 0 x) q)) t q l)

      at_q : (q : ℕ) → q < n → leb (at needs (from + q)) (at top q) ≡ true
      at_q zero l = le-leb (at needs (from + 0)) (at top 0) (omega (arith, met_q 0 l, get_or-set_same top 0 x 0 long))
      at_q (suc q) l = le-leb (at needs (from + suc q)) (at top (suc q)) (omega (arith, met_q (suc q) l, at_other q))

  at_other_one : (i : ℕ) → at (set top 0 x) (i + 1) ≡ at top (i + 1)
  at_other_one i = rw (add-one i) (at_other i)

  module _ (bases : List ℕ) where
    -- the others are met exactly if x is what they need
    pub others_met-set : others_met n bases needs top ≡ true → others_met n bases needs (set top 0 x) ≡ leb (others_need n bases needs top) x
    unfolding others_met others_need
    others_met-set t = every_same (n - 1) _ _ same ∙ sym (leb-most_to (n - 1) _ x)
      where
        same : (i : ℕ) → i < n - 1
            → row_met n needs (8 * (at bases (i + 1) + at (set top 0 x) (i + 1))) (set top 0 x) ≡ leb (at needs (8 * (at bases (i + 1) + at top (i + 1)))) x
        same i l =
            rw (at_other_one i)
            (row_met-set _ (every_true (n - 1) (λ i. row_met n needs (8 * (at bases (i + 1) + at top (i + 1))) top) t i l))

    -- where the last cut does not meet them, none does
    pub others_met-none : x ≤ at top 0 → others_met n bases needs top ≡ false → others_met n bases needs (set top 0 x) ≡ false
    unfolding others_met
    others_met-none h t = refuted _ no
      where
        no : every (n - 1) (λ i. row_met n needs (8 * (at bases (i + 1) + at (set top 0 x) (i + 1))) (set top 0 x)) ≡ true → ⊥
        no e =
            false≢true
            (sym t
            ∙ true_every (n - 1) _
            (λ i l. row_met-unset _ h (rw (at_other_one i) at (every_true (n - 1) (λ i. row_met n needs (8 * (at bases (i + 1) + at (set top 0 x) (i + 1))) (set top 0 x)) e i l))))

    others_add-set : (weights : List ℕ) → others_add n bases weights (set top 0 x) ≡ others_add n bases weights top
    unfolding others_add
    others_add-set weights = sum_to-same (n - 1) _ _ (λ i l. rw (at_other_one i) refl)

total_start : (m : List ℕ) → total (unrank m 0) ≡ 0
unfolding unrank
total_start [] = refl
total_start (k ∷ m) = rw (zero-mod, zero-div, total_start m) refl

-- the start is the cut of rank 0, and no other is
total_unrank : (m : List ℕ) (r : ℕ) → r < box m → eqb (total (unrank m r)) 0 ≡ eqb r 0
total_unrank m r h = tests_same _ _ (λ e. eq-eqb r 0 (reads (eqb-true _ _ e))) (λ e. eq-eqb (total (unrank m r)) 0 (rw (eqb-true r 0 e) (total_start m)))
  where
    reads : total (unrank m r) ≡ 0 → r ≡ 0
    reads e =
        sym (rank_unrank m r h)
        ∙ ap (rank m) (zeros_of (unrank m r) e ∙ ap zeros (length_unrank m r))
        ∙ rank_zeros m

module _ (m : Cut) (bases : List ℕ) (least most : ℕ) (needs weights c d : List ℕ) (same : (p : ℕ) → p < m.n → at c p ≡ at d p) where
  flat_consistent-same : flat_consistent m bases least most needs weights c ≡ flat_consistent m bases least most needs weights d
  unfolding flat_consistent row_met
  flat_consistent-same = every_same m.n _ _ (λ p l. every_same m.n _ _ (λ q k. rw (same p l, same q k) refl))

  flat_holds-same : flat_holds m bases least most needs weights c ≡ flat_holds m bases least most needs weights d
  unfolding flat_holds
  flat_holds-same = ap (between least most) (sum_to-same m.n _ _ (λ p l. rw (same p l) refl))

-- the n counts of a rank among the eight
pub take-cut_at : (m : Cut) → FullCut m → length m.counts ≡ 8 → (r : ℕ) → take m.n (cut_at m r) ≡ unrank (counts_of m) r
unfolding cut_at
take-cut_at m full eight r =
    let a : length (take m.n (tab 8 (at (unrank (counts_of m) r)))) ≡ m.n = length-take-le m.n _ (omega (arith, length_tab 8 (at (unrank (counts_of m) r)), full.most_eight)) in
    let b : length (unrank (counts_of m) r) ≡ m.n = length_unrank (counts_of m) r ∙ length-counts_of m full eight in
    ext_get_or 0 _ _ (a ∙ sym b)
    (λ i l. get_or-take m.n (tab 8 (at (unrank (counts_of m) r))) i 0 (omega arith) ∙ get_d-tab 8 (at (unrank (counts_of m) r)) 0 i (omega (arith, full.most_eight)))

-- a cut with fewer events of station 1 than the others ask for is marked 0
number_low : (a b c : Bool) (low x : ℕ) → number (a && leb low x) b c ≡ cond (ltb x low) 0 (number a b c)
number_low a b c low x = go (ltb x low) refl
  where
    met : (a : Bool) → number (a && true) b c ≡ number a b c
    met true = refl
    met false = refl

    go : (t : Bool) → ltb x low ≡ t → number (a && leb low x) b c ≡ cond t 0 (number a b c)
    go true t = rw (lt-leb low x (ltb-true x low t), and_false a) refl
    go false t = rw (le-leb low x (ltb-false x low t)) (met a)

-- a step back is looked for where there is an event only
leads_cond : (c : List ℕ) (g : ℕ → ℕ) (p : ℕ) → leads c (λ q. cond (ltb 0 (at c q)) (g q) 0) p ≡ leads c g p
leads_cond c g p = go (ltb 0 (at c p))
  where
    go : (b : Bool) → (b && eqb (cond b (g p) 0) 3) ≡ (b && eqb (g p) 3)
    go true = refl
    go false = refl

module _ (m : Cut) (full : FullCut m) (eight : length m.counts ≡ 8) (top : List ℕ) (first : ℕ) (at_row : RowAt m top first) where
  -- the cut of the row with x events of station 1
  module _ (x : ℕ) (h : x ≤ at m.counts 0) where
    abbrev r : ℕ
    r = first + x

    rank_there : r < box (counts_of m)
    rank_there = omega (arith, at_row.within)

    pub take_row : take m.n (set top 0 x) ≡ unrank (counts_of m) r
    take_row = rw (at_row.cuts x h) (take-cut_at m full eight r)

    pub within_row : Within (counts_of m) (take m.n (set top 0 x))
    within_row = rw take_row (unrank_within (counts_of m) r rank_there)

    pub rank_row : rank (counts_of m) (take m.n (set top 0 x)) ≡ r
    rank_row = rw take_row (rank_unrank (counts_of m) r rank_there)

    at_row_cut : (p : ℕ) → p < m.n → at (unrank (counts_of m) r) p ≡ at (set top 0 x) p
    at_row_cut p l = rw (← take_row) (get_or-take m.n (set top 0 x) p 0 l)

    first_count : at (set top 0 x) 0 ≡ x
    first_count = get_or-set_same top 0 x 0 (omega (arith, at_row.eight))

    module _ (bases : List ℕ) (least most : ℕ) (needs weights : List ℕ) where
      split_row : flat_consistent m bases least most needs weights (unrank (counts_of m) r)
          ≡ (row_met m.n needs (8 * (at bases 0 + x)) (set top 0 x) && others_met m.n bases needs (set top 0 x))
      unfolding flat_consistent others_met
      split_row =
          flat_consistent-same m bases least most needs weights (unrank (counts_of m) r) (set top 0 x) at_row_cut
          ∙ every_split m.n (λ p. row_met m.n needs (8 * (at bases p + at (set top 0 x) p)) (set top 0 x)) full.some_station
          ∙ rw first_count refl

      -- where the others are met by the last cut of the row
      pub consistent_row : others_met m.n bases needs top ≡ true
          → flat_consistent m bases least most needs weights (unrank (counts_of m) r)
          ≡ (row_met m.n needs (8 * (at bases 0 + x)) (set top 0 x) && leb (others_need m.n bases needs top) x)
      consistent_row t = split_row ∙ rw (others_met-set m.n full.some_station needs top (omega (arith, at_row.eight)) x bases t) refl

      -- where they are not
      pub inconsistent_row : others_met m.n bases needs top ≡ false → flat_consistent m bases least most needs weights (unrank (counts_of m) r) ≡ false
      inconsistent_row t =
          split_row
          ∙ rw (others_met-none m.n full.some_station needs top (omega (arith, at_row.eight)) x bases (omega (arith, at_row.last)) t)
          (and_false (row_met m.n needs (8 * (at bases 0 + x)) (set top 0 x)))

      sum_row : sum_to m.n (λ p. at weights (at bases p + at (set top 0 x) p)) ≡ others_add m.n bases weights top + at weights (at bases 0 + x)
      unfolding others_add
      sum_row =
          let a = sum_to-split m.n (λ p. at weights (at bases p + at (set top 0 x) p)) full.some_station in
          let b = others_add-set m.n full.some_station needs top (omega (arith, at_row.eight)) x bases weights in
          a ∙ rw (first_count, b) (omega arith)

      pub holds_row : flat_holds m bases least most needs weights (unrank (counts_of m) r)
          ≡ between least most (others_add m.n bases weights top + at weights (at bases 0 + x))
      unfolding flat_holds
      holds_row =
          flat_holds-same m bases least most needs weights (unrank (counts_of m) r) (set top 0 x) at_row_cut
          ∙ ap (between least most) sum_row

    pub met_row : (l : List ℕ)
        → met (length (counts_of m)) (unrank (counts_of m) r) (λ p. cond (ltb 0 (at (unrank (counts_of m) r) p)) (at l (rank (counts_of m) (back p (unrank (counts_of m) r)))) 0)
        ≡ (eqb r 0 || any (leads_back l (set top 0 x) (strides_of m) r) m.n)
    unfolding met
    met_row l = rw (length-counts_of m full eight, total_unrank (counts_of m) r rank_there) (ap (λ (b : Bool). eqb r 0 || b) (any_same _ _ m.n same))
      where
        c : List ℕ
        c = unrank (counts_of m) r

        g : ℕ → ℕ
        g q = at l (rank (counts_of m) (back q c))

        same : (p : ℕ) → p < m.n → leads c (λ q. cond (ltb 0 (at c q)) (g q) 0) p ≡ leads_back l (set top 0 x) (strides_of m) r p
        same p k =
            leads_cond c g p
            ∙ subst
            (λ (d : List ℕ). leads d (λ q. at l (rank (counts_of m) (back q d))) p ≡ leads_back l (set top 0 x) (strides_of m) r p)
            take_row
            (leads_same m full eight (set top 0 x) within_row l p k ∙ rw rank_row refl)

module _ (task : Task) where
  abbrev m : Cut
  m = task.full

  abbrev needs : List ℕ
  needs = task.needs.now

  abbrev weights : List ℕ
  weights = task.weights.now

  pub length-marks_to : (r : ℕ) → length (marks_to task r) ≡ r
  unfolding marks_to
  length-marks_to r = length_tabled (mark_of (lattice_of task)) (counts_of m) r

  -- the rows that are still to be filled are blank
  pub blank_behind : (size first width : ℕ) → first + width ≤ size → BlankFrom (marks_to task first ++ drop first (replicate size 0)) first width
  blank_behind size first width h = blank_rest (marks_to task first) size first width (length-marks_to first) h

  -- the mark of rank r, from the marks l of the ranks below
  abbrev next_mark : ℕ → List ℕ → ℕ
  next_mark r l =
      mark_of (lattice_of task) (unrank (counts_of m) r)
      (λ p. cond (ltb 0 (at (unrank (counts_of m) r) p)) (at l (rank (counts_of m) (back p (unrank (counts_of m) r)))) 0)

  marks_to-more : (r : ℕ) → marks_to task (suc r) ≡ marks_to task r ++ (next_mark r (marks_to task r) ∷ [])
  unfolding marks_to tabled
  marks_to-more r = refl

  module _ (full : FullCut m) (eight : length m.counts ≡ 8) (top : List ℕ) (first : ℕ) (at_row : RowAt m top first) (few : at m.counts 0 < 65536) where
    -- the mark of a cut of the row
    row_mark-is : (x : ℕ) → x ≤ at m.counts 0 → (l : List ℕ)
        → cond (ltb x (asked (others_of task top)).low) 0 (cut_mark task (asked (others_of task top)).sum l (set top 0 x) x (first + x))
        ≡ next_mark (first + x) l
    unfolding others_of cut_mark mark_of
    row_mark-is x h l = go (others_met m.n task.bases needs top) refl
      where
        need : ℕ
        need = others_need m.n task.bases needs top

        add : ℕ
        add = others_add m.n task.bases weights top

        of : Bool → Others
        of b = asked (cond b (Some (record { low = need; sum = add })) None)

        go : (b : Bool) → others_met m.n task.bases needs top ≡ b
            → cond (ltb x (of b).low) 0
            (number (row_met m.n needs (8 * (at task.bases 0 + x)) (set top 0 x))
            (between task.least task.most ((of b).sum + at weights (at task.bases 0 + x)))
            (eqb (first + x) 0 || any (leads_back l (set top 0 x) (strides_of m) (first + x)) m.n))
            ≡ next_mark (first + x) l
        go true t =
            sym
            (rw (
              consistent_row m full eight top first at_row x h task.bases task.least task.most needs weights t,
              holds_row m full eight top first at_row x h task.bases task.least task.most needs weights,
              met_row m full eight top first at_row x h l,
            )
            (number_low
            (row_met m.n needs (8 * (at task.bases 0 + x)) (set top 0 x))
            (between task.least task.most (add + at weights (at task.bases 0 + x)))
            (eqb (first + x) 0 || any (leads_back l (set top 0 x) (strides_of m) (first + x)) m.n)
            need x))
        go false t =
            rw (
              lt-ltb x 65536 (omega arith),
              inconsistent_row m full eight top first at_row x h task.bases task.least task.most needs weights t,
            )
            refl

    -- the marks after x cuts of a row
    pub row_marks-is : (x : ℕ) → x ≤ suc (at m.counts 0)
        → row_marks task (asked (others_of task top)) top first (marks_to task first) x ≡ marks_to task (first + x)
    unfolding row_marks
    row_marks-is zero h =
        let e : first + 0 ≡ first = omega arith in
        rw e refl
    row_marks-is (suc x) h =
        let e : first + suc x ≡ suc (first + x) = omega arith in
        rw (e, marks_to-more (first + x), row_marks-is x (omega arith), row_mark-is x (omega arith) (marks_to task (first + x))) refl

module _ (task : Task) (ready : Ready task) (top : List ℕ) (first : ℕ) (at_row : RowAt task.full top first) where
  -- no count of the row is above its station's events
  top_under : (p : ℕ) → p < task.full.n → at top p ≤ at task.full.counts p
  top_under p l =
      let k = at task.full.counts 0 in
      let same : set top 0 k ≡ top = rw (← at_row.last) (set-get_or top 0 0) in
      let w = within_at (counts_of task.full) (take task.full.n (set top 0 k)) (within_row task.full ready.full ready.rows.eight top first at_row k (omega arith)) p in
      omega (arith, rw (same, get_or-take task.full.n top p 0 l, at-counts_of task.full p l) at w)

  -- the tables have the rows of its last cut
  pub rows_there : RowsThere task.full.n task.bases task.needs.now task.weights.now top
  rows_there = record {
    some = ready.rows.some;
    most = ready.rows.most;
    starts = ready.rows.starts;
    eight = at_row.eight;
    needed = λ p l. omega (arith, ready.rows.needed p l, top_under p l);
    weighed = λ p l. omega (arith, ready.rows.weighed p l, top_under p l);
  }

  -- a row is short, and lies within the box
  pub row_short : at task.full.counts 0 + 1 ≤ 65536
  row_short = omega (arith, at_row.within, ready.limit)

  pub row_inside : first + (at task.full.counts 0 + 1) ≤ box (counts_of task.full)
  row_inside = omega (arith, at_row.within)

  -- no step back from its cut with x events of station 1 leaves the box
  pub row_steps : (x : ℕ) → x ≤ at task.full.counts 0 → StepsBack task.full.n (set top 0 x) (strides_of task.full) (first + x)
  row_steps x k =
      rw (← rank_row task.full ready.full ready.rows.eight top first at_row x k)
      (steps_back task.full ready.full ready.rows.eight (set top 0 x) (within_row task.full ready.full ready.rows.eight top first at_row x k))

  -- the marks after one row more
  pub row_marked : (size : ℕ) (marks marks' : List ℕ) → marks ≡ marks_to task first ++ drop first (replicate size 0)
      → marks' ≡ row_marks task (asked (others_of task top)) top first (take first marks) (at task.full.counts 0 + 1) ++ drop (first + (at task.full.counts 0 + 1)) marks
      → marks' ≡ marks_to task (first + (at task.full.counts 0 + 1)) ++ drop (first + (at task.full.counts 0 + 1)) (replicate size 0)
  row_marked size marks marks' before after =
      let width : ℕ = at task.full.counts 0 + 1 in
      let front : take first marks ≡ marks_to task first = rw before (take_at _ _ _ (length-marks_to task first)) in
      let rest : drop (first + width) marks ≡ drop (first + width) (replicate size 0) =
      rw before (drop_front (marks_to task first) (replicate size 0) first (first + width) (length-marks_to task first) (omega arith)) in
      after
      ∙ rw (front, rest)
      (ap (λ (l : List ℕ). l ++ drop (first + (at task.full.counts 0 + 1)) (replicate size 0))
      (row_marks-is task ready.full ready.rows.eight top first at_row (omega (arith, at_row.within, ready.limit)) (at task.full.counts 0 + 1) (omega arith)))
