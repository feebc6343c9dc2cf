-- Laws of steps back on eight counts. In order: the strides; a step back in rank; the searches for a 3; the way back, step by step. Assumes nothing.
use mathlib.Core.Path.{◌≡◌, refl, sym, ap, ◌∙◌}
use mathlib.Core.Bool.{Bool, true, false, ◌&&◌, cond, false≢true}
use Rattle.std.specs.Prelude.{Some, None}
use mathlib.Core.List.{List, [], ◌∷◌, ◌++◌, map, reverse, append-nil, append_assoc, map-append, reverse-cons}
use Prim.Native.Nat.{ℕ, zero, suc, ◌+◌, ◌-◌, ◌*◌, ◌≤◌, ◌<◌}
use native.Mathlib.Decide.{dec_lt}
use native.Mathlib.Numerals.{add-one}
use native.Mathlib.Omega.{arith}
use lib.Dec.{ltb, eqb}
use lib.ListN.{length, take, drop, set, length-set, get_or-append, take-append-drop}
use lib.Seq.{get_or-take, get_or-set_same, take-set-lt, drop-set-lt, slice, slice_empty, slice-cons}
use borrow.Author.Tests.{ltb-true, eqb-true}
use Rattle.cuts.specs.Below.{first, any, tab}
use Rattle.cuts.specs.Cut.{at, back, total, Within}
use Rattle.cuts.specs.Rank.{weight, rank, box}
use Rattle.cuts.specs.Computed.{leads, walk, tabled, mark_of}
use Rattle.cut.specs.Value.{counts_of, FullCut}
use Rattle.cut.specs.declared.Cut.{Cut}
use Rattle.cuts.proofs.BelowLaws.{and_true, product_to-same, length_tab, get_d-tab, first_is}
use Rattle.cuts.proofs.CutLaws.{within_back, within_full, within_total, total_back}
use Rattle.cuts.proofs.TabledRight.{tabled_at}
use Rattle.cuts.proofs.MarksRight.{mark, lead_same, three_from}
use Rattle.cuts.proofs.RankLaws.{weight_pos, rank_nil, rank_cons, rank_lt, box_nil, box_cons, rank_back}
use Rattle.marks.specs.Flat.{plain}
use Rattle.marks.specs.declared.Task.{Task}
use Rattle.marks.specs.Rows.{strides_of, leads_back, StepsBack, lattice_of, marks_to, Ready, way_to, place_of}
use Rattle.marks.proofs.SearchLaws.{first_same, any_same, take_back}
use Rattle.marks.proofs.RowLaws.{length-counts_of}

module _ (m : Cut) (full : FullCut m) (eight : length m.counts ≡ 8) where
  pub at-strides_of : (p : ℕ) → p < m.n → at (strides_of m) p ≡ weight (counts_of m) p
  unfolding strides_of weight
  at-strides_of p h =
      get_or-append (tab m.n (weight m.counts)) _ 0 p (omega (arith, length_tab m.n (weight m.counts)))
      ∙ get_d-tab m.n (weight m.counts) 0 p h
      ∙ sym (product_to-same p _ _ (λ q l. ap suc (get_or-take m.n m.counts q 0 (omega arith))))

  -- of the eight counts d of a cut
  module _ (d : List ℕ) (w : Within (counts_of m) (take m.n d)) where
    -- its rank
    abbrev r : ℕ
    r = rank (counts_of m) (take m.n d)

    -- a step back in rank
    pub rank_stride : (p : ℕ) → p < m.n → 0 < at d p → rank (counts_of m) (back p (take m.n d)) + at (strides_of m) p ≡ r
    rank_stride p h g =
        rw (at-strides_of p h)
        (rank_back (counts_of m) (take m.n d) p w (rw (get_or-take m.n d p 0 h) g))

    pub steps_back : StepsBack m.n d (strides_of m) r
    steps_back p h g =
        (rw (at-strides_of p h) (weight_pos (counts_of m) p), omega (arith, rank_stride p h g))

    -- the mark one step back is looked up at its rank
    pub leads_same : (marks : List ℕ) (p : ℕ) → p < m.n
        → leads (take m.n d) (λ q. at marks (rank (counts_of m) (back q (take m.n d)))) p ≡ leads_back marks d (strides_of m) r p
    unfolding leads_back
    leads_same marks p h = rw (get_or-take m.n d p 0 h) (go (ltb 0 (at d p)) refl)
      where
        go : (b : Bool) → ltb 0 (at d p) ≡ b
            → (b && eqb (at marks (rank (counts_of m) (back p (take m.n d)))) 3) ≡ (b && eqb (at marks (r - at (strides_of m) p)) 3)
        go true e =
            let i : rank (counts_of m) (back p (take m.n d)) ≡ r - at (strides_of m) p = omega (arith, rank_stride p h (ltb-true _ _ e)) in
            rw i refl
        go false e = refl

    -- the search back finds the place of the walk
    pub first_leads : (marks : List ℕ)
        → first (leads (take m.n d) (λ q. at marks (rank (counts_of m) (back q (take m.n d))))) (length (counts_of m)) ≡ first (leads_back marks d (strides_of m) r) m.n
    first_leads marks = rw (length-counts_of m full eight) (first_same _ _ m.n (leads_same marks))

    -- one step of the way
    pub way_to-more : (marks : List ℕ) (k p : ℕ) → p ≡ first (leads_back marks d (strides_of m) r) m.n
        → way_to (counts_of m) marks (k + 1) (take m.n d) ≡ way_to (counts_of m) marks k (take m.n (back p d)) ++ (suc p ∷ [])
    unfolding way_to walk
    way_to-more marks k p e =
        rw (add-one k, first_leads marks, ← e, take_back m.n p d)
        (ap (map suc) (reverse-cons p xs) ∙ map-append suc (reverse xs) (p ∷ []))
      where
        xs : List ℕ
        xs = walk (plain (counts_of m)) (λ c. at marks (rank (counts_of m) c)) k (back p (take m.n d))

-- the full cut has the last rank
pub rank_full : (m : List ℕ) → suc (rank m m) ≡ box m
rank_full [] = rw (rank_nil, box_nil) refl
rank_full (k ∷ m) = rw (rank_cons, box_cons) (omega (arith, ap (λ (r : ℕ). suc k * r) (rank_full m)))

-- one element more at the front of a part
slice_more : (l : List ℕ) (k t v : ℕ) → k < t → t ≤ length l → slice k t (set l k v) ≡ v ∷ slice (k + 1) t l
slice_more l k t v h g =
    let e : t ≤ length (set l k v) = simp length-set g in
    slice-cons k t (set l k v) 0 h e
    ∙ rw (get_or-set_same l k v 0 (omega arith), take-set-lt t l k v h, drop-set-lt (suc k) (take t l) k v (omega arith), add-one k) refl

length_back : (p : ℕ) (c : List ℕ) → length (back p c) ≡ length c
length_back p [] = refl
length_back zero (x ∷ c) = refl
length_back (suc p) (x ∷ c) = ap suc (length_back p c)

-- what a search found
pub place_found : (f : ℕ → Bool) (n p : ℕ) → place_of n (first f n) ≡ Some p → (p ≡ first f n) × (p < n) × (f p ≡ true)
unfolding place_of
place_found f n p e = go (ltb (first f n) n) refl e
  where
    go : (b : Bool) → ltb (first f n) n ≡ b → cond b (Some (first f n)) None ≡ Some p → (p ≡ first f n) × (p < n) × (f p ≡ true)
    go true t s =
        let same : first f n ≡ p = cc in
        rw (← same) (refl, ltb-true _ _ t, (first_is f n).passes (ltb-true _ _ t))
    go false t s = cc

-- .. and one that found nothing
pub place_lost : (f : ℕ → Bool) (n : ℕ) → place_of n (first f n) ≡ None → any f n ≡ false
unfolding place_of any
place_lost f n e = go (ltb (first f n) n) e
  where
    go : (b : Bool) → cond b (Some (first f n)) None ≡ None → b ≡ false
    go true s = cc
    go false s = refl

module _ (task : Task) (ready : Ready task) where
  abbrev m : Cut
  m = task.full

  abbrev full : List ℕ
  full = counts_of m

  -- from a 3 that is not the start some step back leads to a 3
  three_leads : (size : ℕ) → size ≡ box full → (d : List ℕ) → Within full (take m.n d) → at (marks_to task size) (rank full (take m.n d)) ≡ 3
      → 0 < total (take m.n d) → any (leads_back (marks_to task size) d (strides_of m) (rank full (take m.n d))) m.n ≡ true
  unfolding marks_to
  three_leads size e d w three pos =
      sym (any_same (leads c (λ p. cond (ltb 0 (at c p)) (mark (lattice_of task) (back p c)) 0)) (leads_back marks d (strides_of m) (rank full c)) m.n same)
      ∙ rw (length-counts_of m ready.full ready.rows.eight) at (three_from (lattice_of task) c (sym (marked c w) ∙ three) pos)
    where
      c : List ℕ
      c = take m.n d

      marks : List ℕ
      marks = tabled (mark_of (lattice_of task)) full size

      marked : (c : List ℕ) → Within full c → at marks (rank full c) ≡ mark (lattice_of task) c
      marked c w = tabled_at (mark_of (lattice_of task)) full size c w (rw e (rank_lt full c w))

      same : (p : ℕ) → p < m.n → leads c (λ p. cond (ltb 0 (at c p)) (mark (lattice_of task) (back p c)) 0) p ≡ leads_back marks d (strides_of m) (rank full c) p
      same p l =
          lead_same (lattice_of task) c p
          ∙ rw (sym (marked (back p c) (within_back full c p w))) (leads_same m ready.full ready.rows.eight d w marks p l)

  -- what is so of the room, the counts and the rank when k of the events are left
  pub record Walked (marks room path counts : List ℕ) (r k : ℕ) : Type 0 where
    pub eight : length counts ≡ 8
    pub cut : Within full (take m.n counts)
    pub left : total (take m.n counts) ≡ k
    pub ranked : r ≡ rank full (take m.n counts)
    pub three : at marks r ≡ 3
    pub way : way_to full marks (total full) full ≡ way_to full marks k (take m.n counts) ++ slice k (total full) path
    pub rest : drop (total full) path ≡ drop (total full) room

  module _ (marks room : List ℕ) where
    -- at the full cut
    pub walked_start : (r k : ℕ) → rank full full ≡ r → k ≡ total full → at marks r ≡ 3 → Walked marks room room m.counts r k
    walked_start r k e t three = record {
      eight = ready.rows.eight;
      cut = within_full full;
      left = sym t;
      ranked = sym e;
      three = three;
      way = sym (rw (t, slice_empty (total full) room) (append-nil (way_to full marks (total full) full)));
      rest = refl;
    }

    module _ (path counts : List ℕ) (r k : ℕ) (t : Walked marks room path counts r k) where
      abbrev search : ℕ → Bool
      search = leads_back marks counts (strides_of m) r

      -- no step back leaves the box
      pub walked_steps : StepsBack m.n counts (strides_of m) r
      walked_steps = rw t.ranked (steps_back m ready.full ready.rows.eight counts t.cut)

      pub walked_inside : (r < box full) × (k ≤ total full)
      walked_inside = (omega (arith, t.ranked, rank_lt full (take m.n counts) t.cut), omega (arith, t.left, within_total full (take m.n counts) t.cut))

      module _ (p : ℕ) (e : place_of m.n (first search m.n) ≡ Some p) where
        -- a place that was found has an event to step back from
        pub walked_found : (p < m.n) × (0 < at counts p) × (at (strides_of m) p ≤ r) × (at marks (r - at (strides_of m) p) ≡ 3)
        unfolding leads_back
        walked_found =
            let f = place_found search m.n p e in
            let b = and_true (ltb 0 (at counts p)) _ f.2 in
            let pos = ltb-true _ _ b.0 in
            (f.1, pos, (walked_steps p f.1 pos).1, eqb-true _ _ b.1)

        pub walked_left : 0 < k
        walked_left =
            let f = walked_found in
            omega (arith, t.left, total_back p (take m.n counts) (rw (get_or-take m.n counts p 0 f.0) f.1))

        -- one step back
        pub walked_more : total full ≤ length path → Walked marks room (set path (k - 1) (p + 1)) (back p counts) (r - at (strides_of m) p) (k - 1)
        walked_more g =
            let f = walked_found in
            let j : ℕ = k - 1 in
            let next : k ≡ j + 1 = omega (arith, walked_left) in
            let pos : 0 < at (take m.n counts) p = rw (get_or-take m.n counts p 0 f.0) f.1 in
            let place : p ≡ first (leads_back marks counts (strides_of m) (rank full (take m.n counts))) m.n = rw t.ranked at (place_found search m.n p e).0 in
            let here : j < total full = omega (arith, walked_inside.1, walked_left) in
            record {
              eight = length_back p counts ∙ t.eight;
              cut = rw (take_back m.n p counts) (within_back full _ p t.cut);
              left = rw (take_back m.n p counts) (omega (arith, t.left, total_back p (take m.n counts) pos));
              ranked = rw (take_back m.n p counts) (omega (arith, t.ranked, rank_stride m ready.full ready.rows.eight counts t.cut p f.0 f.1));
              three = f.3;
              way =
                  rw (slice_more path j (total full) (p + 1) here g, add-one p)
                  (t.way
                  ∙ ap (λ (i : ℕ). way_to full marks i (take m.n counts) ++ slice i (total full) path) next
                  ∙ ap (λ (l : List ℕ). l ++ slice (j + 1) (total full) path) (way_to-more m ready.full ready.rows.eight counts t.cut marks j p place)
                  ∙ append_assoc (way_to full marks j (take m.n (back p counts))) (suc p ∷ []) (slice (j + 1) (total full) path));
              rest = drop-set-lt (total full) path j (p + 1) here ∙ t.rest;
            }

      -- where no step back leads to a 3 the start is reached
      pub walked_done : (size : ℕ) → size ≡ box full → marks ≡ marks_to task size → place_of m.n (first search m.n) ≡ None
          → path ≡ way_to full marks (total full) full ++ drop (total full) room
      unfolding way_to walk
      walked_done size s same e =
          let z : k ≡ 0 = go (dec_lt 0 k) in
          sym (rw (t.way, z, ← t.rest) (take-append-drop (total full) path))
        where
          go : Dec (0 < k) → k ≡ 0
          go (yes h) =
              let some = three_leads size s counts t.cut (rw (same, t.ranked) at t.three) (rw (← t.left) at h) in
              absurd (false≢true (sym (rw (same, t.ranked) at (place_lost search m.n e)) ∙ some))
          go (no h) = omega arith
