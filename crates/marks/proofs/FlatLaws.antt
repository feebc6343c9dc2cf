-- Laws of what is promised. In order: rows that are there; the size of a box; what makes a box one that can be settled, its size, and what is settled; the
-- witness; the path. Assumes nothing.
use mathlib.Core.Path.{◌≡◌, refl, sym, ap, ◌∙◌}
use mathlib.Core.Bool.{Bool, true, false, ◌&&◌, not, cond, false≢true}
use Rattle.std.specs.Prelude.{Some, None}
use mathlib.Core.Logic.{◌↔◌}
use mathlib.Core.List.{List, ◌++◌}
use Prim.Native.Nat.{ℕ, ◌+◌, ◌-◌, ◌*◌, ◌/◌, ◌^◌, ◌≤◌, ◌<◌, min}
use native.Mathlib.Omega.{arith}
use lib.Dec.{leb, ltb, eqb}
use lib.ListN.{length, drop}
use borrow.Author.Tests.{lt-ltb, le-leb, leb-true, ltb-true, eq-eqb, ne_eqb}
use Rattle.cuts.specs.Below.{every, first}
use Rattle.cuts.specs.Cut.{at, total}
use Rattle.cuts.specs.Rank.{box, rank, unrank}
use Rattle.cut.specs.Value.{is_full, counts_of, box_of, FullCut, events_of}
use Rattle.cut.specs.declared.Cut.{Cut}
use Rattle.cuts.proofs.BelowLaws.{and_true, every_true}
use Rattle.cuts.proofs.RankLaws.{box_pos}
use Rattle.cuts.proofs.ReplyLaws.{refuted}
use Rattle.cuts.proofs.TabledRight.{length_tabled}
use Rattle.cut.proofs.ValueRight.{is_full-is, box_of-full, box_of-none, events_of-full}
use Rattle.marks.specs.declared.Task.{Task}
use Rattle.marks.specs.declared.Verdicts.{Verdicts}
use Rattle.marks.specs.Flat.{row_there, filled, settleable, can_settle, cut_of_counts, settled_of, witness_in, witness_of, avoided, walked, Settles}
use Rattle.marks.specs.Rows.{marks_to, Ready, way_to, place_of}
use Rattle.marks.proofs.SearchLaws.{tests_same, and_both}
use Rattle.marks.proofs.BackLaws.{rank_full}
use Rattle.marks.proofs.WalkLaws.{front}
use Rattle.std.proofs.Math.Option as math

-- row b of the tables, r held at the largest number of the machine
pub row_there-is : (cells rows b r : ℕ) → r ≡ min b (2 ^ 64 - 1) → rows < 2 ^ 64 → (ltb r rows && ltb r (cells / 8)) ≡ row_there cells rows b
unfolding row_there
row_there-is cells rows b r held h = tests_same _ _ reads tests
  where
    reads : (ltb r rows && ltb r (cells / 8)) ≡ true → (ltb b rows && leb (8 * b + 8) cells) ≡ true
    reads t =
        let (x, y) = and_true (ltb r rows) (ltb r (cells / 8)) t in
        let short : r < rows = ltb-true r rows x in
        let same : r ≡ b = omega (arith, short) in
        and_both (lt-ltb b rows (omega (arith, short))) (le-leb (8 * b + 8) cells (omega (arith, ltb-true r (cells / 8) y, same)))

    tests : (ltb b rows && leb (8 * b + 8) cells) ≡ true → (ltb r rows && ltb r (cells / 8)) ≡ true
    tests t =
        let (x, y) = and_true (ltb b rows) (leb (8 * b + 8) cells) t in
        let short : b < rows = ltb-true b rows x in
        let same : r ≡ b = omega (arith, short) in
        and_both (lt-ltb r rows (omega (arith, short, same))) (lt-ltb r (cells / 8) (omega (arith, leb-true (8 * b + 8) cells y, same)))

-- what a row that is there has
pub row_there-has : (cells rows r : ℕ) → row_there cells rows r ≡ true → (8 * r + 8 ≤ cells) × (r < rows)
unfolding row_there
row_there-has cells rows r e =
    let (a, b) = and_true (ltb r rows) (leb (8 * r + 8) cells) e in
    (leb-true _ _ b, ltb-true _ _ a)

-- a box with a cut is that of a full cut
pub full_sized : (m : Cut) (size : ℕ) → size ≡ box_of m → 1 ≤ size → FullCut m
full_sized m size e h = go (is_full m) refl
  where
    go : (b : Bool) → is_full m ≡ b → FullCut m
    go true t = (is_full-is m).0 t
    go false t = absurd (omega (arith, box_of-none m (λ f. false≢true (sym t ∙ (is_full-is m).1 f))))

-- the full cut has the last rank
pub rank_last : (m : Cut) (size : ℕ) → size ≡ box (counts_of m) → rank (counts_of m) (counts_of m) ≡ size - 1
rank_last m size e = omega (arith, rank_full (counts_of m))

-- settleable in words
pub record Settleable (m : Cut) (bases : List ℕ) (cells rows marks path : ℕ) : Type 0 where
  pub full : FullCut m
  pub limit : box (counts_of m) ≤ 65536
  pub fits : box (counts_of m) ≤ marks
  pub way : total (counts_of m) ≤ path
  pub there : every m.n (λ p. row_there cells rows (at bases p + at m.counts p)) ≡ true

module _ (m : Cut) (bases : List ℕ) (cells rows marks path : ℕ) where
  pub settleable_is : (settleable m bases cells rows marks path ≡ true) ↔ Settleable m bases cells rows marks path
  unfolding settleable
  settleable_is = (reads, tests)
    where
      reads : (is_full m && leb (box (counts_of m)) 65536 && leb (box (counts_of m)) marks && leb (total (counts_of m)) path
          && every m.n (λ p. row_there cells rows (at bases p + at m.counts p))) ≡ true → Settleable m bases cells rows marks path
      reads e =
          let (x, k) = and_true (is_full m && leb (box (counts_of m)) 65536 && leb (box (counts_of m)) marks && leb (total (counts_of m)) path) _ e in
          let (y, d) = and_true (is_full m && leb (box (counts_of m)) 65536 && leb (box (counts_of m)) marks) _ x in
          let (z, c) = and_true (is_full m && leb (box (counts_of m)) 65536) _ y in
          let (a, b) = and_true (is_full m) _ z in
          record { full = (is_full-is m).0 a; limit = leb-true _ _ b; fits = leb-true _ _ c; way = leb-true _ _ d; there = k }

      tests : Settleable m bases cells rows marks path
          → (is_full m && leb (box (counts_of m)) 65536 && leb (box (counts_of m)) marks && leb (total (counts_of m)) path
          && every m.n (λ p. row_there cells rows (at bases p + at m.counts p))) ≡ true
      tests f = and_both (and_both (and_both (and_both ((is_full-is m).1 f.full) (le-leb _ _ f.limit)) (le-leb _ _ f.fits)) (le-leb _ _ f.way)) f.there

  pub not_settleable : (Settleable m bases cells rows marks path → ⊥) → settleable m bases cells rows marks path ≡ false
  not_settleable h = refuted _ (λ s. h (settleable_is.0 s))

  module _ (size : ℕ) (is-box : size ≡ box_of m) where
    -- the size of a box that can be settled
    pub settled_size : Settleable m bases cells rows marks path → (size ≡ box (counts_of m)) × (1 ≤ size) × (size ≤ 65536)
    settled_size f =
        let e : size ≡ box (counts_of m) = omega (arith, box_of-full m f.full, f.limit) in
        (e, omega (arith, box_pos (counts_of m)), omega (arith, f.limit))

    -- what the tests of the size, of the rooms and of the rows say
    pub tests_passed : (steps : ℕ) → 1 ≤ size → size ≤ 65536 → size ≤ marks → steps ≡ events_of m → steps ≤ path
        → every m.n (λ p. row_there cells rows (at bases p + at m.counts p)) ≡ true → Settleable m bases cells rows marks path × (size ≡ box (counts_of m))
    tests_passed steps some limit fits is-total way there =
        let full = full_sized m size is-box some in
        let e : size ≡ box (counts_of m) = omega (arith, box_of-full m full) in (
          record {
            full = full;
            limit = omega arith;
            fits = omega arith;
            way = omega (arith, events_of-full m full);
            there = there;
          },
          e,
        )

module _ (task : Task) where
  -- a box that can be settled has all that its rows are filled from
  pub ready_of : (marks path : ℕ) → Settleable task.full task.bases (length task.needs.now) (length task.weights.now) marks path
      → length task.full.counts ≡ 8 → length task.bases ≡ 8 → Ready task
  ready_of marks path f l k = record {
    full = f.full;
    limit = f.limit;
    rows = record {
      some = f.full.some_station;
      most = f.full.most_eight;
      starts = k;
      eight = l;
      needed = λ p h. (row_there-has _ _ _ (row p h)).0;
      weighed = λ p h. (row_there-has _ _ _ (row p h)).1;
    };
  }
    where
      row : (p : ℕ) → p < task.full.n → row_there (length task.needs.now) (length task.weights.now) (at task.bases p + at task.full.counts p) ≡ true
      row p h = every_true task.full.n (λ p. row_there (length task.needs.now) (length task.weights.now) (at task.bases p + at task.full.counts p)) f.there p h

  module _ (marks path : List ℕ) where
    -- what is promised where the box can be settled, by the frame of the task
    module _ (of : Task) (same : of ≡ task) (can : can_settle task (length marks) (length path) ≡ true) (size : ℕ) (sized : size ≡ box (counts_of of.full)) where
      pub rooms_suffice : (size ≤ length marks) × (total (counts_of of.full) ≤ length path)
      rooms_suffice =
          let f = (settleable_is task.full task.bases _ _ _ _).0 can in
          let e : size ≡ box (counts_of task.full) = rw same at sized in
          rw same (omega (arith, f.fits), f.way)

      -- the verdicts and the path are those of the marks of the box
      pub settles_some : (r : Verdicts) (marks' path' : List ℕ) → marks' ≡ marks_to of size ++ drop size marks
          → r ≡ settled_of of.full.n (witness_of of.full (marks_to of size)) (not (avoided of.full (marks_to of size)))
          → path' ≡ walked of.full (marks_to of size) path
          → Settles task marks path (Some r) marks' path'
      unfolding filled marks_to
      settles_some r marks' path' em er ep =
          let e : size ≡ box (counts_of task.full) = rw same at sized in
          let whole : length (marks_to task size) ≡ box (counts_of task.full) = length_tabled _ _ _ ∙ e in
          let a : marks_to task size ++ drop size marks ≡ filled task.full task.bases task.least task.most task.needs.now task.weights.now marks = rw e refl in
          let f = front task.full (marks_to task size) (drop size marks) whole in
          record {
            reply = rw (can, ← a, f.0, f.1.0) (ap Some (rw same at er));
            marks_after = rw (can, ← a) (rw same at em);
            path_after = rw (can, ← a, f.1.1 path) (rw same at ep);
          }

-- the witness of marks whose first 1 is at that place
pub witness_none : (m : Cut) (marks : List ℕ) → place_of (box (counts_of m)) (first (λ r. eqb (at marks r) 1) (box (counts_of m))) ≡ None
    → None ≡ witness_in m.n (witness_of m marks)
unfolding witness_of place_of
witness_none m marks = go (ltb (first (λ r. eqb (at marks r) 1) (box (counts_of m))) (box (counts_of m)))
  where
    go : (b : Bool) → cond b (Some (first (λ r. eqb (at marks r) 1) (box (counts_of m)))) None ≡ None
        → None ≡ witness_in m.n (cond b (math.some (unrank (counts_of m) (first (λ r. eqb (at marks r) 1) (box (counts_of m))))) math.none)
    go true e = cc
    go false e = refl

pub witness_some : (m : Cut) (marks : List ℕ) (r : ℕ) → place_of (box (counts_of m)) (first (λ r. eqb (at marks r) 1) (box (counts_of m))) ≡ Some r
    → (r < box (counts_of m)) × (Some (cut_of_counts m.n (unrank (counts_of m) r)) ≡ witness_in m.n (witness_of m marks))
unfolding witness_of place_of
witness_some m marks r = go (ltb place (box (counts_of m))) refl
  where
    place : ℕ
    place = first (λ r. eqb (at marks r) 1) (box (counts_of m))

    go : (b : Bool) → ltb place (box (counts_of m)) ≡ b → cond b (Some place) None ≡ Some r
        → (r < box (counts_of m)) × (Some (cut_of_counts m.n (unrank (counts_of m) r)) ≡ witness_in m.n (cond b (math.some (unrank (counts_of m) place)) math.none))
    go true t e =
        let same : place ≡ r = cc in
        rw (← same) (ltb-true _ _ t, refl)
    go false t e = cc

-- what is answered where the full cut, of rank r, is not marked 3: the room stays as it was
pub walked_none : (m : Cut) (marks room : List ℕ) (r : ℕ) → rank (counts_of m) (counts_of m) ≡ r → (at marks r ≡ 3 → ⊥)
    → (true ≡ not (avoided m marks)) × (room ≡ walked m marks room)
unfolding walked avoided
walked_none m marks room r e h = rw (e, ne_eqb _ _ h) (refl, refl)

-- .. and where it is
pub walked_some : (m : Cut) (marks room room' : List ℕ) (r : ℕ) → rank (counts_of m) (counts_of m) ≡ r → at marks r ≡ 3
    → room' ≡ way_to (counts_of m) marks (total (counts_of m)) (counts_of m) ++ drop (total (counts_of m)) room
    → (false ≡ not (avoided m marks)) × (room' ≡ walked m marks room)
unfolding walked avoided way_to
walked_some m marks room room' r e h w = rw (e, eq-eqb _ _ h) (refl, w)
