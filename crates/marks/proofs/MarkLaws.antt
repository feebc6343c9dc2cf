-- Laws of the marks of a row. In order: the mark of a cut, as its tests decide it; a mark sees those of lower ranks; the row, cut by cut. Assumes nothing.
use mathlib.Core.Path.{◌≡◌, refl, sym, ap, ◌∙◌}
use mathlib.Core.Bool.{Bool, true, false, ◌&&◌, ◌||◌, cond}
use Rattle.std.specs.Prelude.{Option, Some, None, is_some}
use mathlib.Core.List.{List, [], ◌∷◌, ◌++◌, append_assoc, append-nil}
use Prim.Native.Nat.{ℕ, zero, suc, ◌+◌, ◌-◌, ◌*◌, ◌≤◌, ◌<◌, min}
use native.Mathlib.Nat.{le_of_eq}
use native.Mathlib.Numerals.{add-one}
use native.Mathlib.Omega.{arith}
use lib.Dec.{ltb, eqb}
use lib.ListN.{length, take, drop, set, replicate, length-append, get_or-append}
use lib.Seq.{length-take-le, set-set}
use mir.Val.{bool_byte}
use borrow.Author.Tests.{ltb-true, lt-ltb, le-ltb}
use Rattle.cuts.specs.Below.{first, any}
use Rattle.cuts.specs.Cut.{at}
use Rattle.cuts.specs.Computed.{number}
use Rattle.cuts.proofs.TabLaws.{front_more}
use Rattle.marks.specs.declared.Task.{Task}
use Rattle.marks.specs.declared.frame.Others.{Others}
use Rattle.marks.specs.Flat.{row_met, between}
use Rattle.marks.specs.Rows.{strides_of, leads_back, StepsBack, cut_mark, row_marks, place_of, BlankFrom}
use Rattle.marks.proofs.SearchLaws.{any_same}
use Rattle.marks.proofs.RowLaws.{replicate_snoc, blank_there}

module _ (task : Task) (sum : ℕ) (marks c : List ℕ) (x r : ℕ) where
  -- the tests of a mark, in order
  abbrev met : Bool
  met = row_met task.full.n task.needs.now (8 * (at task.bases 0 + x)) c

  abbrev holds : Bool
  holds = between task.least task.most (sum + at task.weights.now (at task.bases 0 + x))

  abbrev place : ℕ
  place = first (leads_back marks c (strides_of task.full) r) task.full.n

  -- its own row is not met
  pub mark_unmet : met ≡ false → 0 ≡ cut_mark task sum marks c x r
  unfolding cut_mark
  mark_unmet e = rw e refl

  module _ (e : met ≡ true) where
    -- the sum satisfies
    pub mark_holds : holds ≡ true → 1 ≡ cut_mark task sum marks c x r
    unfolding cut_mark
    mark_holds t = rw (e, t) refl

    -- it does not: 3 at the start and where a step back leads to a 3, else 2
    pub mark_rest : holds ≡ false → (q : Option ℕ) → q ≡ place_of task.full.n place → 2 + bool_byte (eqb r 0 || is_some q) ≡ cut_mark task sum marks c x r
    unfolding cut_mark any place_of
    mark_rest t q z = rw (e, t, z, some (ltb place task.full.n)) (go (eqb r 0 || ltb place task.full.n))
      where
        go : (b : Bool) → 2 + bool_byte b ≡ number true false b
        go true = refl
        go false = refl

        some : (b : Bool) → is_some (cond b (Some place) None) ≡ b
        some true = refl
        some false = refl

-- two cuts that differ in their first count
pub set_first : (c d : List ℕ) (x : ℕ) → c ≡ set d 0 (at c 0) → set c 0 x ≡ set d 0 x
set_first c d x e = ap (λ (l : List ℕ). set l 0 x) e ∙ set-set d 0 (at c 0) x

leads_back-front : (l rest c strides : List ℕ) (r p : ℕ) → r ≤ length l → (0 < at c p → (1 ≤ at strides p) × (at strides p ≤ r))
    → leads_back (l ++ rest) c strides r p ≡ leads_back l c strides r p
unfolding leads_back
leads_back-front l rest c strides r p h b = go (ltb 0 (at c p)) refl
  where
    go : (t : Bool) → ltb 0 (at c p) ≡ t → (t && eqb (at (l ++ rest) (r - at strides p)) 3) ≡ (t && eqb (at l (r - at strides p)) 3)
    go true e = rw (get_or-append l rest 0 (r - at strides p) (omega (arith, b (ltb-true _ _ e)))) refl
    go false e = refl

-- a mark sees those of the ranks below only
cut_mark-front : (task : Task) (sum : ℕ) (l rest c : List ℕ) (x r : ℕ) → r ≤ length l → StepsBack task.full.n c (strides_of task.full) r
    → cut_mark task sum (l ++ rest) c x r ≡ cut_mark task sum l c x r
unfolding cut_mark
cut_mark-front task sum l rest c x r h b = rw (any_same (leads_back (l ++ rest) c (strides_of task.full) r) (leads_back l c (strides_of task.full) r) task.full.n same) refl
  where
    same : (p : ℕ) → p < task.full.n → leads_back (l ++ rest) c (strides_of task.full) r p ≡ leads_back l c (strides_of task.full) r p
    same p k = leads_back-front l rest c (strides_of task.full) r p h (b p k)

module _ (task : Task) (others : Others) (top : List ℕ) (first : ℕ) where
  length-row_marks : (below : List ℕ) (x : ℕ) → length (row_marks task others top first below x) ≡ length below + x
  unfolding row_marks
  length-row_marks below zero = omega arith
  length-row_marks below (suc x) = length-append (row_marks task others top first below x) _ ∙ omega (arith, length-row_marks below x)

  -- zeros as long as the others ask for more events of station 1
  row_marks-blank : (below : List ℕ) (x : ℕ) → x ≤ others.low → row_marks task others top first below x ≡ below ++ replicate x 0
  unfolding row_marks
  row_marks-blank below zero h = sym (append-nil below)
  row_marks-blank below (suc x) h =
      rw (lt-ltb x others.low h, row_marks-blank below x (omega arith), replicate_snoc x 0) (append_assoc below (replicate x 0) (0 ∷ []))

  -- a blank row has the marks of the cuts that the others ask too much for
  pub row_marks-start : (d : List ℕ) (w : ℕ) → first + w ≤ length d → BlankFrom d first w
      → d ≡ row_marks task others top first (take first d) (min others.low w) ++ drop (first + min others.low w) d
  row_marks-start d w h z =
      rw (row_marks-blank (take first d) (min others.low w) (omega arith)) (blank_there d first (min others.low w) (omega arith) (λ x l. z x (omega arith)))

  -- one cut more
  pub row_marks-more : (d l : List ℕ) (x : ℕ) → l ≡ row_marks task others top first (take first d) x ++ drop (first + x) d
      → others.low ≤ x → first + x < length d → StepsBack task.full.n (set top 0 x) (strides_of task.full) (first + x)
      → set l (first + x) (cut_mark task others.sum l (set top 0 x) x (first + x))
      ≡ row_marks task others top first (take first d) (x + 1) ++ drop (first + (x + 1)) d
  unfolding row_marks
  row_marks-more d l x e g h b =
      let xs = row_marks task others top first (take first d) x in
      let long : length xs ≡ first + x = length-row_marks (take first d) x ∙ omega (arith, length-take-le first d (omega arith)) in
      let next : first + x + 1 ≡ first + (x + 1) = omega arith in
      rw (e, cut_mark-front task others.sum xs (drop (first + x) d) (set top 0 x) x (first + x) (le_of_eq (sym long)) b)
      (front_more xs d (first + x) _ 0 long h ∙ rw (next, add-one x, le-ltb x others.low g) refl)
