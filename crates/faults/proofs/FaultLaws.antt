-- Laws of a record's fault as the code works it out of flat tables. In order: tests; the origin's kinds; one stamp; what origin and number break; any record; sums in
-- front of a list.
-- Assumes nothing.
use mathlib.Core.Path.{◌≡◌, refl, sym, ap, ◌∙◌}
use mathlib.Core.Bool.{Bool, true, false, ◌&&◌, ◌||◌, not, cond}
use mathlib.Core.List.{List, ◌++◌}
use Prim.Native.Nat.{ℕ, suc, ◌+◌, ◌-◌, ◌/◌, ◌≤◌, ◌<◌, max}
use native.Mathlib.Numerals.{add-one}
use native.Mathlib.Omega.{arith}
use lib.ListN.{length, get_or-append}
use lib.Dec.{leb, ltb, eqb}
use mir.Val.{bool_byte}
use borrow.Author.Tests.{ltb-true, ltb-false, leb-true, leb-false, eqb-true, eqb-false, lt-ltb, le-leb, lt-leb}
use Rattle.std.specs.Prelude.{Result, Ok, Err}
use Rattle.cuts.specs.Below.{every, own, sum_to, tab}
use Rattle.cuts.specs.Cut.{at}
use Rattle.cuts.proofs.BelowLaws.{and_false, every_false, own_self, own_other, length_tab, get_d-tab, sum_to-same, tab_same}
use Rattle.refusal.specs.Refusal.{Tested}
use Rattle.refusal.specs.declared.Reason.{Reason}
use Rattle.faults.specs.Fault.{source_of, has, place_at, place_right, stamp_fault, receipt_fault, source_fault, table_fault}
use Rattle.faults.specs.declared.Source.{Source}

-- at most, as not above
pub leb_not : (a b : ℕ) → leb a b ≡ not (ltb b a)
leb_not a b = go (ltb b a) refl
  where
    go : (u : Bool) → ltb b a ≡ u → leb a b ≡ not u
    go true e = lt-leb a b (ltb-true b a e)
    go false e = le-leb a b (ltb-false b a e)

-- what each kind of origin says of it
abbrev pub Kind : Result Source Reason → ℕ → Type 0
Kind (Ok Source.Local) o = o ≡ 0
Kind (Ok (Source.From x)) o = (x ≡ o) × (1 ≤ x) × (x ≤ 8)
Kind (Err r) o = (r ≡ Reason.Origin) × (8 < o)

source_of-kind : (o : ℕ) → Kind (source_of o) o
unfolding source_of
source_of-kind o = go (eqb o 0) refl (leb o 8) refl
  where
    go : (u : Bool) → eqb o 0 ≡ u → (v : Bool) → leb o 8 ≡ v → Kind (cond u (Ok Source.Local) (cond v (Ok (Source.From o)) (Err Reason.Origin))) o
    go true e v f = eqb-true o 0 e
    go false e true f = (refl, omega (arith, eqb-false o 0 e), leb-true o 8 f)
    go false e false f = (refl, leb-false o 8 f)

pub source_of-is : (x : Result Source Reason) (o : ℕ) → x ≡ source_of o → Kind x o
source_of-is x o h = rw h (source_of-kind o)

-- 1 at the own place, as a test
pub own_test : (p q : ℕ) → own p q ≡ bool_byte (eqb p q)
own_test p q = go (eqb p q) refl
  where
    go : (b : Bool) → eqb p q ≡ b → own p q ≡ bool_byte b
    go true e = rw (eqb-true p q e) (own_self q)
    go false e = own_other p q (eqb-false p q e)

module _ (rows : List ℕ) (p first e sender k : ℕ) where
  -- a place of the stamp compared, as the code does it
  pub place_right-is : (q x a b l o : ℕ) → x ≡ place_at rows first (e + 1) q → a ≡ place_at rows first e q → b ≡ place_at rows sender k q → l ≡ max a b → o ≡ bool_byte (eqb p q)
      → place_right rows p first e sender k q ≡ eqb x (l + o)
  unfolding place_right
  place_right-is q x a b l o e₁ e₂ e₃ e₄ e₅ = rw (e₁, e₄, e₂, e₃, e₅, own_test p q, add-one e) refl

  pub stamp_fault-wrong : (n q : ℕ) → q < n → place_right rows p first e sender k q ≡ false → Err Reason.Stamp ≡ stamp_fault n rows p first e sender k
  unfolding stamp_fault
  stamp_fault-wrong n q h g = rw (every_false n _ q h g, and_false, and_false) refl

  -- the rows have both stamps, and every place is compared
  pub stamp_fault-every : (n : ℕ) → e < length rows / 8 - first → k ≤ length rows / 8 - sender
      → stamp_fault n rows p first e sender k ≡ cond (every n (place_right rows p first e sender k)) (Ok tt) (Err Reason.Stamp)
  unfolding stamp_fault has
  stamp_fault-every n h g = rw (le-leb (suc e) (length rows / 8 - first) h, le-leb k (length rows / 8 - sender) g) refl

-- a receipt from the station at place i
pub receipt_fault-from : (n : ℕ) (m firsts rows : List ℕ) (p e i k : ℕ)
    → receipt_fault n m firsts rows p e (suc i) k
    ≡ cond (ltb n (suc i) || eqb (suc i) (p + 1)) (Err Reason.Origin)
    (cond (leb 1 k && leb k (at m i)) (stamp_fault n rows p (at firsts p) e (at firsts i) k) (Err Reason.Number))
unfolding receipt_fault
receipt_fault-from n m firsts rows p e i k =
    let d : suc i - 1 ≡ i = omega arith in
    ap (λ (j : ℕ). cond (ltb n (suc i) || eqb (suc i) (p + 1)) (Err Reason.Origin) (cond (leb 1 k && leb k (at m j)) (stamp_fault n rows p (at firsts p) e (at firsts j) k) (Err Reason.Number))) d

module _ (n : ℕ) (m firsts rows : List ℕ) (o k p e : ℕ) where
  -- a record's fault by the kind of its origin is its fault
  pub table_fault-source : n ≤ 8 → p < n → (x : Result Source Reason) → x ≡ source_of o → source_fault n m firsts rows x k p e ≡ table_fault n m firsts rows o k p e
  unfolding table_fault
  table_fault-source h g x i = rw (i, le-leb n 8 h, lt-ltb p n g) refl

  -- two permitted replies are equal
  pub message_fault_unique : (r r' : Tested) → r ≡ table_fault n m firsts rows o k p e → r' ≡ table_fault n m firsts rows o k p e → r ≡ r'
  message_fault_unique r r' a b = a ∙ sym b

-- number p of a list that begins with f's values
pub front_at : (f : ℕ → ℕ) (k p : ℕ) (d l : List ℕ) → l ≡ tab k f ++ d → p < k → at l p ≡ f p
front_at f k p d l e h = rw e (get_or-append (tab k f) d 0 p (omega (arith, length_tab k f)) ∙ get_d-tab k f 0 p h)

-- the sums of eight counts, by what they were made of
pub sums_made : (f : ℕ → ℕ) (m : List ℕ) (r : List ℕ) → m ≡ tab 8 f → r ≡ tab 9 (λ p. sum_to p (at m)) → r ≡ tab 9 (λ p. sum_to p f)
sums_made f m r em er =
    er ∙ tab_same 9 _ _ (λ p h. sum_to-same p _ _ (λ q k. rw em (get_d-tab 8 f 0 q (omega arith))))
