-- The verdicts read off the marks are the ones asked for: the first 1 in rank order is the witness, and the walk back at the lowest station gives the
-- path that comes first. And one answer each is permitted. In order: dictionary order; the walk; Def; Poss. Assumes nothing.
use mathlib.Core.Path.{◌≡◌, refl, sym, ap, ap₂, ◌∙◌, subst, fun_ext}
use mathlib.Core.Logic.{◌⊎◌, inl, inr, ◌↔◌}
use mathlib.Core.Option.{Option, none, some}
use mathlib.Core.List.{List, [], ◌∷◌, reverse, reverse-reverse}
use mathlib.Core.Bool.{Bool, true, false, cond, false≢true}
use Prim.Native.Nat.{ℕ, zero, suc, ◌<◌}
use native.Mathlib.Nat.{eq-or-lt_of_le, le_antisymm}
use native.Mathlib.Omega.{arith}
use lib.ListN.{length}
use lib.Dec.{ltb, eqb}
use borrow.Author.Tests.{ltb-true, ltb-false, eqb-true, eqb-false, eq-eqb}
use Rattle.cuts.specs.Cut.{forward, back, total, Within}
use Rattle.cuts.specs.Rank.{rank, unrank, box}
use Rattle.cuts.specs.Below.{first}
use Rattle.cuts.specs.Way.{cut_of, Along, start, step, last, earlier}
use Rattle.cuts.specs.Verdict.{Lattice, Dict, Consistent, Holds, Quiet, IsPath, Meets, Def, Shown, PossIs, DefIs}
use Rattle.cuts.specs.Computed.{leads, mark_of, walk, looked, is_one, poss_of, def_of}
use Rattle.cuts.proofs.CutLaws.{within_full, within_back, at_forward_same, back_forward}
use Rattle.cuts.proofs.RankLaws.{rank_lt, unrank_rank, rank_unrank, unrank_within}
use Rattle.cuts.proofs.BelowLaws.{first_is, first_le}
use Rattle.cuts.proofs.WayLaws.{along_within, along_map, along_total, cut_of-length}
use Rattle.cuts.proofs.MarksRight.{mark, lead_same, true_leads, way_three, walk_way, three_reached, table_says}
use Rattle.cuts.proofs.TabledRight.{tabled_at}

dict_antisym : (xs ys : List ℕ) → Dict xs ys → Dict ys xs → xs ≡ ys
dict_antisym [] [] a b = refl
dict_antisym [] (y ∷ ys) a b = absurd b
dict_antisym (x ∷ xs) [] a b = absurd a
dict_antisym (x ∷ xs) (y ∷ ys) (inl a) (inl b) = absurd (omega arith)
dict_antisym (x ∷ xs) (y ∷ ys) (inl a) (inr b) = absurd (omega arith)
dict_antisym (x ∷ xs) (y ∷ ys) (inr a) (inl b) = absurd (omega arith)
dict_antisym (x ∷ xs) (y ∷ ys) (inr a) (inr b) = ap₂ {C = List ℕ} (λ u v. u ∷ v) a.0 (dict_antisym xs ys a.1 b.1)

module _ (L : Lattice) where
  abbrev m : List ℕ
  m = L.counts

  -- the walk from the end of a way through quiet cuts does not come after it
  walk_first : (way : List ℕ) → Along m (Quiet L) way → Dict (walk L (mark L) (length way) (cut_of m way)) way
  unfolding walk
  walk_first [] a = tt
  walk_first (p ∷ way) (step h r x a) = go (walk_first way a) (eq-or-lt_of_le (first_le f (length m) p passes))
    where
      c : List ℕ
      c = forward p (cut_of m way)

      w : Within m c
      w = along_within (step h r x a)

      f : ℕ → Bool
      f = leads c (λ p. mark L (back p c))

      passes : f p ≡ true
      passes = sym (lead_same L c p) ∙ true_leads L c p (omega (arith, at_forward_same p (cut_of m way) (rw (cut_of-length m way) h))) (rw back_forward (way_three L a))

      go : Dict (walk L (mark L) (length way) (cut_of m way)) way → (first f (length m) ≡ p) ⊎ (first f (length m) < p) → Dict (walk L (mark L) (suc (length way)) c) (p ∷ way)
      go ih (inl e) = inr (e, subst (λ (d : List ℕ). Dict (walk L (mark L) (length way) d) way) (sym (ap (λ (q : ℕ). back q c) e ∙ back_forward p (cut_of m way))) ih)
      go ih (inr l) = inl l

  -- a way through consistent cuts meets one that satisfies, or it is quiet; never both
  pub meets_or_quiet : {way : List ℕ} → Along m (Consistent L) way → Meets L way ⊎ Along m (Quiet L) way
  meets_or_quiet (start x) = go (L.holds (cut_of m [])) refl
    where
      go : (b : Bool) → L.holds (cut_of m []) ≡ b → Meets L [] ⊎ Along m (Quiet L) []
      go true e = inl (last e)
      go false e = inr (start (x, e))
  meets_or_quiet (step {p = p} {way = way} h r x a) = go (L.holds (cut_of m (p ∷ way))) refl (meets_or_quiet a)
    where
      go : (b : Bool) → L.holds (cut_of m (p ∷ way)) ≡ b → Meets L way ⊎ Along m (Quiet L) way → Meets L (p ∷ way) ⊎ Along m (Quiet L) (p ∷ way)
      go true e o = inl (last e)
      go false e (inl o) = inl (earlier o)
      go false e (inr o) = inr (step h r (x, e) o)

  quiet_not : {way : List ℕ} → Along m (Quiet L) way → Meets L way → ⊥
  quiet_not (start x) (last y) = false≢true (sym x.1 ∙ y)
  quiet_not (step h r x a) (last y) = false≢true (sym x.1 ∙ y)
  quiet_not (step h r x a) (earlier y) = quiet_not a y

  -- a path that avoids is a way through quiet cuts to the full cut
  pub avoiding : (way : List ℕ) → (IsPath L way × ¬ Meets L way) ↔ (Along m (Quiet L) way × (cut_of m way ≡ m))
  avoiding way = (λ ((a, e), n). (go n (meets_or_quiet a), e), λ (a, e). ((along_map (λ c q. q.0) a, e), quiet_not a))
    where
      go : ¬ Meets L way → Meets L way ⊎ Along m (Quiet L) way → Along m (Quiet L) way
      go n (inl o) = absurd (n o)
      go n (inr a) = a

  shown_is : mark L m ≡ 3 → Shown L (walk L (mark L) (total m) m)
  shown_is e = let (a, z) = walk_way L (total m) m (within_full m) refl e in record {
    path = ((avoiding _).1 (a, z)).0;
    avoids = ((avoiding _).1 (a, z)).1;
    first = λ way p n. least way ((avoiding way).0 (p, n));
  }
    where
      least : (way : List ℕ) → Along m (Quiet L) way × (cut_of m way ≡ m) → Dict (walk L (mark L) (total m) m) way
      least way (b, y) = subst (λ (k : ℕ). Dict (walk L (mark L) k m) way) (sym (along_total b) ∙ ap total y) (subst (λ (d : List ℕ). Dict (walk L (mark L) (length way) d) way) y (walk_first way b))

  def_is : ¬ (mark L m ≡ 3) → Def L
  def_is n way (a, e) = go (meets_or_quiet a)
    where
      go : Meets L way ⊎ Along m (Quiet L) way → Meets L way
      go (inl o) = o
      go (inr q) = absurd (n ((three_reached L m (within_full m)).1 (way, q, e)))

  looked_is : (c : List ℕ) → Within m c → looked L c ≡ mark L c
  looked_is c w = tabled_at (mark_of L) m (box m) c w (rank_lt m c w)

  walk_same : (k : ℕ) (c : List ℕ) → Within m c → walk L (looked L) k c ≡ walk L (mark L) k c
  unfolding walk
  walk_same zero c w = refl
  walk_same (suc k) c w = ap (λ (q : ℕ). q ∷ walk L (looked L) k (back q c)) p≡ ∙ ap {B = List ℕ} (λ r. first (leads c (λ p. mark L (back p c))) (length m) ∷ r) (walk_same k (back (first (leads c (λ p. mark L (back p c))) (length m)) c) (within_back m c _ w))
    where
      p≡ : first (leads c (λ p. looked L (back p c))) (length m) ≡ first (leads c (λ p. mark L (back p c))) (length m)
      p≡ = ap (λ (g : ℕ → ℕ). first (leads c g) (length m)) (fun_ext (λ p. looked_is (back p c) (within_back m c p w)))

  -- Def, with its path, is what is asked
  pub def_right : DefIs L (def_of L)
  unfolding def_of
  def_right = go (eqb (looked L m) 3) refl
    where
      full : looked L m ≡ mark L m
      full = looked_is m (within_full m)

      go : (b : Bool) → eqb (looked L m) 3 ≡ b → DefIs L (cond b (some (reverse (walk L (looked L) (total m) m))) none)
      go true e = rw (walk_same (total m) m (within_full m), reverse-reverse) (shown_is (sym full ∙ eqb-true _ 3 e))
      go false e = def_is (λ h. eqb-false _ 3 e (full ∙ h))

  pub def_unique : (a b : Option (List ℕ)) → DefIs L a → DefIs L b → a ≡ b
  def_unique none none x y = refl
  def_unique none (some c) x y = absurd (y.avoids (x _ y.path))
  def_unique (some c) none x y = absurd (x.avoids (y _ x.path))
  def_unique (some c) (some d) x y = ap some (sym (reverse-reverse c) ∙ ap reverse same ∙ reverse-reverse d)
    where
      same : reverse c ≡ reverse d
      same = dict_antisym _ _ (x.first _ y.path y.avoids) (y.first _ x.path x.avoids)

  one_at : (r : ℕ) → r < box m → is_one L r ≡ true → Consistent L (unrank m r) × Holds L (unrank m r)
  one_at r h e = (table_says L (unrank m r) (unrank_within m r h)).is_1.0 (rw (rank_unrank m r h) (eqb-true _ 1 e))

  at_one : (c : List ℕ) → Within m c → Consistent L c → Holds L c → is_one L (rank m c) ≡ true
  at_one c w x y = eq-eqb _ 1 ((table_says L c w).is_1.1 (x, y))

  -- Poss, with its witness, is what is asked
  pub poss_right : PossIs L (poss_of L)
  unfolding poss_of
  poss_right = go (ltb k (box m)) refl
    where
      k : ℕ
      k = first (is_one L) (box m)

      go : (b : Bool) → ltb k (box m) ≡ b → PossIs L (cond b (some (unrank m k)) none)
      go true e = let h = ltb-true k (box m) e in let (x, y) = one_at k h ((first_is (is_one L) (box m)).passes h) in record {
        within = unrank_within m k h;
        consistent = x;
        holds = y;
        lowest = λ d i a b. rw (rank_unrank m k h) (first_le (is_one L) (box m) (rank m d) (at_one d i a b));
      }
      go false e = λ (c, i, a, b). omega (arith, ltb-false k (box m) e, first_le (is_one L) (box m) (rank m c) (at_one c i a b), rank_lt m c i)

  pub poss_unique : (a b : Option (List ℕ)) → PossIs L a → PossIs L b → a ≡ b
  poss_unique none none x y = refl
  poss_unique none (some c) x y = absurd (x (c, y.within, y.consistent, y.holds))
  poss_unique (some c) none x y = absurd (y (c, x.within, x.consistent, x.holds))
  poss_unique (some c) (some d) x y = ap some (sym (unrank_rank m c x.within) ∙ ap (unrank m) same ∙ unrank_rank m d y.within)
    where
      same : rank m c ≡ rank m d
      same = le_antisymm (x.lowest d y.within y.consistent y.holds) (y.lowest c x.within x.consistent x.holds)
