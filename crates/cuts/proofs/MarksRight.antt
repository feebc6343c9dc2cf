-- Every computed mark is what its sentence says, and the sentences determine it: a mark of 3 spreads by single steps from the start, and a walk back
-- from a 3 is such a way. In order: the numbers of marks; 3 and ways; all four sentences; one mark only. Assumes nothing.
use mathlib.Core.Path.{◌≡◌, refl, sym, ap, ◌∙◌, subst, fun_ext}
use mathlib.Core.Logic.{◌⊎◌, inl, inr, ◌↔◌}
use mathlib.Core.List.{List, [], ◌∷◌}
use mathlib.Core.Bool.{Bool, true, false, ◌&&◌, cond}
use Prim.Native.Nat.{ℕ, zero, suc, ◌<◌}
use native.Mathlib.Omega.{arith}
use lib.ListN.{length, get_or}
use lib.Dec.{ltb, eqb}
use borrow.Author.Tests.{ltb-true, lt-ltb, eqb-true, eq-eqb}
use Rattle.cuts.specs.Cut.{at, zeros, forward, back, total, Within}
use Rattle.cuts.specs.Rank.{rank, box}
use Rattle.cuts.specs.Below.{first, any}
use Rattle.cuts.specs.Way.{cut_of, Along, start, step}
use Rattle.cuts.specs.Verdict.{Lattice, Quiet, Reached, Says}
use Rattle.cuts.specs.Computed.{number, leads, met, value, mark_of, table, walk}
use Rattle.cuts.proofs.CutLaws.{within_back, within_length, within_at, at_forward_same, at_back, back_forward, forward_back, total_back, total_zeros, zeros_of}
use Rattle.cuts.proofs.RankLaws.{rank_lt}
use Rattle.cuts.proofs.TabledRight.{value_is, tabled_at}
use Rattle.cuts.proofs.BelowLaws.{any_true, true_any, and_true, or_true, or_right}
use Rattle.cuts.proofs.WayLaws.{cut_of-length}

number_0 : (a b w : Bool) → number a b w ≡ 0 → a ≡ false
number_0 false b w h = refl
number_0 true true w h = absurd (omega arith)
number_0 true false true h = absurd (omega arith)
number_0 true false false h = absurd (omega arith)

number_1 : (a b w : Bool) → number a b w ≡ 1 → (a ≡ true) × (b ≡ true)
number_1 false b w h = absurd (omega arith)
number_1 true true w h = (refl, refl)
number_1 true false true h = absurd (omega arith)
number_1 true false false h = absurd (omega arith)

number_2 : (a b w : Bool) → number a b w ≡ 2 → (a ≡ true) × (b ≡ false)
number_2 false b w h = absurd (omega arith)
number_2 true true w h = absurd (omega arith)
number_2 true false true h = absurd (omega arith)
number_2 true false false h = (refl, refl)

number_3 : (a b w : Bool) → number a b w ≡ 3 → (a ≡ true) × (b ≡ false) × (w ≡ true)
number_3 false b w h = absurd (omega arith)
number_3 true true w h = absurd (omega arith)
number_3 true false true h = (refl, refl, refl)
number_3 true false false h = absurd (omega arith)

module _ (L : Lattice) where
  abbrev m : List ℕ
  m = L.counts

  -- the mark of a cut
  abbrev pub mark : List ℕ → ℕ
  mark = value (mark_of L)

  -- the marks one step back
  abbrev backs : List ℕ → ℕ → ℕ
  backs c p = cond (ltb 0 (at c p)) (mark (back p c)) 0

  pub leads_true : (c : List ℕ) (p : ℕ) → leads c (backs c) p ≡ true → (0 < at c p) × (mark (back p c) ≡ 3)
  leads_true c p e = let (a, b) = and_true (ltb 0 (at c p)) _ e in (ltb-true 0 (at c p) a, eqb-true _ 3 (rw a at b))

  pub true_leads : (c : List ℕ) (p : ℕ) → 0 < at c p → mark (back p c) ≡ 3 → leads c (backs c) p ≡ true
  true_leads c p pos e = rw (lt-ltb 0 (at c p) pos) (eq-eqb _ 3 e)

  -- a mark of 3, and what makes it
  three : (c : List ℕ) → mark c ≡ 3 → (L.consistent c ≡ true) × (L.holds c ≡ false) × (met (length m) c (backs c) ≡ true)
  unfolding mark_of
  three c e = number_3 (L.consistent c) (L.holds c) _ (sym (value_is (mark_of L) c) ∙ e)

  pub three_quiet : (c : List ℕ) → mark c ≡ 3 → Quiet L c
  three_quiet c e = ((three c e).0, (three c e).1)

  quiet_met : (c : List ℕ) → Quiet L c → met (length m) c (backs c) ≡ true → mark c ≡ 3
  unfolding mark_of
  quiet_met c q e = value_is (mark_of L) c ∙ rw (q.0, q.1, e)

  start_three : (c : List ℕ) → Quiet L c → total c ≡ 0 → mark c ≡ 3
  unfolding met
  start_three c q e = quiet_met c q (rw (eq-eqb (total c) 0 e))

  step_three : (c : List ℕ) → Quiet L c → (p : ℕ) → p < length m → 0 < at c p → mark (back p c) ≡ 3 → mark c ≡ 3
  unfolding met
  step_three c q p h pos e = quiet_met c q (or_right (eqb (total c) 0) _ (true_any (leads c (backs c)) (length m) p h (true_leads c p pos e)))

  -- from a 3 that is not the start some step back leads to a 3
  pub three_from : (c : List ℕ) → mark c ≡ 3 → 0 < total c → any (leads c (backs c)) (length m) ≡ true
  unfolding met
  three_from c e pos = go (or_true (eqb (total c) 0) _ (three c e).2)
    where
      go : (eqb (total c) 0 ≡ true) ⊎ (any (leads c (backs c)) (length m) ≡ true) → any (leads c (backs c)) (length m) ≡ true
      go (inl z) = absurd (omega (arith, eqb-true (total c) 0 z))
      go (inr s) = s

  -- a way through quiet cuts comes to a 3
  pub way_three : {way : List ℕ} → Along m (Quiet L) way → mark (cut_of m way) ≡ 3
  way_three (start x) = start_three (cut_of m []) x (total_zeros (length m))
  way_three (step {p = p} {way = way} h r x a) = step_three (cut_of m (p ∷ way)) x p h (omega (arith, at_forward_same p (cut_of m way) (rw (cut_of-length m way) h))) (rw back_forward (way_three a))

  -- one step more, to a quiet cut
  extend : (c : List ℕ) → Within m c → Quiet L c → (p : ℕ) → p < length m → 0 < at c p → (way : List ℕ) → Along m (Quiet L) way → cut_of m way ≡ back p c → Along m (Quiet L) (p ∷ way) × (cut_of m (p ∷ way) ≡ c)
  extend c w q p h pos way a e = (step {way = way} h room (rw there q) a, there)
    where
      there : forward p (cut_of m way) ≡ c
      there = ap (forward p) e ∙ forward_back p c pos

      room : at (cut_of m way) p < at m p
      room = rw e (omega (arith, at_back p c pos, within_at m c w p))

  -- two searches for a 3 that see the same marks
  pub lead_same : (c : List ℕ) (p : ℕ) → leads c (backs c) p ≡ leads c (λ p. mark (back p c)) p
  lead_same c p = go (ltb 0 (at c p))
    where
      go : (b : Bool) → (b && eqb (cond b (mark (back p c)) 0) 3) ≡ (b && eqb (mark (back p c)) 3)
      go true = refl
      go false = refl

  -- the walk back from a 3 is a way through quiet cuts to it
  pub walk_way : (k : ℕ) (c : List ℕ) → Within m c → total c ≡ k → mark c ≡ 3 → Along m (Quiet L) (walk L mark k c) × (cut_of m (walk L mark k c) ≡ c)
  unfolding walk
  walk_way zero c w t e = (start (subst (Quiet L) z (three_quiet c e)), sym z)
    where
      z : c ≡ zeros (length m)
      z = zeros_of c t ∙ ap zeros (within_length m c w)
  walk_way (suc k) c w t e = let (a, z) = walk_way k (back p c) (within_back m c p w) (omega (arith, total_back p c s.0)) s.1 in extend c w (three_quiet c e) p found.0 s.0 (walk L mark k (back p c)) a z
    where
      f : ℕ → Bool
      f = leads c (λ p. mark (back p c))

      p : ℕ
      p = first f (length m)

      found : (p < length m) × (f p ≡ true)
      found = any_true f (length m) (subst (λ (g : ℕ → Bool). any g (length m) ≡ true) (fun_ext (lead_same c)) (three_from c e (omega arith)))

      s : (0 < at c p) × (mark (back p c) ≡ 3)
      s = leads_true c p (lead_same c p ∙ found.1)

  pub three_reached : (c : List ℕ) → Within m c → (mark c ≡ 3) ↔ Reached L c
  three_reached c w = (λ e. let (a, z) = walk_way (total c) c w refl e in (walk L mark (total c) c, a, z), λ (way, a, e). rw (← e) (way_three a))

  -- every mark says what it has to
  pub mark_says : (c : List ℕ) → Within m c → Says L c (mark c)
  unfolding mark_of
  mark_says c w = go (L.consistent c) (L.holds c) (met (length m) c (backs c)) refl refl (value_is (mark_of L) c)
    where
      is : (mark c ≡ 3) ↔ Reached L c
      is = three_reached c w

      go : (a b v : Bool) → L.consistent c ≡ a → L.holds c ≡ b → mark c ≡ number a b v → Says L c (mark c)
      go a b v ea eb e = record {
        is_0 = (λ h. ea ∙ number_0 a b v (sym e ∙ h), λ h. rw (sym ea ∙ h) at e);
        is_1 = (λ h. let (x, y) = number_1 a b v (sym e ∙ h) in (ea ∙ x, eb ∙ y), λ (x, y). rw (sym ea ∙ x, sym eb ∙ y) at e);
        is_2 = (λ h. let (x, y) = number_2 a b v (sym e ∙ h) in ((ea ∙ x, eb ∙ y), λ r. omega (arith, is.1 r)), λ ((x, y), z). else_2 v (rw (sym ea ∙ x, sym eb ∙ y) at e) z);
        is_3 = is;
      }
        where
          else_2 : (u : Bool) → mark c ≡ number true false u → ¬ Reached L c → mark c ≡ 2
          else_2 true h z = absurd (z (is.0 h))
          else_2 false h z = h

  pub table_says : (c : List ℕ) → Within m c → Says L c (get_or (table L) (rank m c) 0)
  table_says c w = rw (tabled_at (mark_of L) m (box m) c w (rank_lt m c w)) (mark_says c w)

  -- and there is one such mark only
  pub says_unique : (c : List ℕ) → Within m c → (k : ℕ) → Says L c k → k ≡ mark c
  unfolding mark_of
  says_unique c w k s = go (L.consistent c) (L.holds c) (met (length m) c (backs c)) (value_is (mark_of L) c)
    where
      t : Says L c (mark c)
      t = mark_says c w

      go : (a b v : Bool) → mark c ≡ number a b v → k ≡ mark c
      go false b v e = s.is_0.1 (t.is_0.0 e) ∙ sym e
      go true true v e = s.is_1.1 (t.is_1.0 e) ∙ sym e
      go true false true e = s.is_3.1 (t.is_3.0 e) ∙ sym e
      go true false false e = s.is_2.1 (t.is_2.0 e) ∙ sym e
