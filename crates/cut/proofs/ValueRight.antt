-- The cut as a value is the law's: specs/Value.antt read in the law's words, and tied to the cuts, steps and ranks of specs/Cut.antt and specs/Rank.antt.
-- In order: full cuts and the cuts of a recording; where a step is found; what it hands back; the box; the rank; that two replies are equal; T.
-- Assumes nothing.
use mathlib.Core.Path.{◌≡◌, refl, sym, ap, ◌∙◌}
use mathlib.Core.Bool.{true, ◌&&◌}
use mathlib.Core.Logic.{◌↔◌}
use mathlib.Core.List.{List}
use Prim.Native.Nat.{ℕ, ◌+◌, ◌-◌, ◌≤◌, ◌<◌, min}
use native.Mathlib.Decide.{dec_lt}
use native.Mathlib.Omega.{arith}
use lib.Dec.{leb, ltb, eqb}
use lib.ListN.{length, set, length-set}
use lib.Seq.{take-set-lt, get_or-set_other, get_or-set_same, set-set, set-get_or}
use borrow.Author.Tests.{ltb-true, leb-true, eqb-true, lt-ltb, le-leb, eq-eqb}
use Rattle.cuts.specs.Below.{sum_to}
use Rattle.cuts.specs.Cut.{at, forward, back, total, Within}
use Rattle.cuts.specs.Rank.{weight, rank, box}
use Rattle.cut.specs.Value.{most_at, under, is_full, is_cut, is_station, FullCut, CutOf, counts_of, moved, with_count, forward_of, back_of, box_of, rank_of, events_of}
use Rattle.cut.specs.declared.Cut.{Cut}
use Rattle.std.proofs.Common.{Option, Some, None, is_some, IsSome}
use Rattle.std.proofs.lemmas.Option.{same_Some}
use Rattle.cuts.proofs.BelowLaws.{and_true}
use Rattle.cut.proofs.ValueLaws.{most_at-in, most_at-beyond, under_at, found_moved}
use Rattle.cuts.proofs.RankLaws.{box_pos}
use Rattle.cuts.proofs.ReplyLaws.{refuted, replies_equal}
use Rattle.cut.proofs.ValueLaws.{forward_of-some, back_of-some, at-counts_of, at_set_le, set_forward, set_back, within_take, box_take, rank_to, rank_take, total_take}

-- under in the law's words: no count above its m, none beyond n that is not 0
pub record Under (m c : Cut) : Type 0 where
  pub no_above : (p : ℕ) → p < 8 → p < m.n → at c.counts p ≤ at m.counts p
  pub beyond : (p : ℕ) → p < 8 → m.n ≤ p → at c.counts p ≡ 0

pub under_is : (m c : Cut) → (under m c ≡ true) ↔ Under m c
under_is m c = (reads, tests)
  where
    reads : under m c ≡ true → Under m c
    reads h = record {
      no_above = λ p l k. omega (arith, (under_at m c).0 h p l, most_at-in m p k);
      beyond = λ p l k. omega (arith, (under_at m c).0 h p l, most_at-beyond m p k);
    }

    tests : Under m c → under m c ≡ true
    tests u = (under_at m c).1 (λ p l. go p l (dec_lt p m.n))
      where
        go : (p : ℕ) → p < 8 → Dec (p < m.n) → at c.counts p ≤ most_at m p
        go p l (yes k) = omega (arith, u.no_above p l k, most_at-in m p k)
        go p l (no k) = omega (arith, u.beyond p l (omega arith))

pub is_full-is : (m : Cut) → (is_full m ≡ true) ↔ FullCut m
unfolding is_full
is_full-is m = (reads, tests)
  where
    reads : (leb 1 m.n && leb m.n 8 && under m m) ≡ true → FullCut m
    reads h =
        let (a, u) = and_true (leb 1 m.n && leb m.n 8) (under m m) h in
        let (l, k) = and_true (leb 1 m.n) (leb m.n 8) a in
        record { some_station = leb-true _ _ l; most_eight = leb-true _ _ k; beyond = ((under_is m m).0 u).beyond }

    tests : FullCut m → (leb 1 m.n && leb m.n 8 && under m m) ≡ true
    tests f =
        let u : under m m ≡ true = (under_is m m).1 (record { no_above = λ p l k. omega arith; beyond = f.beyond }) in
        simp (le-leb _ _ f.some_station, le-leb _ _ f.most_eight, u)

pub is_cut-is : (m c : Cut) → (is_cut m c ≡ true) ↔ CutOf m c
unfolding is_cut
is_cut-is m c = (reads, tests)
  where
    reads : (is_full m && eqb c.n m.n && under m c) ≡ true → CutOf m c
    reads h =
        let (a, u) = and_true (is_full m && eqb c.n m.n) (under m c) h in
        let (f, e) = and_true (is_full m) (eqb c.n m.n) a in
        let full : FullCut m = (is_full-is m).0 f in
        record {
          full = full;
          same_n = eqb-true _ _ e;
          no_above = λ p l. ((under_is m c).0 u).no_above p (omega (arith, full.most_eight)) l;
          beyond = ((under_is m c).0 u).beyond;
        }

    tests : CutOf m c → (is_full m && eqb c.n m.n && under m c) ≡ true
    tests d =
        let u : under m c ≡ true = (under_is m c).1 (record { no_above = λ p l k. d.no_above p k; beyond = d.beyond }) in
        simp ((is_full-is m).1 d.full, eq-eqb _ _ d.same_n, u)

-- a cut of the recording and a station of it
pub station_is : (m c : Cut) (s : ℕ) → ((is_cut m c && is_station m s) ≡ true) ↔ (CutOf m c × (1 ≤ s) × (s ≤ m.n))
unfolding is_station
station_is m c s = (reads, tests)
  where
    reads : (is_cut m c && (leb 1 s && leb s m.n)) ≡ true → CutOf m c × (1 ≤ s) × (s ≤ m.n)
    reads h =
        let (d, r) = and_true (is_cut m c) (leb 1 s && leb s m.n) h in
        let (l, k) = and_true (leb 1 s) (leb s m.n) r in
        ((is_cut-is m c).0 d, leb-true _ _ l, leb-true _ _ k)

    tests : CutOf m c × (1 ≤ s) × (s ≤ m.n) → (is_cut m c && (leb 1 s && leb s m.n)) ≡ true
    tests (d, l, k) = simp ((is_cut-is m c).1 d, le-leb _ _ l, le-leb _ _ k)

-- where a step is found: a and b are what the test of the named count compares
step_found : (m c new : Cut) (s a b : ℕ)
    → IsSome (moved (is_cut m c && is_station m s && ltb a b) new) ↔ (CutOf m c × (1 ≤ s) × (s ≤ m.n) × (a < b))
step_found m c new s a b = (reads, tests)
  where
    reads : IsSome (moved (is_cut m c && is_station m s && ltb a b) new) → CutOf m c × (1 ≤ s) × (s ≤ m.n) × (a < b)
    reads h =
        let (i, t) = and_true (is_cut m c && is_station m s) (ltb a b) (sym (found_moved _ new) ∙ h) in
        let (d, l, k) = (station_is m c s).0 i in
        (d, l, k, ltb-true _ _ t)

    tests : CutOf m c × (1 ≤ s) × (s ≤ m.n) × (a < b) → IsSome (moved (is_cut m c && is_station m s && ltb a b) new)
    tests (d, l, k, t) = found_moved _ new ∙ simp ((station_is m c s).1 (d, l, k), lt-ltb _ _ t)

-- "There is none exactly if the station is not 1 to n, the cut is not one of the recording .., or the named count would leave 0 to m"
pub forward_found : (m c : Cut) (s : ℕ)
    → IsSome (forward_of m c s) ↔ (CutOf m c × (1 ≤ s) × (s ≤ m.n) × (at c.counts (s - 1) < at m.counts (s - 1)))
unfolding forward_of
forward_found m c s = step_found m c _ s _ _

pub back_found : (m c : Cut) (s : ℕ) → IsSome (back_of m c s) ↔ (CutOf m c × (1 ≤ s) × (s ≤ m.n) × (0 < at c.counts (s - 1)))
unfolding back_of
back_found m c s = step_found m c _ s _ _

-- what a step from c hands back: a cut of the same recording, whose counts are l
pub record Stepped (m c next : Cut) (l : List ℕ) : Type 0 where
  pub counts : counts_of next ≡ l
  pub same_n : next.n ≡ c.n
  pub cut : CutOf m next
  pub eight : length next.counts ≡ 8

with_count-stepped : (m c : Cut) (p x : ℕ) → CutOf m c → length c.counts ≡ 8 → p < m.n → x ≤ at m.counts p
    → Stepped m c (with_count c p x) (set (counts_of c) p x)
with_count-stepped m c p x d e h k = record {
  counts = take-set-lt c.n c.counts p x (omega (arith, d.same_n));
  same_n = refl;
  cut = record {
    full = d.full;
    same_n = d.same_n;
    no_above = above;
    beyond = λ q l o. get_or-set_other c.counts p q x 0 (λ z. omega arith) ∙ d.beyond q l o;
  };
  eight = length-set c.counts p x ∙ e;
}
  where
    above : (q : ℕ) → q < m.n → at (set c.counts p x) q ≤ at m.counts q
    above q l = at_set_le c.counts p x q (at m.counts q) (λ z. rw z k) (d.no_above q l)

-- where the step is found it is the step of specs/Cut.antt
pub forward_counts : (m c next : Cut) (s : ℕ) → forward_of m c s ≡ Some next → length c.counts ≡ 8
    → Stepped m c next (forward (s - 1) (counts_of c))
forward_counts m c next s f e =
    let found : IsSome (forward_of m c s) = ap is_some f in
    let (d, l, k, t) = (forward_found m c s).0 found in
    rw (← same_Some _ next (forward_of-some m c s found ∙ f), ← set_forward (counts_of c) (s - 1), at-counts_of c (s - 1) (omega (arith, d.same_n)))
    (with_count-stepped m c (s - 1) _ d e (omega arith) (omega arith))

pub back_counts : (m c next : Cut) (s : ℕ) → back_of m c s ≡ Some next → length c.counts ≡ 8 → Stepped m c next (back (s - 1) (counts_of c))
back_counts m c next s f e =
    let found : IsSome (back_of m c s) = ap is_some f in
    let (d, l, k, t) = (back_found m c s).0 found in
    rw (← same_Some _ next (back_of-some m c s found ∙ f), ← set_back (counts_of c) (s - 1), at-counts_of c (s - 1) (omega (arith, d.same_n)))
    (with_count-stepped m c (s - 1) _ d e (omega arith) (omega (arith, d.no_above (s - 1) (omega arith))))

-- a step forward and the same back give the first cut again
pub forward_back_value : (m c next : Cut) (s : ℕ) → forward_of m c s ≡ Some next → length c.counts ≡ 8 → back_of m next s ≡ Some c
forward_back_value m c next s f e =
    let found : IsSome (forward_of m c s) = ap is_some f in
    let (d, l, k, t) = (forward_found m c s).0 found in
    let p = s - 1 in
    let g : with_count c p (at c.counts p + 1) ≡ next = same_Some _ next (forward_of-some m c s found ∙ f) in
    let n : CutOf m next = (forward_counts m c next s f e).cut in
    let x : at (with_count c p (at c.counts p + 1)).counts p ≡ at c.counts p + 1 = get_or-set_same c.counts p _ 0 (omega (arith, d.full.most_eight)) in
    let y : at c.counts p + 1 - 1 ≡ at c.counts p = omega arith in
    let z : at next.counts p ≡ at c.counts p + 1 = ap (λ (u : Cut). at u.counts p) (sym g) ∙ x in
    let b : IsSome (back_of m next s) = (back_found m next s).1 (n, l, k, omega arith) in
    sym (back_of-some m next s b) ∙ rw (← g, x, set-set, y, set-get_or c.counts p 0) refl

-- a cut of the recording is one of specs/Cut.antt
pub within_value : (m c : Cut) → CutOf m c → length c.counts ≡ 8 → length m.counts ≡ 8 → Within (counts_of m) (counts_of c)
within_value m c d e f =
    rw d.same_n
    (within_take m.n m.counts c.counts (omega (arith, d.full.most_eight)) (omega (arith, d.full.most_eight)) d.no_above)

-- the box of a full cut, held at its ceiling
pub box_of-full : (m : Cut) → FullCut m → box_of m ≡ min (box (counts_of m)) 65537
unfolding box_of
box_of-full m f = rw ((is_full-is m).1 f) refl

pub box_of-none : (m : Cut) → (FullCut m → ⊥) → box_of m ≡ 0
unfolding box_of
box_of-none m h = rw (refuted (is_full m) (λ e. h ((is_full-is m).0 e))) refl

-- .. so that 0 says that there is no such recording
pub box_of-pos : (m : Cut) → FullCut m → 0 < box_of m
box_of-pos m f = omega (arith, box_of-full m f, box_pos (counts_of m))

-- the box of eight counts is the product that the code's loop makes
pub box_loop : (m : Cut) → FullCut m → length m.counts ≡ 8 → box (counts_of m) ≡ weight m.counts m.n
box_loop m f l = box_take m.counts m.n (omega (arith, f.most_eight))

pub box_of-loop : (m : Cut) → FullCut m → length m.counts ≡ 8 → box_of m ≡ min (weight m.counts m.n) 65537
box_of-loop m f l = box_of-full m f ∙ ap (λ (b : ℕ). min b 65537) (box_loop m f l)

-- the rank of a cut of the recording, where the box is within its limit
pub rank_of-some : (m c : Cut) → CutOf m c → box (counts_of m) ≤ 65536 → rank_of m c ≡ Some (rank (counts_of m) (counts_of c))
unfolding rank_of
rank_of-some m c d h = rw ((is_cut-is m c).1 d, le-leb _ _ h) refl

pub rank_of-none : (m c : Cut) → (CutOf m c → box (counts_of m) ≤ 65536 → ⊥) → rank_of m c ≡ None
unfolding rank_of
rank_of-none m c h = rw (refuted (is_cut m c && leb (box (counts_of m)) 65536) no) refl
  where
    no : (is_cut m c && leb (box (counts_of m)) 65536) ≡ true → ⊥
    no e =
        let (a, b) = and_true (is_cut m c) (leb (box (counts_of m)) 65536) e in
        h ((is_cut-is m c).0 a) (leb-true _ _ b)

-- the rank of eight counts is the sum that the code's loop makes
pub rank_of-loop : (m c : Cut) → CutOf m c → length m.counts ≡ 8 → weight m.counts m.n ≤ 65536
    → rank_of m c ≡ Some (rank_to m.counts c.counts m.n)
rank_of-loop m c d l h =
    rank_of-some m c d (omega (arith, box_loop m d.full l))
    ∙ ap Some (rw d.same_n (rank_take m.counts c.counts m.n (omega (arith, d.full.most_eight))))

pub forward_unique : (m c : Cut) (s : ℕ) (r r' : Option Cut) → r ≡ forward_of m c s → r' ≡ forward_of m c s → r ≡ r'
forward_unique m c s r r' = replies_equal

pub back_unique : (m c : Cut) (s : ℕ) (r r' : Option Cut) → r ≡ back_of m c s → r' ≡ back_of m c s → r ≡ r'
back_unique m c s r r' = replies_equal

pub box_unique : (m : Cut) (r r' : ℕ) → r ≡ box_of m → r' ≡ box_of m → r ≡ r'
box_unique m r r' = replies_equal

pub rank_unique : (m c : Cut) (r r' : Option ℕ) → r ≡ rank_of m c → r' ≡ rank_of m c → r ≡ r'
rank_unique m c r r' = replies_equal

-- T of a full cut
pub events_of-full : (m : Cut) → FullCut m → events_of m ≡ total (counts_of m)
unfolding events_of
events_of-full m f = rw ((is_full-is m).1 f) refl

pub events_of-none : (m : Cut) → (FullCut m → ⊥) → events_of m ≡ 0
unfolding events_of
events_of-none m h = rw (refuted (is_full m) (λ e. h ((is_full-is m).0 e))) refl

-- T of eight counts is the sum that the code's loop makes
pub events_of-loop : (m : Cut) → FullCut m → length m.counts ≡ 8 → events_of m ≡ sum_to m.n (at m.counts)
events_of-loop m f l = events_of-full m f ∙ total_take m.n m.counts (omega (arith, f.most_eight))

pub events_unique : (m : Cut) (r r' : ℕ) → r ≡ events_of m → r' ≡ events_of m → r ≡ r'
events_unique m r r' = replies_equal
