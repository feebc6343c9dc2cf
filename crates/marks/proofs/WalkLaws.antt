-- What is read off the marks of a box looks at no byte behind them. In order: two walks that see the same marks; the witness, Def and the path. Assumes nothing.
use mathlib.Core.Path.{◌≡◌, refl, ap}
use mathlib.Core.Bool.{cond}
use mathlib.Core.List.{List, ◌∷◌, ◌++◌}
use Prim.Native.Nat.{ℕ, zero, suc, ◌<◌}
use native.Mathlib.Omega.{arith}
use lib.Dec.{ltb, eqb}
use lib.ListN.{length, get_or-append}
use Rattle.std.proofs.Math.Option as math
use Rattle.cuts.specs.Below.{first}
use Rattle.cuts.specs.Cut.{at, back, total, Within}
use Rattle.cuts.specs.Rank.{box, rank, unrank}
use Rattle.cuts.specs.Verdict.{Lattice}
use Rattle.cuts.specs.Computed.{leads, walk}
use Rattle.cut.specs.Value.{counts_of}
use Rattle.cut.specs.declared.Cut.{Cut}
use Rattle.cuts.proofs.CutLaws.{within_back, within_full}
use Rattle.cuts.proofs.RankLaws.{rank_lt}
use Rattle.marks.specs.Flat.{plain, witness_of, avoided, walked}
use Rattle.marks.proofs.SearchLaws.{first_same}

-- a walk sees the counts and the marks of cuts alone
pub walk_same : (L K : Lattice) → L.counts ≡ K.counts → (f g : List ℕ → ℕ) → ((c : List ℕ) → Within L.counts c → f c ≡ g c)
    → (k : ℕ) (c : List ℕ) → Within L.counts c → walk L f k c ≡ walk K g k c
unfolding walk
walk_same L K e f g h zero c w = refl
walk_same L K e f g h (suc k) c w =
    let p = first (leads c (λ p. f (back p c))) (length L.counts) in
    let same : p ≡ first (leads c (λ p. g (back p c))) (length K.counts) =
    rw (← e) (first_same _ _ (length L.counts) (λ q l. rw (h (back q c) (within_back L.counts c q w)) refl)) in
    rw (← same) (ap (λ (r : List ℕ). p ∷ r) (walk_same L K e f g h k (back p c) (within_back L.counts c p w)))

module _ (m : Cut) (l rest : List ℕ) (whole : length l ≡ box (counts_of m)) where
  abbrev k : List ℕ
  k = counts_of m

  mark_at : (r : ℕ) → r < box k → at (l ++ rest) r ≡ at l r
  mark_at r h = get_or-append l rest 0 r (omega arith)

  mark_of : (c : List ℕ) → Within k c → at (l ++ rest) (rank k c) ≡ at l (rank k c)
  mark_of c w = mark_at (rank k c) (rank_lt k c w)

  -- the witness, Def and the path of marks that begin with those of the box
  pub front : (witness_of m (l ++ rest) ≡ witness_of m l) × ((avoided m (l ++ rest) ≡ avoided m l) × ((room : List ℕ) → walked m (l ++ rest) room ≡ walked m l room))
  unfolding witness_of avoided walked
  front = (
    ap (λ (r : ℕ). cond (ltb r (box k)) (math.some (unrank k r)) math.none)
        (first_same (λ r. eqb (at (l ++ rest) r) 1) (λ r. eqb (at l r) 1) (box k) (λ r h. rw (mark_at r h) refl)),
    (
      rw (mark_of k (within_full k)) refl,
      λ room.
          rw (mark_of k (within_full k), walk_same (plain k) (plain k) refl (λ c. at (l ++ rest) (rank k c)) (λ c. at l (rank k c)) mark_of (total k) k (within_full k)) refl,
    ),
  )
