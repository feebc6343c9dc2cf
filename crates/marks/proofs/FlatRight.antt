-- What is read off the marks is what the mathematics says of the lattice. In order: one reply each; lattices that agree have the same table and the same
-- verdicts; the witness is the one of Poss; the way back is the path of Def. Assumes nothing.
use mathlib.Core.Path.{◌≡◌, refl, sym, ap, ◌∙◌}
use mathlib.Core.Bool.{Bool, true, false, cond}
use mathlib.Core.Option.{Option, none, some}
use Rattle.std.specs.Prelude as Rust
use mathlib.Core.List.{List, ◌++◌, map, reverse}
use Prim.Native.Nat.{ℕ, zero, suc, ◌≤◌, ◌<◌}
use native.Mathlib.Omega.{arith}
use lib.Dec.{ltb, eqb}
use lib.ListN.{length, drop, length-reverse, get_or-append}
use Rattle.cuts.specs.Below.{first}
use Rattle.cuts.specs.Cut.{at, total, Within}
use Rattle.cuts.specs.Rank.{box, rank, unrank}
use Rattle.cuts.specs.Verdict.{Lattice}
use Rattle.cuts.specs.Computed.{mark_of, tabled, table, looked, walk, poss_of, def_of}
use Rattle.cut.specs.Value.{counts_of}
use Rattle.cut.specs.declared.Cut.{Cut}
use Rattle.cuts.proofs.CutLaws.{within_full}
use Rattle.cuts.proofs.RankLaws.{rank_lt, unrank_within}
use Rattle.cuts.proofs.TabledRight.{length_tabled}
use Rattle.cuts.proofs.ReplyLaws.{replies_equal}
use Rattle.marks.specs.declared.Task.{Task}
use Rattle.marks.specs.declared.Verdicts.{Verdicts}
use Rattle.marks.specs.Flat.{plain, witness_of, avoided, walked, Settles}
use Rattle.marks.proofs.SearchLaws.{first_same}
use Rattle.marks.proofs.WalkLaws.{walk_same}

-- the promise permits one reply, and one content of each room
pub settle_unique : (task : Task) (room path : List ℕ) (r r' : Rust.Option Verdicts) (a b a' b' : List ℕ)
    → Settles task room path r a b → Settles task room path r' a' b' → (r ≡ r') × (a ≡ a') × (b ≡ b')
settle_unique task room path r r' a b a' b' s t =
    (replies_equal s.reply t.reply, replies_equal s.marks_after t.marks_after, replies_equal s.path_after t.path_after)

-- two lattices with the same counts whose tests agree on every cut
pub record Agreeing (L K : Lattice) : Type 0 where
  pub counts : L.counts ≡ K.counts
  pub consistent : (c : List ℕ) → Within L.counts c → L.consistent c ≡ K.consistent c
  pub holds : (c : List ℕ) → Within L.counts c → L.holds c ≡ K.holds c

tabled_same : (f g : List ℕ → (ℕ → ℕ) → ℕ) (m : List ℕ) → ((c : List ℕ) → Within m c → (b : ℕ → ℕ) → f c b ≡ g c b)
    → (r : ℕ) → r ≤ box m → tabled f m r ≡ tabled g m r
unfolding tabled
tabled_same f g m h zero l = refl
tabled_same f g m h (suc r) l = rw (tabled_same f g m h r (omega arith), h (unrank m r) (unrank_within m r l)) refl

mark_of-same : (L K : Lattice) → Agreeing L K → (c : List ℕ) → Within L.counts c → (b : ℕ → ℕ) → mark_of L c b ≡ mark_of K c b
unfolding mark_of
mark_of-same L K a c w b = rw (a.consistent c w, a.holds c w, a.counts) refl

-- they have the same table
pub table_same : (L K : Lattice) → Agreeing L K → table L ≡ table K
table_same L K a =
    tabled_same (mark_of L) (mark_of K) L.counts (mark_of-same L K a) (box L.counts) (omega arith)
    ∙ ap (λ (k : List ℕ). tabled (mark_of K) k (box k)) a.counts

-- the witness, read off a table of a recording with k events
abbrev poss_in : List ℕ → List ℕ → Option (List ℕ)
poss_in k table = let r = first (λ r. eqb (at table r) 1) (box k) in cond (ltb r (box k)) (some (unrank k r)) none

-- .. and the path
abbrev def_in : List ℕ → List ℕ → Option (List ℕ)
def_in k table = cond (eqb (at table (rank k k)) 3) (some (reverse (walk (plain k) (λ c. at table (rank k c)) (total k) k))) none

poss_of-in : (L : Lattice) → poss_of L ≡ poss_in L.counts (table L)
unfolding poss_of
poss_of-in L = refl

def_of-in : (L : Lattice) → def_of L ≡ def_in L.counts (table L)
unfolding def_of
def_of-in L = rw (walk_same L (plain L.counts) refl (looked L) (looked L) (λ c w. refl) (total L.counts) L.counts (within_full L.counts)) refl

-- .. and the same verdicts
pub poss_same : (L K : Lattice) → Agreeing L K → poss_of L ≡ poss_of K
poss_same L K a = rw (poss_of-in L, poss_of-in K, table_same L K a, a.counts) refl

pub def_same : (L K : Lattice) → Agreeing L K → def_of L ≡ def_of K
def_same L K a = rw (def_of-in L, def_of-in K, table_same L K a, a.counts) refl

-- the answer of Def laid into the room: the path as station numbers, first step first, and the rest as before; without a path the room as it was
abbrev pub laid_in : ℕ → Option (List ℕ) → List ℕ → List ℕ
laid_in events none room = room
laid_in events (some path) room = map suc path ++ drop events room

-- there is a path
abbrev pub is_path : Option (List ℕ) → Bool
is_path none = false
is_path (some path) = true

-- marks that begin with the table of a lattice with the counts of m
module _ (m : Cut) (L : Lattice) (counts : L.counts ≡ counts_of m) (marks rest : List ℕ) (begins : marks ≡ table L ++ rest) where
  marks_at : (r : ℕ) → r < box (counts_of m) → at marks r ≡ at (table L) r
  marks_at r h =
      rw begins (get_or-append (table L) rest 0 r (omega (arith, length_tabled (mark_of L) L.counts (box L.counts), ap box counts)))

  poss_marks : poss_of L ≡ poss_in (counts_of m) marks
  poss_marks =
      poss_of-in L
      ∙ ap (λ (k : List ℕ). poss_in k (table L)) counts
      ∙ ap (λ (r : ℕ). cond (ltb r (box (counts_of m))) (some (unrank (counts_of m) r)) none)
      (first_same (λ r. eqb (at (table L) r) 1) (λ r. eqb (at marks r) 1) (box (counts_of m)) (λ r h. rw (marks_at r h) refl))

  def_marks : def_of L ≡ def_in (counts_of m) marks
  def_marks =
      def_of-in L
      ∙ ap (λ (k : List ℕ). def_in k (table L)) counts
      ∙ rw (sym (mark (counts_of m) (within_full (counts_of m))), walk_same (plain (counts_of m)) (plain (counts_of m)) refl _ _ (λ c w. sym (mark c w)) (total (counts_of m)) (counts_of m) (within_full (counts_of m))) refl
    where
      mark : (c : List ℕ) → Within (counts_of m) c → at marks (rank (counts_of m) c) ≡ at (table L) (rank (counts_of m) c)
      mark c w = marks_at (rank (counts_of m) c) (rank_lt (counts_of m) c w)

  -- the witness read off the marks is that of Poss
  pub witness_poss : witness_of m marks ≡ poss_of L
  unfolding witness_of
  witness_poss = sym poss_marks

  -- the way back read off the marks is the path of Def
  pub walked_def : (room : List ℕ) → (avoided m marks ≡ is_path (def_of L)) × (walked m marks room ≡ laid_in (total (counts_of m)) (def_of L) room)
  unfolding avoided walked
  walked_def room =
      rw def_marks
      (go (eqb (at marks (rank (counts_of m) (counts_of m))) 3) (reverse (walk (plain (counts_of m)) (λ c. at marks (rank (counts_of m) c)) (total (counts_of m)) (counts_of m))))
    where
      go : (b : Bool) (path : List ℕ)
          → (b ≡ is_path (cond b (some path) none))
          × (cond b (map suc path ++ drop (total (counts_of m)) room) room ≡ laid_in (total (counts_of m)) (cond b (some path) none) room)
      go true path = (refl, refl)
      go false path = (refl, refl)

length_walk : (L : Lattice) (mark : List ℕ → ℕ) (k : ℕ) (c : List ℕ) → length (walk L mark k c) ≡ k
unfolding walk
length_walk L mark zero c = refl
length_walk L mark (suc k) c = ap suc (length_walk L mark k _)

-- the path of Def has a step for each event
pub def_length : (L : Lattice) (path : List ℕ) → def_of L ≡ some path → length path ≡ total L.counts
unfolding def_of
def_length L path e = go (eqb (looked L L.counts) 3) e
  where
    go : (b : Bool) → cond b (some (reverse (walk L (looked L) (total L.counts) L.counts))) none ≡ some path → length path ≡ total L.counts
    go true h =
        let same : reverse (walk L (looked L) (total L.counts) L.counts) ≡ path = cc in
        rw (← same) (length-reverse (walk L (looked L) (total L.counts) L.counts) ∙ length_walk L (looked L) (total L.counts) L.counts)
    go false h = absurd (let z : ◌≡◌ {A = ℕ} 0 1 = cc in omega arith)
