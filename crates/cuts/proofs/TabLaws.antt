-- Loops that fill a list from the front: after k turns it is f 0 .. f (k - 1), and then the old list from k on. Assumes nothing.
use mathlib.Core.Path.{◌≡◌, refl, sym, ◌∙◌}
use mathlib.Core.List.{List, [], ◌∷◌, ◌++◌, append-nil}
use Prim.Native.Nat.{ℕ, suc, ◌+◌, ◌≤◌, ◌<◌}
use native.Mathlib.Nat.{le_antisymm, le_of_eq}
use native.Mathlib.Numerals.{add-one}
use native.Mathlib.Omega.{arith}
use lib.ListN.{length, get_or, set, take, drop, length-append, length-drop, drop_of_length-le}
use lib.Seq.{drop-cons, set_at, take_at, append_snoc}
use Rattle.cuts.specs.Below.{tab}
use Rattle.cuts.proofs.BelowLaws.{length_tab}

-- one more element of a list d whose first k are xs; z is any element
pub front_more : {A : Type 0} (xs d : List A) (k : ℕ) (a z : A) → length xs ≡ k → k < length d → set (xs ++ drop k d) k a ≡ (xs ++ (a ∷ [])) ++ drop (k + 1) d
front_more xs d k a z e h = rw (add-one k, drop-cons d k z h) (set_at xs (get_or d k z) (drop (suc k) d) a k e ∙ sym (append_snoc xs a (drop (suc k) d)))

-- what a loop has filled is as long as what it fills
pub front_length : {A : Type 0} (xs d : List A) (k : ℕ) → length xs ≡ k → k ≤ length d → length (xs ++ drop k d) ≡ length d
front_length xs d k e h = simp (length-append, length-drop, e) (omega arith)

-- before the first turn
pub tab_none : (f : ℕ → ℕ) (d : List ℕ) → d ≡ tab 0 f ++ drop 0 d
unfolding tab
tab_none f d = refl

-- a turn
pub tab_more : (k : ℕ) (f : ℕ → ℕ) (d : List ℕ) → k < length d → set (tab k f ++ drop k d) k (f k) ≡ tab (k + 1) f ++ drop (k + 1) d
unfolding tab
tab_more k f d h = front_more (tab k f) d k (f k) 0 (length_tab k f) h ∙ rw (add-one k) refl

-- the end of a loop that fills the whole list
pub tab_full : (k n : ℕ) (f : ℕ → ℕ) (d : List ℕ) → k ≤ n → n ≤ k → length d ≡ n → tab k f ++ drop k d ≡ tab n f
tab_full k n f d h g e = rw (le_antisymm h g, drop_of_length-le d (le_of_eq e)) (append-nil (tab n f))

-- the end of one that fills its first n
pub tab_front : (k n : ℕ) (f : ℕ → ℕ) (d : List ℕ) → k ≤ n → n ≤ k → tab k f ++ drop k d ≡ tab n f ++ drop n d
tab_front k n f d h g = rw (le_antisymm h g) refl

-- what stands in front of such a list
pub tab_take : (k : ℕ) (f : ℕ → ℕ) (d : List ℕ) → take k (tab k f ++ drop k d) ≡ tab k f
tab_take k f d = take_at (tab k f) (drop k d) k (length_tab k f)
