-- Laws of tests, searches and lists that the loops of this crate end by. In order: two tests that agree; every and sums, the first
-- apart; first and any; the largest; steps back on eight counts. Assumes nothing.
use mathlib.Core.Path.{◌≡◌, refl, sym, ap, ap₂, ◌∙◌}
use Rattle.std.specs.Prelude.{Option, Some, None, IfSome}
use mathlib.Core.Bool.{Bool, true, false, ◌&&◌, ◌||◌, not, cond, false≢true}
use mathlib.Core.Logic.{⊎_elim}
use mathlib.Core.List.{List, [], ◌∷◌}
use Prim.Native.Nat.{ℕ, zero, suc, ◌+◌, ◌-◌, ◌*◌, ◌≤◌, ◌<◌, max}
use native.Mathlib.Nat.{not-suc-le-zero, le_antisymm}
use native.Mathlib.Decide.{dec_lt}
use native.Mathlib.Numerals.{add-one}
use native.Mathlib.Omega.{arith}
use lib.Dec.{leb, ltb, eqb}
use lib.ListN.{length, take, drop, length-drop}
use lib.Seq.{get_or-take, get_or-drop, length-take-le}
use borrow.Author.Tests.{ltb-true, lt-ltb, le-ltb, leb-true, le-leb, lt-leb}
use Rattle.cuts.specs.Below.{every, first_from, first, any, sum_to}
use Rattle.cuts.specs.Cut.{at, back}
use Rattle.cuts.proofs.BelowLaws.{and_true, or_right, last_or_below, sum_to-first, sum_to-same, every_true, true_every, every_same, first_is, first_le}
use Rattle.cuts.proofs.ReplyLaws.{refuted}
use Rattle.std.specs.Option.{option_map}
use Rattle.std.specs.List.{list_all, list_any, find, position_or_len, range_with_len}
use Rattle.std.proofs.lemmas.Iterator.Adapters.{option_map_id}
use Rattle.std.proofs.lemmas.List.Folds.{list_any_at}
use Rattle.std.proofs.lemmas.List.Sums.{prefix_len_passes, prefix_len_stops}
use Rattle.marks.specs.Rows.{most_to, place_of, NoneTo}

-- two tests each of which follows from the other
pub tests_same : (a b : Bool) → (a ≡ true → b ≡ true) → (b ≡ true → a ≡ true) → a ≡ b
tests_same true b h g = sym (h refl)
tests_same false true h g = g refl
tests_same false false h g = refl

pub and_both : {a b : Bool} → a ≡ true → b ≡ true → (a && b) ≡ true
and_both h g = rw (h, g) refl

-- one test more
pub every_next : (n : ℕ) (f : ℕ → Bool) (a b : Bool) → a ≡ every n f → b ≡ f n → (a && b) ≡ every (n + 1) f
unfolding every
every_next n f a b h e = rw (add-one n, h, e) refl

-- of k tests those from place n on passed over
pub every_masked : (n k : ℕ) (f : ℕ → Bool) → n ≤ k → every k (λ q. leb n q || f q) ≡ every n f
every_masked n k f h =
    tests_same _ _
    (λ t. true_every n f (λ q l. rw (lt-leb n q l) at (every_true k (λ q. leb n q || f q) t q (omega arith))))
    (λ t. true_every k _ (λ q l. go q t (dec_lt q n)))
  where
    go : (q : ℕ) → every n f ≡ true → Dec (q < n) → (leb n q || f q) ≡ true
    go q t (yes l) = or_right (leb n q) (f q) (every_true n f t q l)
    go q t (no l) = rw (le-leb n q (omega arith)) refl

-- the first of the tests apart
pub every_split : (n : ℕ) (f : ℕ → Bool) → 1 ≤ n → every n f ≡ (f 0 && every (n - 1) (λ i. f (i + 1)))
every_split n f h = tests_same _ _ apart joined
  where
    apart : every n f ≡ true → (f 0 && every (n - 1) (λ i. f (i + 1))) ≡ true
    apart e = and_both (every_true n f e 0 h) (true_every (n - 1) _ (λ i l. every_true n f e (i + 1) (omega arith)))

    joined : (f 0 && every (n - 1) (λ i. f (i + 1))) ≡ true → every n f ≡ true
    joined e = true_every n f at_q
      where
        at_q : (q : ℕ) → q < n → f q ≡ true
        at_q zero l = (and_true (f 0) _ e).0
        at_q (suc i) l = ap f (sym (add-one i)) ∙ every_true (n - 1) (λ i. f (i + 1)) (and_true (f 0) _ e).1 i (omega arith)

-- the tests of n numbers in their order
all_from : (f : ℕ → Bool) (n p : ℕ) → list_all f (range_with_len p n) ≡ every n (λ i. f (p + i))
unfolding every
all_from f zero p = refl
all_from f (suc n) p =
    let apart = every_split (suc n) (λ i. f (p + i)) (omega arith) in
    let here : p + 0 ≡ p = omega arith in
    let fewer : suc n - 1 ≡ n = omega arith in
    rw (all_from f n (p + 1), apart, here, fewer) (ap (λ (b : Bool). f p && b) (every_same n _ _ (λ i l. ap f (omega arith))))

pub all_every : (f : ℕ → Bool) (n : ℕ) → list_all f (range_with_len 0 n) ≡ every n f
all_every f n = all_from f n 0 ∙ every_same n _ _ (λ i l. ap f (omega arith))

-- the first of the terms apart
pub sum_to-split : (n : ℕ) (f : ℕ → ℕ) → 1 ≤ n → sum_to n f ≡ f 0 + sum_to (n - 1) (λ i. f (i + 1))
sum_to-split zero f h = absurd (not-suc-le-zero h)
sum_to-split (suc n) f h =
    let e : suc n - 1 ≡ n = omega arith in
    sum_to-first n f ∙ rw e (ap (λ (s : ℕ). f 0 + s) (sum_to-same n _ _ (λ q l. ap f (sym (add-one q)))))

-- a search whose every place below p failed and whose place p passes
pub first_found : (f : ℕ → Bool) (n p : ℕ) → p < n → ((q : ℕ) → q < p → f q ≡ false) → f p ≡ true → first f n ≡ p
first_found f n p l h e = go (dec_lt (first f n) p)
  where
    go : Dec (first f n < p) → first f n ≡ p
    go (yes k) = absurd (false≢true (sym (h (first f n) k) ∙ (first_is f n).passes (omega arith)))
    go (no k) = le_antisymm (first_le f n p e) (omega arith)

-- .. and one whose every place failed
pub first_none : (f : ℕ → Bool) (n : ℕ) → ((q : ℕ) → q < n → f q ≡ false) → first f n ≡ n
first_none f n h = go (dec_lt (first f n) n)
  where
    go : Dec (first f n < n) → first f n ≡ n
    go (yes k) = absurd (false≢true (sym (h (first f n) k) ∙ (first_is f n).passes k))
    go (no k) = le_antisymm (first_is f n).high (omega arith)

-- the first place of n, where none was found and where one was
pub place_none : (f : ℕ → Bool) (n : ℕ) → ((q : ℕ) → q < n → f q ≡ false) → None ≡ place_of n (first f n)
unfolding place_of
place_none f n h = sym (rw (first_none f n h, le-ltb n n (omega arith)) refl)

pub place_some : (f : ℕ → Bool) (n p : ℕ) → p < n → ((q : ℕ) → q < p → f q ≡ false) → f p ≡ true → Some p ≡ place_of n (first f n)
unfolding place_of
place_some f n p l h e = sym (rw (first_found f n p l h e, lt-ltb p n l) refl)

not_not : (b : Bool) → not (not b) ≡ b
not_not true = refl
not_not false = refl

-- a search of n numbers in their order, from p on
find_from : (f : ℕ → Bool) (n p : ℕ) → find f (range_with_len p n) ≡ cond (ltb (first_from f n p) (p + n)) (Some (first_from f n p)) None
unfolding first_from
find_from f zero p = rw (le-ltb p (p + 0) (omega arith)) refl
find_from f (suc n) p =
    let next : p + 1 + n ≡ p + suc n = omega arith in
    rw (find_from f n (p + 1), next, add-one p) (go (f p))
  where
    last : ℕ
    last = first_from f n (suc p)

    go : (b : Bool) → cond b (Some p) (cond (ltb last (p + suc n)) (Some last) None) ≡ cond (ltb (cond b p last) (p + suc n)) (Some (cond b p last)) None
    go true = sym (rw (lt-ltb p (p + suc n) (omega arith)) refl)
    go false = refl

pub find_place : (f : ℕ → Bool) (n : ℕ) (o : Option ℕ) → option_map (λ p. p) o ≡ find f (range_with_len 0 n) → o ≡ place_of n (first f n)
unfolding place_of
find_place f n o e =
    let whole : 0 + n ≡ n = omega arith in
    sym (option_map_id o) ∙ e ∙ rw whole at (find_from f n 0)

-- the place that a search found
pub place_found : (f : ℕ → Bool) (n : ℕ) (P : ℕ → Type 0) → ((p : ℕ) → p < n → f p ≡ true → P p) → (o : Option ℕ) → o ≡ place_of n (first f n) → IfSome o P
unfolding place_of
place_found f n P h None e = tt
place_found f n P h (Some p) e = go (ltb (first f n) n) refl e
  where
    go : (b : Bool) → ltb (first f n) n ≡ b → Some p ≡ cond b (Some (first f n)) None → P p
    go true l e =
        let same : first f n ≡ p = cc in
        let here : first f n < n = ltb-true _ _ l in
        h p (rw same at here) (rw same at ((first_is f n).passes here))
    go false l e = cc

-- a piece of 256 without a 1 behind pieces without one
pub none_joined : (marks : List ℕ) (i : ℕ) → 256 * i + 256 ≤ length marks → NoneTo marks (256 * i)
    → list_any (λ y. eqb y 1) (take (256 * i + 256 - 256 * i) (drop (256 * i) marks)) ≡ false → NoneTo marks (256 * (i + 1))
none_joined marks i h before none x l = go (dec_lt x (256 * i))
  where
    piece : List ℕ
    piece = take 256 (drop (256 * i) marks)

    go : Dec (x < 256 * i) → eqb (at marks x) 1 ≡ false
    go (yes a) = before x a
    go (no a) =
        let y : ℕ = x - 256 * i in
        let e : 256 * i + y ≡ x = omega arith in
        let s : 256 * i + 256 - 256 * i ≡ 256 = omega arith in
        let here : y < length piece = omega (arith, length-take-le 256 (drop (256 * i) marks) (omega (arith, length-drop (256 * i) marks))) in
        let other : eqb (at piece y) 1 ≡ false = refuted _ (λ t. false≢true (sym (rw s at none) ∙ list_any_at (λ y. eqb y 1) piece y 0 here t)) in
        rw (get_or-take 256 (drop (256 * i) marks) y 0 (omega arith), get_or-drop (256 * i) marks y 0, e) at other

-- the first 1 of all, where none is before place p, by a search from there on
pub one_from : (marks : List ℕ) (p : ℕ) (o : Option ℕ) → p ≤ length marks → NoneTo marks p
    → o ≡ cond (ltb (position_or_len (λ m. eqb m 1) (drop p marks)) (length (drop p marks))) (Some (position_or_len (λ m. eqb m 1) (drop p marks))) None
    → option_map (λ r. p + r) o ≡ place_of (length marks) (first (λ r. eqb (at marks r) 1) (length marks))
one_from marks p o h none e = rw e (answer (dec_lt n (length rest)))
  where
    rest : List ℕ
    rest = drop p marks

    n : ℕ
    n = position_or_len (λ m. eqb m 1) rest

    reach : length rest ≡ length marks - p
    reach = length-drop p marks

    passed : (q : ℕ) → q < p + n → eqb (at marks q) 1 ≡ false
    passed q l = go (dec_lt q p)
      where
        go : Dec (q < p) → eqb (at marks q) 1 ≡ false
        go (yes a) = none q a
        go (no a) =
            let k : ℕ = q - p in
            let same : p + k ≡ q = omega arith in
            let other = sym (not_not (eqb (at rest k) 1)) ∙ ap not (prefix_len_passes (λ m. not (eqb m 1)) rest k 0 (omega arith)) in
            rw (get_or-drop p marks k 0, same) at other

    answer : Dec (n < length rest) → option_map (λ r. p + r) (cond (ltb n (length rest)) (Some n) None) ≡ place_of (length marks) (first (λ r. eqb (at marks r) 1) (length marks))
    answer (yes l) =
        let found = sym (not_not (eqb (at rest n) 1)) ∙ ap not (prefix_len_stops (λ m. not (eqb m 1)) rest 0 l) in
        rw (lt-ltb n (length rest) l) (place_some _ _ (p + n) (omega (arith, reach)) passed (rw (get_or-drop p marks n 0) at found))
    answer (no l) = rw (le-ltb n (length rest) (omega arith)) (place_none _ _ (λ q k. passed q (omega (arith, reach))))

first_from-same : (f g : ℕ → Bool) (n p : ℕ) → ((q : ℕ) → q < p + n → f q ≡ g q) → first_from f n p ≡ first_from g n p
unfolding first_from
first_from-same f g zero p h = refl
first_from-same f g (suc n) p h =
    ap₂ (λ (b : Bool) (r : ℕ). cond b p r) (h p (omega arith)) (first_from-same f g n (suc p) (λ q l. h q (omega arith)))

pub first_same : (f g : ℕ → Bool) (n : ℕ) → ((q : ℕ) → q < n → f q ≡ g q) → first f n ≡ first g n
first_same f g n h = first_from-same f g n 0 (λ q l. h q (omega arith))

pub any_same : (f g : ℕ → Bool) (n : ℕ) → ((q : ℕ) → q < n → f q ≡ g q) → any f n ≡ any g n
unfolding any
any_same f g n h = ap (λ (p : ℕ). ltb p n) (first_same f g n h)

le-most_to : (n : ℕ) (f : ℕ → ℕ) (i : ℕ) → i < n → f i ≤ most_to n f
unfolding most_to
le-most_to zero f i l = absurd (not-suc-le-zero l)
le-most_to (suc n) f i l = ⊎_elim (λ e. rw e (omega arith)) (λ k. omega (arith, le-most_to n f i k)) (last_or_below n i l)

most_to-le : (n : ℕ) (f : ℕ → ℕ) (x : ℕ) → ((i : ℕ) → i < n → f i ≤ x) → most_to n f ≤ x
unfolding most_to
most_to-le zero f x h = omega arith
most_to-le (suc n) f x h = omega (arith, h n (omega arith), most_to-le n f x (λ i l. h i (omega arith)))

-- the largest is not above x exactly if none is
pub leb-most_to : (n : ℕ) (f : ℕ → ℕ) (x : ℕ) → leb (most_to n f) x ≡ every n (λ i. leb (f i) x)
leb-most_to n f x =
    tests_same _ _
    (λ h. true_every n _ (λ i l. le-leb (f i) x (omega (arith, leb-true (most_to n f) x h, le-most_to n f i l))))
    (λ h. le-leb (most_to n f) x (most_to-le n f x (λ i l. leb-true (f i) x (every_true n (λ i. leb (f i) x) h i l))))

pub most_to-more : (n : ℕ) (f : ℕ → ℕ) → most_to (n + 1) f ≡ max (most_to n f) (f n)
unfolding most_to
most_to-more n f = rw (add-one n) refl

-- the first n counts after a step back
pub take_back : (n p : ℕ) (c : List ℕ) → take n (back p c) ≡ back p (take n c)
take_back zero p c = refl
take_back (suc n) p [] = refl
take_back (suc n) zero (x ∷ c) = refl
take_back (suc n) (suc p) (x ∷ c) = ap {B = List ℕ} (λ r. x ∷ r) (take_back n p c)
