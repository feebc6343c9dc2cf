-- Laws of the tables: numbers of a station's cells; stretches one behind the other; a loop that pastes into the middle of a list. Assumes nothing.
use mathlib.Core.Path.{◌≡◌, refl, sym, ap, ap₂, ◌∙◌}
use mathlib.Core.Logic.{◌≢◌, ⊎_elim}
use mathlib.Core.List.{List, [], ◌∷◌, ◌++◌, append-nil, append_assoc}
use Prim.Native.Nat.{ℕ, zero, suc, ◌+◌, ◌-◌, ◌*◌, ◌%◌, ◌≤◌, ◌<◌}
use native.Mathlib.Nat.{not-suc-le-zero, add-zero}
use native.Mathlib.Numerals.{add-one}
use native.Mathlib.Omega.{arith}
use lib.ListN.{length, set, take, drop, take-append-drop, length-append, get_or-append}
use lib.Seq.{length-take-le, get_or-append-add, take_at, drop-append-add, drop-drop}
use borrow.Author.Tests.{lt-ltb, le-ltb, eq-eqb, ne_eqb}
use Rattle.cuts.specs.Below.{sum_to, tab}
use Rattle.cuts.specs.Cut.{at}
use Rattle.cuts.proofs.BelowLaws.{last_or_below, sum_to-more, sum_to-scale, length_tab, get_d-tab}
use Rattle.cuts.proofs.TabLaws.{front_more, front_length}
use Rattle.recording.proofs.SumLaws.{sum_to-part, sum_to-most}
use Rattle.engine.specs.Prepare.{station_need, station_weight, stretches, Short, rows_to, first_of, needs_to, weights_to}
use Rattle.cut.specs.declared.Cut.{Cut}
use Rattle.condition.specs.Weigh.{weigh_of}
use Rattle.condition.specs.declared.Condition.{Condition}

pub need_start : (stamps : List ℕ) (p first j : ℕ) → j < 8 → 0 ≡ station_need stamps p first j
unfolding station_need
need_start stamps p first j h = simp (lt-ltb j 8 h)

pub need_own : (stamps : List ℕ) (p first j : ℕ) → 8 ≤ j → j % 8 ≡ p → 0 ≡ station_need stamps p first j
unfolding station_need
need_own stamps p first j h e = simp (le-ltb j 8 h, eq-eqb (j % 8) p e)

pub need_other : (stamps : List ℕ) (p first j : ℕ) → 8 ≤ j → j % 8 ≢ p → at stamps (8 * first + (j - 8)) ≡ station_need stamps p first j
unfolding station_need
need_other stamps p first j h e = simp (le-ltb j 8 h, ne_eqb (j % 8) p e)

-- f 0 .. f (j - 1) pasted into d at a
pub pasted : List ℕ → ℕ → ℕ → (ℕ → ℕ) → List ℕ
pasted d a j f = take a d ++ tab j f ++ drop (a + j) d

pub pasted_is : (d : List ℕ) (a j : ℕ) (f : ℕ → ℕ) → pasted d a j f ≡ take a d ++ tab j f ++ drop (a + j) d
unfolding pasted
pasted_is d a j f = refl

pub pasted_none : (d : List ℕ) (a : ℕ) (f : ℕ → ℕ) → d ≡ pasted d a 0 f
unfolding pasted tab
pasted_none d a f = rw (add-zero a, append-nil (take a d)) (sym (take-append-drop a d))

front_long : (d : List ℕ) (a j : ℕ) (f : ℕ → ℕ) → a ≤ length d → length (take a d ++ tab j f) ≡ a + j
front_long d a j f h = length-append (take a d) (tab j f) ∙ omega (arith, length-take-le a d h, length_tab j f)

pub pasted_more : (d : List ℕ) (a j : ℕ) (f : ℕ → ℕ) → a + j < length d → set (pasted d a j f) (a + j) (f j) ≡ pasted d a (j + 1) f
unfolding pasted tab
pasted_more d a j f h =
    let e : a + (j + 1) ≡ a + j + 1 = omega arith in
    front_more (take a d ++ tab j f) d (a + j) (f j) 0 (front_long d a j f (omega arith)) h ∙ rw (e, add-one j, append_assoc (take a d) (tab j f) (f j ∷ [])) refl

pub pasted_length : (d : List ℕ) (a j : ℕ) (f : ℕ → ℕ) → a + j ≤ length d → length (pasted d a j f) ≡ length d
unfolding pasted
pasted_length d a j f h = front_length (take a d ++ tab j f) d (a + j) (front_long d a j f (omega arith)) h

-- pasted right behind xs, which stand in front
pub pasted_front : (xs d : List ℕ) (j : ℕ) (f : ℕ → ℕ) → length xs ≤ length d → pasted (xs ++ drop (length xs) d) (length xs) j f ≡ (xs ++ tab j f) ++ drop (length xs + j) d
unfolding pasted
pasted_front xs d j f h =
    rw (take_at xs (drop (length xs) d) (length xs) refl, drop-append-add xs (drop (length xs) d) j, drop-drop j (length xs) d) refl

-- stretch p begins behind the sizes of those before it
pub length_stretches : (size : ℕ → ℕ) (f : ℕ → ℕ → ℕ) (p : ℕ) → length (stretches size f p) ≡ sum_to p size
unfolding stretches sum_to
length_stretches size f zero = refl
length_stretches size f (suc p) = length-append (stretches size f p) _ ∙ omega (arith, length_stretches size f p, length_tab (size p) (f p))

pub stretches_more : (size : ℕ → ℕ) (f : ℕ → ℕ → ℕ) (p : ℕ) → stretches size f (p + 1) ≡ stretches size f p ++ tab (size p) (f p)
unfolding stretches
stretches_more size f p = rw (add-one p) refl

pub stretches_none : (size : ℕ → ℕ) (f : ℕ → ℕ → ℕ) → stretches size f 0 ≡ []
unfolding stretches
stretches_none size f = refl

-- number j of stretch p
pub stretches_at : (size : ℕ → ℕ) (f : ℕ → ℕ → ℕ) (n p j : ℕ) → p < n → j < size p → at (stretches size f n) (sum_to p size + j) ≡ f p j
unfolding stretches
stretches_at size f zero p j h k = absurd (not-suc-le-zero h)
stretches_at size f (suc n) p j h k =
    ⊎_elim
    (λ e. ap (λ (i : ℕ). at (stretches size f n ++ tab (size n) (f n)) (i + j)) (sums e) ∙ get_or-append-add (stretches size f n) (tab (size n) (f n)) j 0 ∙ last e)
    (λ l. get_or-append (stretches size f n) _ 0 (sum_to p size + j) (omega (arith, length_stretches size f n, sum_to-part size n p (suc j) l k)) ∙ stretches_at size f n p j l k)
    (last_or_below n p h)
  where
    sums : p ≡ n → sum_to p size ≡ length (stretches size f n)
    sums e = ap (λ (q : ℕ). sum_to q size) e ∙ sym (length_stretches size f n)

    last : p ≡ n → at (tab (size n) (f n)) j ≡ f p j
    last e = rw e (get_d-tab (size n) (f n) 0 j (rw e at k))

pub rows_to-zero : (m : List ℕ) → rows_to m 0 ≡ 0
unfolding rows_to sum_to
rows_to-zero m = refl

pub rows_to-more : (m : List ℕ) (p : ℕ) → rows_to m (p + 1) ≡ rows_to m p + (at m p + 1)
unfolding rows_to
rows_to-more m p = sum_to-more p _ ∙ omega arith

pub first_of-zero : (m : List ℕ) → first_of m 0 ≡ 0
unfolding first_of sum_to
first_of-zero m = refl

pub first_of-more : (m : List ℕ) (p : ℕ) → first_of m (p + 1) ≡ first_of m p + at m p
unfolding first_of
first_of-more m p = sum_to-more p _

-- no station of a short recording has more than 512 rows
pub rows_to-le : (m : List ℕ) → ((q : ℕ) → at m q ≤ 511) → (p : ℕ) → rows_to m p ≤ 512 * p
unfolding rows_to
rows_to-le m s p = sum_to-most _ 512 p (λ q. omega (arith, s q))

-- a station has a row more than records
rows_first : (m : List ℕ) (p : ℕ) → rows_to m p ≡ first_of m p + p
unfolding rows_to first_of sum_to
rows_first m zero = refl
rows_first m (suc p) = omega (arith, rows_first m p)

-- where the rows and the records of the station at place p begin, and how many there are
pub record Begins (m bases : List ℕ) (p : ℕ) : Type 0 where
  pub row : at bases p ≡ rows_to m p
  pub first : at bases p - p ≡ first_of m p
  pub low : p ≤ at bases p
  pub few : at m p ≤ 511
  pub high : at bases p + (at m p + 1) ≤ 4096

pub begins : (full : Cut) → Short full → (bases : List ℕ) → bases ≡ tab 8 (rows_to full.counts) → (p : ℕ) → p < full.n → Begins full.counts bases p
begins full short bases e p h =
    let m = full.counts in
    let r : at bases p ≡ rows_to m p = ap (λ (l : List ℕ). at l p) e ∙ get_d-tab 8 _ 0 p (omega (arith, short.n_most)) in
    record {
      row = r;
      first = omega (arith, r, rows_first m p);
      low = omega (arith, r, rows_first m p);
      few = short.few p;
      high = omega (arith, r, short.n_most, rows_to-more m p, rows_to-le m short.few (p + 1));
    }

-- a table made of stretches of k numbers a row, one row for each event and one for the start
module _ (m : List ℕ) (k : ℕ) (f : ℕ → ℕ → ℕ) where
  abbrev pub size : ℕ → ℕ
  size q = k * suc (at m q)

  pub rows_long : (p : ℕ) → length (stretches size f p) ≡ k * rows_to m p
  unfolding rows_to
  rows_long p = length_stretches size f p ∙ sum_to-scale p k _

  -- a turn of the loop over the stations
  pub rows_more : (d : List ℕ) (p a j : ℕ) → a ≡ k * rows_to m p → j ≡ k * (at m p + 1) → a ≤ length d
      → pasted (stretches size f p ++ drop (k * rows_to m p) d) a j (f p) ≡ stretches size f (p + 1) ++ drop (k * rows_to m (p + 1)) d
  rows_more d p a j ea ej h =
      let l : length (stretches size f p) ≡ a = rows_long p ∙ sym ea in
      let e : a + j ≡ k * rows_to m (p + 1) = omega (arith, ap (λ (i : ℕ). k * i) (rows_to-more m p)) in
      let z : j ≡ size p = ej ∙ ap (λ (i : ℕ). k * i) (add-one (at m p)) in
      rw (← ea, ← l) (pasted_front (stretches size f p) d j (f p) (rw l h) ∙ rw (l, e, stretches_more size f p, z) refl)

-- a table made of such stretches, the beginning of its loop
pub rows_none : (m : List ℕ) (k : ℕ) (f : ℕ → ℕ → ℕ) (d : List ℕ) → d ≡ stretches (λ q. k * suc (at m q)) f 0 ++ drop (k * rows_to m 0) d
rows_none m k f d =
    let z : k * rows_to m 0 ≡ 0 = rw (rows_to-zero m) (omega arith) in
    rw (z, stretches_none (λ q. k * suc (at m q)) f) refl

-- and a turn, from what was pasted in
pub rows_turn : (m : List ℕ) (k : ℕ) (f : ℕ → ℕ → ℕ) (d before after : List ℕ) (p j a : ℕ) (g : ℕ → ℕ) → before ≡ stretches (λ q. k * suc (at m q)) f p ++ drop (k * rows_to m p) d
    → after ≡ take a before ++ tab j g ++ drop (a + j) before → g ≡ f p → a ≡ k * rows_to m p → j ≡ k * (at m p + 1) → a ≤ length d
    → after ≡ stretches (λ q. k * suc (at m q)) f (p + 1) ++ drop (k * rows_to m (p + 1)) d
rows_turn m k f d before after p j a g eb et eg ea ej h = et ∙ sym (pasted_is before a j g) ∙ rw (eb, eg) (rows_more m k f d p a j ea ej h)

pub needs_to-none : (m stamps d : List ℕ) → d ≡ needs_to m stamps 0 ++ drop (8 * rows_to m 0) d
unfolding needs_to
needs_to-none m stamps d = rows_none m 8 _ d

pub needs_to-more : (m stamps d before after : List ℕ) (p first j a : ℕ) → before ≡ needs_to m stamps p ++ drop (8 * rows_to m p) d
    → after ≡ take a before ++ tab j (station_need stamps p first) ++ drop (a + j) before → first ≡ first_of m p → a ≡ 8 * rows_to m p → j ≡ 8 * (at m p + 1) → a ≤ length d
    → after ≡ needs_to m stamps (p + 1) ++ drop (8 * rows_to m (p + 1)) d
unfolding needs_to
needs_to-more m stamps d before after p first j a eb et ef ea ej h =
    rows_turn m 8 (λ q. station_need stamps q (first_of m q)) d before after p j a (station_need stamps p first) eb et (ap (station_need stamps p) ef) ea ej h

pub weights_to-none : (m : List ℕ) (c : Condition) (starts levels d : List ℕ) → d ≡ weights_to m c starts levels 0 ++ drop (1 * rows_to m 0) d
unfolding weights_to
weights_to-none m c starts levels d = rows_none m 1 _ d

pub weights_to-more : (m : List ℕ) (c : Condition) (starts levels d before after : List ℕ) (p start first j a : ℕ) → before ≡ weights_to m c starts levels p ++ drop (1 * rows_to m p) d
    → after ≡ take a before ++ tab j (station_weight c start levels p first) ++ drop (a + j) before → start ≡ at starts p → first ≡ first_of m p → a ≡ 1 * rows_to m p → j ≡ 1 * (at m p + 1) → a ≤ length d
    → after ≡ weights_to m c starts levels (p + 1) ++ drop (1 * rows_to m (p + 1)) d
unfolding weights_to
weights_to-more m c starts levels d before after p start first j a eb et es ef ea ej h =
    rows_turn m 1 (λ q. station_weight c (at starts q) levels q (first_of m q)) d before after p j a (station_weight c start levels p first) eb et (ap₂ (λ (x y : ℕ). station_weight c x levels p y) es ef) ea ej h

pub weight_start : (c : Condition) (start : ℕ) (levels : List ℕ) (p first e : ℕ) → e < 1 → weigh_of c p start ≡ station_weight c start levels p first e
unfolding station_weight
weight_start c start levels p first e h = simp (lt-ltb e 1 h)

pub weight_event : (c : Condition) (start : ℕ) (levels : List ℕ) (p first e : ℕ) → 1 ≤ e → weigh_of c p (at levels (first + (e - 1))) ≡ station_weight c start levels p first e
unfolding station_weight
weight_event c start levels p first e h = simp (le-ltb e 1 h)
