-- Laws of events in lists: how often an event stands in a list and whether it does; which of two stands first, in a list that is read from its end.
-- Assumes nothing.
use mathlib.Core.Path.{◌≡◌, refl, ap, ap₂}
use mathlib.Core.Logic.{◌⊎◌, inl, inr}
use mathlib.Core.Bool.{Bool, true, false, cond}
use mathlib.Core.List.{List, [], ◌∷◌, reverse, reverse_aux}
use Prim.Native.Nat.{suc, ◌+◌, ◌<◌}
use native.Mathlib.Omega.{arith}
use lib.Dec.{eqb}
use borrow.Author.Tests.{eqb-true, eq-eqb}
use Rattle.cuts.specs.Orders.{Ev, ev, Has, here, there, same, times, Before, now, later}
use Rattle.cuts.proofs.BelowLaws.{and_true}

pub same_true : (x y : Ev) → same x y ≡ true → x ≡ y
same_true x y h =
    let (a, b) = and_true (eqb x.station y.station) (eqb x.number y.number) h in
    ap₂ ev (eqb-true _ _ a) (eqb-true _ _ b)

pub true_same : (x y : Ev) → x ≡ y → same x y ≡ true
true_same x y e = rw (eq-eqb x.station y.station (ap (λ (z : Ev). z.station) e), eq-eqb x.number y.number (ap (λ (z : Ev). z.number) e))

pub times_here : (x y : Ev) (ys : List Ev) → y ≡ x → times x (y ∷ ys) ≡ suc (times x ys)
unfolding times
times_here x y ys e = rw (true_same y x e) (omega arith)

-- an event stands in a list if it stands there more than 0 times
pub has_times : {x : Ev} {xs : List Ev} → Has x xs → 0 < times x xs
unfolding times
has_times {x = x} (here {y = y} {ys = ys} e) = rw (times_here x y ys e) (omega arith)
has_times (there h) = omega (arith, has_times h)

pub times_has : (x : Ev) (xs : List Ev) → 0 < times x xs → Has x xs
unfolding times
times_has x [] h = absurd (omega arith)
times_has x (y ∷ ys) h = go (same y x) refl h (times_has x ys)
  where
    go : (b : Bool) → same y x ≡ b → 0 < cond b 1 0 + times x ys → (0 < times x ys → Has x ys) → Has x (y ∷ ys)
    go true e k ih = here (same_true y x e)
    go false e k ih = there (ih (omega arith))

pub has_none : {x : Ev} → ¬ Has x []
unfolding times
has_none h = omega (arith, has_times h)

pub times_reverse : (x : Ev) (rs zs : List Ev) → times x (reverse_aux rs zs) ≡ times x rs + times x zs
unfolding times
times_reverse x [] zs = omega arith
times_reverse x (r ∷ rs) zs = omega (arith, times_reverse x rs (r ∷ zs))

-- how often, in the list read from its end
pub times_reversed : (x : Ev) (xs : List Ev) → times x (reverse xs) ≡ times x xs
unfolding times
times_reversed x xs = omega (arith, times_reverse x xs [])

pub has_reversed : {x : Ev} {xs : List Ev} → Has x xs → Has x (reverse xs)
has_reversed {x = x} {xs = xs} h = times_has x (reverse xs) (omega (arith, times_reversed x xs, has_times h))

module _ {x y : Ev} where
  pub before_has : {zs : List Ev} → Before x y zs → Has y zs
  before_has (now e h) = there h
  before_has (later h) = there (before_has h)

  pub before_later : (rs : List Ev) (zs : List Ev) → Before x y zs → Before x y (reverse_aux rs zs)
  before_later [] zs h = h
  before_later (r ∷ rs) zs h = before_later rs (r ∷ zs) (later h)

  -- what stands in the first part stands before what stands in the second
  pub has_before : {rs : List Ev} → Has x rs → (zs : List Ev) → Has y zs → Before x y (reverse_aux rs zs)
  has_before (here {y = r} {ys = rs} e) zs k = before_later rs (r ∷ zs) (now e k)
  has_before (there {y = r} h) zs k = has_before h (r ∷ zs) (there k)

  -- and what stands before something of the second part only stands in the first, or before it in the second
  pub before_parts : (rs zs : List Ev) → Before x y (reverse_aux rs zs) → ¬ Has y rs → Has x rs ⊎ Before x y zs
  before_parts [] zs h n = inr h
  before_parts (r ∷ rs) zs h n = go (before_parts rs (r ∷ zs) h (λ k. n (there k)))
    where
      go : Has x rs ⊎ Before x y (r ∷ zs) → Has x (r ∷ rs) ⊎ Before x y zs
      go (inl k) = inl (there k)
      go (inr (now e k)) = inl (here e)
      go (inr (later k)) = inr k
