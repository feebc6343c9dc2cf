-- The possible orders of demand 3 are the orders with every event that are built up event by event (`possible_is`): an event that stands once in a
-- list has before it just what stands in the part in front of it. Assumes nothing.
use mathlib.Core.Path.{◌≡◌, refl, sym, ap, ◌∙◌, subst}
use mathlib.Core.Logic.{◌⊎◌, inl, inr, ◌↔◌}
use mathlib.Core.Bool.{Bool, true, false, cond}
use mathlib.Core.List.{List, [], ◌∷◌, reverse, reverse_aux, reverse-reverse}
use Prim.Native.Nat.{ℕ, zero, suc, ◌+◌, ◌≤◌}
use native.Mathlib.Nat.{le_antisymm, lt_of_not-le}
use native.Mathlib.Decide.{dec_le}
use native.Mathlib.Omega.{arith}
use Rattle.cuts.specs.Trace.{Messages, Recorded}
use Rattle.cuts.specs.Orders.{Ev, ev, Has, here, there, same, times, Before, now, later, PossibleOrder}
use Rattle.cuts.specs.Working.{SentBy, Follows, Orderly, none_yet, then_one, Whole}
use Rattle.cuts.proofs.EventLaws.{same_true, has_times, times_has, times_here, times_reverse, times_reversed, has_none, has_reversed, has_before, before_has, before_parts}

module _ (T : Messages) where
  -- an event y of a possible order, rs in front of it (last first) and ys behind it
  module _ (es rs ys : List Ev) (y : Ev) (q : PossibleOrder T es) (e : reverse_aux rs (y ∷ ys) ≡ es) where
    front : times y es ≡ times y rs + suc (times y ys)
    front = rw (← e) (times_reverse y rs (y ∷ ys) ∙ ap (λ (k : ℕ). times y rs + k) (times_here y y ys refl))

    recorded : Recorded T y.station y.number
    recorded = q.only y.station y.number (times_has y es (omega (arith, front)))

    not_before : ¬ Has y rs
    not_before h = omega (arith, front, q.once _ _ recorded, has_times h)

    not_behind : ¬ Has y ys
    not_behind h = omega (arith, front, q.once _ _ recorded, has_times h)

    in_front : (x : Ev) → Before x y es → Has x rs
    in_front x h = go (before_parts rs (y ∷ ys) (rw e h) not_before)
      where
        go : Has x rs ⊎ Before x y (y ∷ ys) → Has x rs
        go (inl k) = k
        go (inr (now z k)) = absurd (not_behind k)
        go (inr (later k)) = absurd (not_behind (before_has k))

    sent_in_front : (o : ℕ) → T.origin y.station y.number ≡ o → SentBy T o y.station y.number rs
    sent_in_front zero x = tt
    sent_in_front (suc s) x = in_front _ (q.sending_first _ _ s recorded x)

    follows : Follows T rs y
    follows = record {
      recorded = recorded;
      after = λ k pos lt. in_front _ (q.lower_first _ k _ (recorded.0, pos, omega (arith, recorded.2)) recorded lt);
      new = not_before;
      sent = sent_in_front _ refl;
    }

  orderly_from : (es rs ys : List Ev) → PossibleOrder T es → reverse_aux rs ys ≡ es → Orderly T rs → Orderly T (reverse es)
  orderly_from es rs [] q e o = rw (← e, reverse-reverse) o
  orderly_from es rs (y ∷ ys) q e o = orderly_from es (y ∷ rs) ys q e (then_one (follows es rs ys y q e) o)

  possible_whole : (es : List Ev) → PossibleOrder T es → Whole T (reverse es)
  possible_whole es q = record {
    orderly = orderly_from es [] es q refl none_yet;
    all = λ p e r. times_has (ev p e) (reverse es) (omega (arith, times_reversed (ev p e) es, q.once p e r));
  }

  -- an event y of an order that is built up: what was there before it, all of which stands before it
  record Placed (xs : List Ev) (y : Ev) : Type 0 where
    earlier_ones : List Ev
    follows_them : Follows T earlier_ones y
    stand_before : (x : Ev) → Has x earlier_ones → (zs : List Ev) → Before x y (reverse_aux xs zs)

  placed : {xs : List Ev} {y : Ev} → Orderly T xs → Has y xs → Placed xs y
  placed none_yet h = absurd (has_none h)
  placed (then_one {x = x} {xs = xs} f o) (here e) = record { earlier_ones = xs; follows_them = subst (Follows T xs) e f; stand_before = λ z h zs. has_before h (x ∷ zs) (here e) }
  placed (then_one {x = x} f o) (there h) = let r = placed o h in record { earlier_ones = r.earlier_ones; follows_them = r.follows_them; stand_before = λ z k zs. r.stand_before z k (x ∷ zs) }

  orderly_once : {xs : List Ev} → Orderly T xs → (x : Ev) → times x xs ≤ 1
  unfolding times
  orderly_once none_yet x = omega arith
  orderly_once (then_one {x = y} {xs = xs} f o) x = go (same y x) refl (orderly_once o x)
    where
      none : y ≡ x → Dec (times x xs ≤ 0) → times x xs ≤ 0
      none e (yes h) = h
      none e (no h) = absurd (f.new (subst (λ (z : Ev). Has z xs) (sym e) (times_has x xs (lt_of_not-le h))))

      go : (b : Bool) → same y x ≡ b → times x xs ≤ 1 → cond b 1 0 + times x xs ≤ 1
      go true e h = omega (arith, none (same_true y x e) (dec_le _ _))
      go false e h = omega arith

  whole_possible : (es : List Ev) → Whole T (reverse es) → PossibleOrder T es
  whole_possible es w = record {
    once = λ p e r. le_antisymm (omega (arith, times_reversed (ev p e) es, orderly_once w.orderly (ev p e))) (omega (arith, times_reversed (ev p e) es, has_times (w.all p e r)));
    only = λ p e h. (placed w.orderly (has_reversed h)).follows_them.recorded;
    lower_first = λ p e k r r' lt. let at-k = placed w.orderly (w.all p k r') in rw reverse-reverse at (at-k.stand_before (ev p e) (at-k.follows_them.after e r.1 lt) []);
    sending_first = λ p e s r x. let at-e = placed w.orderly (w.all p e r) in rw reverse-reverse at (at-e.stand_before _ (rw x at at-e.follows_them.sent) []);
  }

  -- the possible orders are the orders with every event that are built up event by event
  pub possible_is : (es : List Ev) → PossibleOrder T es ↔ Whole T (reverse es)
  possible_is es = (possible_whole es, whole_possible es)
