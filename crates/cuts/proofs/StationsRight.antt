-- An order of events says no more than the list of its stations: the stations of an order built up event by event are an order of `Working`, the events
-- are read off the stations again, and the moments are the same, cut for cut and level for level.
-- In order: the events of a cut; events to stations; stations to events; moments. Assumes nothing.
use mathlib.Core.Path.{◌≡◌, refl, sym, ap, ap₂, ◌∙◌, fun_ext}
use mathlib.Core.Logic.{◌⊎◌, inl, inr, ◌↔◌}
use mathlib.Core.Bool.{Bool, true, false, cond}
use mathlib.Core.List.{List, [], ◌∷◌, ◌++◌, reverse, reverse-reverse, reverse-append}
use Prim.Native.Nat.{ℕ, zero, suc, ◌≤◌, ◌<◌}
use native.Mathlib.Nat.{le_refl, le_antisymm, lt_of_not-le}
use native.Mathlib.Decide.{dec_le}
use native.Mathlib.Omega.{arith}
use lib.ListN.{length}
use lib.Seq.{ext_get_or}
use lib.Dec.{eqb}
use borrow.Author.Tests.{eqb-true, eqb-false}
use Rattle.cuts.specs.Cut.{at, zeros, forward}
use Rattle.cuts.specs.Way.{cut_of, Moment, last, earlier}
use Rattle.cuts.specs.Trace.{Messages, Recorded, Formed, Levels, at_cut}
use Rattle.cuts.specs.Orders.{Ev, ev, Has, here, there, latest, last_of, events_of, HasMoment}
use Rattle.cuts.specs.Working.{stations, SentBy, Follows, Orderly, none_yet, then_one, Whole, ReadyBy, Order, nothing, next, Complete}
use Rattle.cuts.proofs.BelowLaws.{own_self}
use Rattle.cuts.proofs.CutLaws.{within_at, at_zeros, at_forward, at_forward_same, at_forward_other, new_or_old}
use Rattle.cuts.proofs.WayLaws.{cut_of-length, cut_of-often}
use Rattle.cuts.proofs.StampRight.{order_within}
use Rattle.cuts.proofs.EventLaws.{has_none}

module _ (T : Messages) where
  abbrev m : List ℕ
  m = T.counts

  -- xs has the events of the cut c and no other
  record OfCut (c : List ℕ) (xs : List Ev) : Type 0 where
    in_cut : {p e : ℕ} → Has (ev p e) xs → (p < length m) × (0 < e) × (e ≤ at c p)
    has_all : (p e : ℕ) → p < length m → 0 < e → e ≤ at c p → Has (ev p e) xs

  of_none : OfCut (zeros (length m)) []
  of_none = record { in_cut = λ h. absurd (has_none h); has_all = λ p e hp he h. absurd (none p e he h) }
    where
      none : (p e : ℕ) → 0 < e → e ≤ at (zeros (length m)) p → ⊥
      none p e he h = omega (arith, at_zeros (length m) p)

  of_more : (c : List ℕ) (xs : List Ev) (x : Ev) → length c ≡ length m → OfCut c xs → x.station < length m → x.number ≡ suc (at c x.station) → OfCut (forward x.station c) (x ∷ xs)
  of_more c xs x len h hx e = record { in_cut = within; has_all = λ p k hp hk hb. has p k hp hk (new_or_old x.station p k c (omega arith) hb) }
    where
      same_station : {p k : ℕ} → x ≡ ev p k → (p < length m) × (0 < k) × (k ≤ at (forward x.station c) p)
      same_station z =
          let a = ap (λ (y : Ev). y.station) z in
          let b = ap (λ (y : Ev). y.number) z in
          rw (← a, ← b) (hx, omega arith, omega (arith, at_forward x.station x.station c (omega arith), own_self x.station))

      within : {p k : ℕ} → Has (ev p k) (x ∷ xs) → (p < length m) × (0 < k) × (k ≤ at (forward x.station c) p)
      within (here z) = same_station z
      within {p = p} {k = k} (there i) = let (a, b, d) = h.in_cut i in (a, b, omega (arith, at_forward x.station p c (omega arith)))

      has : (p k : ℕ) → p < length m → 0 < k → (k ≤ at c p) ⊎ ((x.station ≡ p) × (k ≡ suc (at c p))) → Has (ev p k) (x ∷ xs)
      has p k hp hk (inl y) = there (h.has_all p k hp hk y)
      has p k hp hk (inr (a, b)) = here (ap₂ ev a (e ∙ ap (λ (q : ℕ). suc (at c q)) a ∙ sym b))

  -- what the stations of a list of events say of it
  record Faithful (xs : List Ev) : Type 0 where
    order : Order T (stations xs)
    read_off : xs ≡ events_of (stations xs)
    all : OfCut (cut_of m (stations xs)) xs

  module _ (x : Ev) (xs : List Ev) (n : Follows T xs x) (f : Faithful xs) where
    abbrev c : List ℕ
    c = cut_of m (stations xs)

    abbrev p : ℕ
    p = x.station

    -- it is the next of its station
    number_is : x.number ≡ suc (at c p)
    number_is = le_antisymm (high (dec_le x.number (suc (at c p)))) (low (dec_le x.number (at c p)))
      where
        low : Dec (x.number ≤ at c p) → at c p < x.number
        low (yes h) = absurd (n.new (f.all.has_all p x.number n.recorded.0 n.recorded.1 h))
        low (no h) = lt_of_not-le h

        high : Dec (x.number ≤ suc (at c p)) → x.number ≤ suc (at c p)
        high (yes h) = h
        high (no h) = absurd (omega (arith, (f.all.in_cut (n.after (suc (at c p)) (omega arith) (lt_of_not-le h))).2))

    ready : (o : ℕ) → SentBy T o p (suc (at c p)) xs → ReadyBy T o c p
    ready zero y = tt
    ready (suc s) y = (f.all.in_cut y).2

    faithful_more : Faithful (x ∷ xs)
    unfolding events_of
    faithful_more = record {
      order = next {p = p} {way = stations xs} n.recorded.0 (omega (arith, number_is, n.recorded.2)) (ready (T.origin p (suc (at c p))) (rw number_is at n.sent)) f.order;
      read_off = ap₂ {C = List Ev} (λ (k : ℕ) (l : List Ev). ev p k ∷ l) (number_is ∙ ap suc (cut_of-often m (stations xs) p n.recorded.0)) f.read_off;
      all = of_more c xs x (cut_of-length m (stations xs)) f.all n.recorded.0 number_is;
    }

  faithful : {xs : List Ev} → Orderly T xs → Faithful xs
  unfolding events_of
  faithful none_yet = record { order = nothing; read_off = refl; all = of_none }
  faithful (then_one {x = x} {xs = xs} n q) = faithful_more x xs n (faithful q)

  -- the stations of an order of events are an order
  pub orderly_order : {xs : List Ev} → Orderly T xs → Order T (stations xs)
  orderly_order q = (faithful q).order

  -- and the events are read off them
  pub orderly_events : {xs : List Ev} → Orderly T xs → xs ≡ events_of (stations xs)
  orderly_events q = (faithful q).read_off

  pub whole_complete : {xs : List Ev} → Whole T xs → Complete T (stations xs)
  whole_complete {xs = xs} w = (f.order, ext_get_or 0 _ m (cut_of-length m (stations xs)) (λ p h. le_antisymm (within_at m _ (order_within T f.order) p) (top p (rw (cut_of-length m (stations xs)) at h) (at m p) refl)))
    where
      f : Faithful xs
      f = faithful w.orderly

      top : (p : ℕ) → p < length m → (k : ℕ) → at m p ≡ k → at m p ≤ at (cut_of m (stations xs)) p
      top p hp zero e = omega arith
      top p hp (suc k) e = (f.all.in_cut (w.all p (at m p) (hp, omega arith, le_refl _))).2

  -- the other way round, where each receipt names a station and a number from 1
  module _ (names : (p e s : ℕ) → Recorded T p e → T.origin p e ≡ suc s → (s < length m) × (0 < T.number p e)) where
    order_orderly_of : {way : List ℕ} → Order T way → Orderly T (events_of way) × OfCut (cut_of m way) (events_of way)
    unfolding events_of
    order_orderly_of nothing = (none_yet, of_none)
    order_orderly_of (next {p = p} {way = way} hp hc y o) = rw (← (cut_of-often m way p hp)) (go (order_orderly_of o))
      where
        c : List ℕ
        c = cut_of m way

        xs : List Ev
        xs = events_of way

        x : Ev
        x = ev p (suc (at c p))

        sent : OfCut c xs → (o : ℕ) → T.origin p (suc (at c p)) ≡ o → ReadyBy T o c p → SentBy T o p (suc (at c p)) xs
        sent h zero e z = tt
        sent h (suc s) e z = let (a, pos) = names p (suc (at c p)) s (hp, omega arith, hc) e in h.has_all s _ a pos z

        go : Orderly T xs × OfCut c xs → Orderly T (x ∷ xs) × OfCut (forward p c) (x ∷ xs)
        go (q, h) = (then_one {x = x} (record { recorded = (hp, omega arith, hc); after = λ e pos lt. h.has_all p e hp pos (omega arith); new = λ (i : Has x xs). omega (arith, (h.in_cut i).2); sent = sent h _ refl y }) q, of_more c xs x (cut_of-length m way) h hp refl)

    pub order_orderly : {way : List ℕ} → Order T way → Orderly T (events_of way)
    order_orderly o = (order_orderly_of o).0

    pub complete_whole : (way : List ℕ) → Complete T way → Whole T (events_of way)
    complete_whole way (o, e) = let (q, h) = order_orderly_of o in record { orderly = q; all = λ p k (a, b, d). h.has_all p k a b (rw e d) }

  -- a recording whose records are formed names so
  pub formed_names : Formed T → (p e s : ℕ) → Recorded T p e → T.origin p e ≡ suc s → (s < length m) × (0 < T.number p e)
  formed_names formed p e s r x = let (ne, (a, b, d)) = formed.sender p e s r x in (a, b)

  -- the last event of p in an order is its count in the cut that the order comes to
  pub latest_count : {xs : List Ev} → Orderly T xs → (p : ℕ) → latest p xs ≡ at (cut_of m (stations xs)) p
  unfolding latest
  latest_count none_yet p = sym (at_zeros (length m) p)
  latest_count (then_one {x = x} {xs = xs} n q) p = go (eqb x.station p) refl (latest_count q p)
    where
      c : List ℕ
      c = cut_of m (stations xs)

      counted : x.station < length c
      counted = rw (cut_of-length m (stations xs)) n.recorded.0

      go : (b : Bool) → eqb x.station p ≡ b → latest p xs ≡ at c p → cond b x.number (latest p xs) ≡ at (forward x.station c) p
      go true e h = rw (← (eqb-true x.station p e)) (number_is x xs n (faithful q) ∙ sym (at_forward_same x.station c counted))
      go false e h = h ∙ sym (at_forward_other x.station p c (eqb-false x.station p e))

  pub orderly_rest : (ws zs : List Ev) → Orderly T (ws ++ zs) → Orderly T zs
  orderly_rest [] zs q = q
  orderly_rest (w ∷ ws) zs (then_one n q) = orderly_rest ws zs q

pub stations_events : (way : List ℕ) → stations (events_of way) ≡ way
unfolding events_of
stations_events [] = refl
stations_events (p ∷ way) = ap {B = List ℕ} (λ l. p ∷ l) (stations_events way)

moment_of : (m : List ℕ) (P : List ℕ → Type 0) (ws zs : List Ev) → P (cut_of m (stations zs)) → Moment m P (stations (ws ++ zs))
moment_of m P [] zs h = last h
moment_of m P (w ∷ ws) zs h = earlier (moment_of m P ws zs h)

of_moment : (m : List ℕ) (P : List ℕ → Type 0) (xs : List Ev) → Moment m P (stations xs) → (ws zs : List Ev) × (xs ≡ ws ++ zs) × P (cut_of m (stations zs))
of_moment m P [] (last h) = ([], [], refl, h)
of_moment m P (x ∷ xs) (last h) = ([], x ∷ xs, refl, h)
of_moment m P (x ∷ xs) (earlier h) = let (ws, zs, e, k) = of_moment m P xs h in (x ∷ ws, zs, ap {B = List Ev} (λ l. x ∷ l) e, k)

module _ {A : Type 0} (level : Levels A) (condition : (ℕ → A) → Bool) (T : Messages) where
  abbrev Holds : List ℕ → Type 0
  Holds c = at_cut level condition c ≡ true

  -- the levels after the events of an order are those at the cut that it comes to
  pub levels_same : (xs : List Ev) → Orderly T (reverse xs) → condition (λ p. level p (last_of xs p)) ≡ at_cut level condition (cut_of T.counts (stations (reverse xs)))
  levels_same xs q = ap condition (fun_ext (λ p. ap (level p) (latest_count T q p)))

  -- an order has a moment where the condition holds exactly if its stations, as a way, have one
  pub moment_is : (es : List Ev) → Orderly T (reverse es) → HasMoment level condition es ↔ Moment T.counts Holds (stations (reverse es))
  moment_is es q = (to, from)
    where
      part : (xs ys : List Ev) → es ≡ xs ++ ys → reverse es ≡ reverse ys ++ reverse xs
      part xs ys e = ap reverse e ∙ reverse-append xs ys

      to : HasMoment level condition es → Moment T.counts Holds (stations (reverse es))
      to (xs, ys, e, h) = rw (part xs ys e) (moment_of T.counts Holds (reverse ys) (reverse xs) (sym (levels_same xs (orderly_rest T (reverse ys) (reverse xs) (rw (part xs ys e) at q))) ∙ h))

      from : Moment T.counts Holds (stations (reverse es)) → HasMoment level condition es
      from k =
          let (ws, zs, e, h) = of_moment T.counts Holds (reverse es) k in
          (reverse zs, reverse ws, sym (reverse-reverse es) ∙ ap reverse e ∙ reverse-append ws zs, levels_same (reverse zs) (rw reverse-reverse (orderly_rest T ws zs (rw e at q))) ∙ rw reverse-reverse h)
