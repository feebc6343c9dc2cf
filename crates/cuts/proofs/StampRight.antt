-- Under the stamp rule, as recorded: a possible order exists, its cuts are the consistent ones and its events' own counts their numbers, the paths are
-- the possible orders, and every consistent cut lies on one. Here orders are lists of stations (`Working`); `OrdersRight` has them as lists of events.
-- In order: what an order has seen; going on with an order; paths; the recording up to a cut. Assumes nothing.
use mathlib.Core.Path.{◌≡◌, refl, sym, ap, ◌∙◌, subst}
use mathlib.Core.Logic.{◌⊎◌, inl, inr}
use mathlib.Core.List.{List, ◌∷◌}
use Prim.Native.Nat.{ℕ, zero, suc, ◌+◌, ◌≤◌, ◌<◌}
use native.Mathlib.Nat.{le_refl, lt_of_not-le, not-suc-le-zero, le_dest}
use native.Mathlib.Decide.{dec_le}
use native.Mathlib.Omega.{arith}
use lib.ListN.{length}
use Rattle.cuts.specs.Below.{own}
use Rattle.cuts.specs.Cut.{at, zeros, forward, total, Within}
use Rattle.cuts.specs.Way.{cut_of, Along, start, step, Moment, Begins, whole}
use Rattle.cuts.specs.Trace.{Messages, Stamps, Recorded, Formed, Stamped, Agrees}
use Rattle.cuts.specs.Working.{ReadyBy, Ready, Order, nothing, next, Complete, up_to}
use Rattle.cuts.proofs.BelowLaws.{own_self, own_other}
use Rattle.cuts.proofs.CutLaws.{within_zeros, within_forward, within_at, within_length, within_total, at_zeros, at_forward, new_or_old, total_forward, full_of_lem, room}
use Rattle.cuts.proofs.WayLaws.{cut_of-length, cut_of-same, along_within, begins_step, begins_moment}
use Rattle.cuts.proofs.StampLaws.{sender, rule, stamp_previous, stamp_sending, stamp_grows, weigh, weigh_sending, weigh_grows}

pub order_within : (T : Messages) {way : List ℕ} → Order T way → Within T.counts (cut_of T.counts way)
order_within T nothing = within_zeros T.counts
order_within T (next {p = p} {way = way} hp hc y o) = within_forward T.counts (cut_of T.counts way) p (order_within T o) hc

module _ (T : Messages) (S : Stamps) where
  abbrev m : List ℕ
  m = T.counts

  abbrev n : ℕ
  n = length T.counts

  -- of all events in a cut: no stamp counts more than the cut has, and each own count is the event's number
  pub record Seen (c : List ℕ) : Type 0 where
    pub below : (p e q : ℕ) → p < n → e ≤ at c p → q < n → S p e q ≤ at c q
    pub self : (p e : ℕ) → p < n → e ≤ at c p → S p e p ≡ e

  module _ (formed : Formed T) (stamped : Stamped T S) where
    -- the next event of p after a cut of which that is so
    module _ (c : List ℕ) (p : ℕ) (hp : p < n) (hc : at c p < at m p) (seen : Seen c) where
      next_below : (q : ℕ) → q < n → (o : ℕ) → T.origin p (suc (at c p)) ≡ o → ReadyBy T o c p → S p (suc (at c p)) q ≤ at c q + own p q
      next_below q hq zero e y = omega (arith, rw e at (rule T S stamped p (at c p) q hp hc hq), seen.below p (at c p) q hp (le_refl _) hq)
      next_below q hq (suc s) e y = omega (arith, rw e at (rule T S stamped p (at c p) q hp hc hq), seen.below p (at c p) q hp (le_refl _) hq, seen.below s _ q (sender T S formed p (at c p) s hp hc e).0 y hq)

      next_self : Ready T c p → S p (suc (at c p)) p ≡ suc (at c p)
      next_self y = omega (arith, next_below p hp _ refl y, stamp_previous T S stamped p (at c p) p hp hc hp, seen.self p (at c p) hp (le_refl _), own_self p)

      next_seen : length c ≡ n → Ready T c p → Seen (forward p c)
      next_seen len y = record {
        below = λ p' e q hp' he hq. below' p' e q hp' hq (new_or_old p p' e c (omega arith) he);
        self = λ p' e hp' he. self' p' e hp' (new_or_old p p' e c (omega arith) he);
      }
        where
          below' : (p' e q : ℕ) → p' < n → q < n → (e ≤ at c p') ⊎ ((p ≡ p') × (e ≡ suc (at c p'))) → S p' e q ≤ at (forward p c) q
          below' p' e q hp' hq (inl k) = omega (arith, seen.below p' e q hp' k hq, at_forward p q c (omega arith))
          below' p' e q hp' hq (inr (x, z)) = rw (z, ← x) (omega (arith, next_below q hq _ refl y, at_forward p q c (omega arith)))

          self' : (p' e : ℕ) → p' < n → (e ≤ at c p') ⊎ ((p ≡ p') × (e ≡ suc (at c p'))) → S p' e p' ≡ e
          self' p' e hp' (inl k) = seen.self p' e hp' k
          self' p' e hp' (inr (x, z)) = rw (z, ← x) (next_self y)

    seen_start : Seen (zeros n)
    seen_start = record { below = λ p e q hp he hq. below p e q (rw at_zeros at he); self = λ p e hp he. self p e (rw at_zeros at he) }
      where
        below : (p e q : ℕ) → e ≤ 0 → S p e q ≤ at (zeros n) q
        below p zero q h = omega (arith, stamped.start p q)
        below p (suc e) q h = absurd (not-suc-le-zero h)

        self : (p e : ℕ) → e ≤ 0 → S p e p ≡ e
        self p zero h = stamped.start p p
        self p (suc e) h = absurd (not-suc-le-zero h)

    -- at every moment of an order
    pub order_seen : {way : List ℕ} → Order T way → Seen (cut_of m way)
    order_seen nothing = seen_start
    order_seen (next {p = p} {way = way} hp hc y o) = next_seen (cut_of m way) p hp hc (order_seen o) (cut_of-length m way) y

    pub order_agrees : {way : List ℕ} → Order T way → Along m (Agrees T S) way
    order_agrees nothing = start (λ p q hp hq ne. seen_start.below p _ q hp (le_refl _) hq)
    order_agrees (next hp hc y o) = step hp hc (λ p q hp' hq ne. (order_seen (next hp hc y o)).below p _ q hp' (le_refl _) hq) (order_agrees o)

    -- a station whose next event is ready
    abbrev Found : List ℕ → Type 0
    Found c = (s : ℕ) × (s < n) × (at c s < at m s) × Ready T c s

    -- from a station that can go on, follow the missing senders: the sums of their stamps fall
    ready_from : (k : ℕ) (c : List ℕ) → Within m c → (p : ℕ) → p < n → at c p < at m p → weigh T S stamped p (suc (at c p)) < k → Found c
    ready_from zero c w p hp hc h = absurd (not-suc-le-zero h)
    ready_from (suc k) c w p hp hc h = go (ready_from k c w) (T.origin p (suc (at c p))) refl
      where
        wait : ((p : ℕ) → p < n → at c p < at m p → weigh T S stamped p (suc (at c p)) < k → Found c) → (s : ℕ) → T.origin p (suc (at c p)) ≡ suc s → Dec (T.number p (suc (at c p)) ≤ at c s) → Found c
        wait ih s x (yes y) = (p, hp, hc, subst (λ (o : ℕ). ReadyBy T o c p) (sym x) y)
        wait ih s x (no y) = ih s hs (omega (arith, top)) (omega (arith, weigh_sending T S stamped p (at c p) s hp hc x, grows))
          where
            hs : s < n
            hs = (sender T S formed p (at c p) s hp hc x).0

            top : T.number p (suc (at c p)) ≤ at m s
            top = (sender T S formed p (at c p) s hp hc x).3

            grows : weigh T S stamped s (suc (at c s)) ≤ weigh T S stamped s (T.number p (suc (at c p)))
            grows = let (d, e) = le_dest (lt_of_not-le y) in rw (← e) (weigh_grows T S stamped s (suc (at c s)) d hs (omega (arith, top)))

        go : ((p : ℕ) → p < n → at c p < at m p → weigh T S stamped p (suc (at c p)) < k → Found c) → (o : ℕ) → T.origin p (suc (at c p)) ≡ o → Found c
        go ih zero x = (p, hp, hc, subst (λ (o : ℕ). ReadyBy T o c p) (sym x) tt)
        go ih (suc s) x = wait ih s x (dec_le (T.number p (suc (at c p))) (at c s))

    -- an order that lacks events goes on by one
    pub order_one_more : {way : List ℕ} → Order T way → total (cut_of m way) < total m → (p : ℕ) × (p < n) × Order T (p ∷ way)
    order_one_more {way = way} o t =
        let (p, hp, hc) = room m (cut_of m way) (order_within T o) t in
        let (s, hs, hcs, y) = ready_from (suc (weigh T S stamped p (suc (at (cut_of m way) p)))) (cut_of m way) (order_within T o) p hp hc (le_refl _) in
        (s, hs, next hs hcs y o)

    order_extend : (k : ℕ) {way : List ℕ} → Order T way → total (cut_of m way) + k ≡ total m → (on : List ℕ) × Complete T on × Begins way on
    order_extend zero {way = way} o t = (way, (o, full_of_lem m _ (order_within T o) (omega arith)), whole)
    order_extend (suc k) {way = way} o t =
        let (p, hp, q) = order_one_more o (omega arith) in
        let (on, full, b) = order_extend k q (omega (arith, total_forward p (cut_of m way) (rw (cut_of-length m way) hp))) in
        (on, full, begins_step b)

    -- every beginning of an order is the beginning of a complete one
    pub order_goes_on : {way : List ℕ} → Order T way → (on : List ℕ) × Complete T on × Begins way on
    order_goes_on {way = way} o = let (d, z) = le_dest (within_total m (cut_of m way) (order_within T o)) in order_extend d o z

    pub order_exists : (way : List ℕ) × Complete T way
    order_exists = let (on, full, b) = order_goes_on nothing in (on, full)

    pub seen_all : Seen m
    seen_all = let (way, (o, e)) = order_exists in subst Seen e (order_seen o)

    -- each event's own count is its number
    pub own_count : (p e : ℕ) → p < n → e ≤ at m p → S p e p ≡ e
    own_count p e hp he = seen_all.self p e hp he

    -- what a consistent cut's events name is in it
    sent_in : (c : List ℕ) → Within m c → Agrees T S c → (p e s : ℕ) → p < n → e < at c p → T.origin p (suc e) ≡ suc s → T.number p (suc e) ≤ at c s
    sent_in c w con p e s hp he x =
        let (hs, ne, pos, top) = sender T S formed p e s hp he' x in
        omega (arith, own_count s _ hs top, stamp_sending T S stamped p e s s hp he' hs x, grows hs, con p s hp hs (λ z. ne (sym z)))
      where
        he' : e < at m p
        he' = omega (arith, within_at m c w p)

        grows : s < n → S p (suc e) s ≤ S p (at c p) s
        grows hs = let (d, z) = le_dest he in rw (← z) (stamp_grows T S stamped p (suc e) d s hp (omega (arith, within_at m c w p)) hs)

    -- a way through consistent cuts is an order
    pub agrees_order : {way : List ℕ} → Along m (Agrees T S) way → Order T way
    agrees_order (start x) = nothing
    agrees_order (step {p = p} {way = way} hp hc con a) = next hp hc (go _ refl) (agrees_order a)
      where
        c : List ℕ
        c = cut_of m way

        go : (o : ℕ) → T.origin p (suc (at c p)) ≡ o → ReadyBy T o c p
        go zero x = tt
        go (suc s) x = let (hs, ne, pos, top) = sender T S formed p (at c p) s hp hc x in
            omega (arith, sent_in (forward p c) (along_within (step hp hc con a)) con p (at c p) s hp (omega (arith, at_forward p p c (rw (cut_of-length m way) hp), own_self p)) x, at_forward p s c (rw (cut_of-length m way) hs), own_other p s (λ z. ne (sym z)))

    -- the recording up to a consistent cut is a recording whose stamps are right
    module _ (c : List ℕ) (w : Within m c) (con : Agrees T S c) where
      len : length c ≡ n
      len = within_length m c w

      whole_of : (p e : ℕ) → Recorded (up_to T c) p e → Recorded T p e
      whole_of p e (a, b, d) = (omega (arith, len), b, omega (arith, within_at m c w p))

      part_sender : (p e s : ℕ) → Recorded (up_to T c) p e → T.origin p e ≡ suc s → T.number p e ≤ at c s
      part_sender p zero s (a, b, d) x = absurd (omega arith)
      part_sender p (suc e) s (a, b, d) x = sent_in c w con p e s (omega (arith, len)) d x

      part_formed : Formed (up_to T c)
      part_formed = record {
        local = λ p e r x. formed.local p e (whole_of p e r) x;
        sender = λ p e s r x. let (ne, (a, b, d)) = formed.sender p e s (whole_of p e r) x in (ne, (omega (arith, len), b, part_sender p e s r x));
      }

      part_stamped : Stamped (up_to T c) S
      part_stamped = record { start = stamped.start; rule = λ p e q r hq. stamped.rule p e q (whole_of p (suc e) r) (omega (arith, len)) }

      -- an order of the part is one of the whole
      order_up : {way : List ℕ} → Order (up_to T c) way → Order T way
      order_up nothing = nothing
      order_up (next {p = p} {way = way} hp hc y o) =
          next {p = p} {way = way} (omega (arith, len)) (omega (arith, within_at m c w p, ap (λ (d : List ℕ). at d p) same)) (subst (λ (d : List ℕ). Ready T d p) same y) (order_up o)
        where
          same : cut_of c way ≡ cut_of m way
          same = cut_of-same c m len way

-- an order leads to every consistent cut
pub order_to : (T : Messages) (S : Stamps) → Formed T → Stamped T S → (c : List ℕ) → Within T.counts c → Agrees T S c → (way : List ℕ) × Order T way × (cut_of T.counts way ≡ c)
order_to T S formed stamped c w con =
    let (way, (o, e)) = order_exists (up_to T c) S (part_formed T S formed stamped c w con) (part_stamped T S formed stamped c w con) in
    (way, order_up T S formed stamped c w con o, sym (cut_of-same c T.counts (within_length T.counts c w) way) ∙ e)

-- every consistent cut lies on a complete order
pub order_through : (T : Messages) (S : Stamps) → Formed T → Stamped T S → (P : List ℕ → Type 0) (c : List ℕ) → Within T.counts c → Agrees T S c → P c → (way : List ℕ) × Complete T way × Moment T.counts P way
order_through T S formed stamped P c w con h =
    let (way, o, e) = order_to T S formed stamped c w con in
    let (on, full, b) = order_goes_on T S formed stamped o in
    (on, full, begins_moment b (rw e h))
