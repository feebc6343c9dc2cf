-- Demand 3, whole. Of a recording whose records are formed and whose stamps obey the rule: the paths are the possible orders and every consistent cut is
-- a moment of one, so Poss and Def over consistent cuts are Poss and Def over possible orders, with their evidence.
-- In order: paths and orders; moments and consistent cuts; Poss and Def; the two answers. Assumes nothing.
use mathlib.Core.Path.{◌≡◌, refl, sym, ap, ◌∙◌, subst}
use mathlib.Core.Logic.{◌↔◌}
use mathlib.Core.Bool.{Bool, true}
use mathlib.Core.Option.{Option, none, some}
use mathlib.Core.List.{List, [], ◌∷◌, ◌++◌, reverse, reverse-reverse, reverse-append}
use Prim.Native.Nat.{ℕ, suc}
use lib.ListN.{length}
use lib.Seq.{ext_get_or}
use Rattle.cuts.specs.Cut.{Within}
use Rattle.cuts.specs.Way.{cut_of, Along, Begins, whole, longer}
use Rattle.cuts.specs.Verdict.{Lattice, IsPath, Meets, Poss, Def, Shown, PossIs, DefIs}
use Rattle.cuts.specs.Computed.{def_of}
use Rattle.cuts.specs.Trace.{Messages, Stamps, Formed, Stamped, agrees, lattice, Levels, at_cut}
use Rattle.cuts.specs.Orders.{Ev, ev, PossibleOrder, last_of, counts_after, often, events_of, order_of, HoldsAfter, HasMoment, SomeOrderHas, SomeOrderLacks, PossByOrders, DefByOrders, ByOrders}
use Rattle.cuts.specs.Working.{stations, Orderly, Order, Complete}
use Rattle.cuts.proofs.BelowLaws.{length_tab, get_d-tab}
use Rattle.cuts.proofs.WayLaws.{cut_of-length, along_map, along_within, along_last, moment_along}
use Rattle.cuts.proofs.VerdictRight.{def_right}
use Rattle.cuts.proofs.StampLaws.{agrees_true, true_agrees}
use Rattle.cuts.proofs.StampRight.{order_to, order_goes_on, order_exists, order_agrees, agrees_order}
use Rattle.cuts.proofs.OrdersRight.{possible_is}
use Rattle.cuts.proofs.StationsRight.{whole_complete, orderly_order, order_orderly, complete_whole, formed_names, latest_count, orderly_rest, stations_events, levels_same, moment_is}

-- the counts after the events of an order are the cut that it comes to
pub counts_after_lem : (T : Messages) (xs : List Ev) → Orderly T (reverse xs) → counts_after (length T.counts) xs ≡ cut_of T.counts (stations (reverse xs))
counts_after_lem T xs q =
    ext_get_or 0 _ _ (length_tab n (last_of xs) ∙ sym (cut_of-length T.counts (stations (reverse xs))))
    (λ p h. get_d-tab n (last_of xs) 0 p (rw (length_tab n (last_of xs)) at h) ∙ latest_count T q p)
  where
    n : ℕ
    n = length T.counts

-- the events of a beginning are a beginning of the events
begins_events : {way on : List ℕ} → Begins way on → (ws : List Ev) × (events_of on ≡ ws ++ events_of way)
unfolding events_of
begins_events whole = ([], refl)
begins_events (longer {p = p} {on = on} b) = let (ws, e) = begins_events b in (ev p (suc (often p on)) ∷ ws, ap {B = List Ev} (λ l. ev p (suc (often p on)) ∷ l) e)

module _ (T : Messages) (S : Stamps) (formed : Formed T) (stamped : Stamped T S) where
  abbrev m : List ℕ
  m = T.counts

  -- a way through consistent cuts leads to every consistent cut
  pub way_to_lem : (c : List ℕ) → Within m c → agrees T S c ≡ true → (way : List ℕ) × Along m (λ d. agrees T S d ≡ true) way × (cut_of m way ≡ c)
  way_to_lem c w x =
      let (way, o, e) = order_to T S formed stamped c w (agrees_true T S c x) in
      (way, along_map (true_agrees T S) (order_agrees T S formed stamped o), e)

  complete_possible : (way : List ℕ) → Complete T way → PossibleOrder T (reverse (events_of way))
  complete_possible way o = (possible_is T _).1 (rw reverse-reverse (complete_whole T (formed_names T formed) way o))

  possible_complete : (es : List Ev) → PossibleOrder T es → Complete T (stations (reverse es))
  possible_complete es q = whole_complete T ((possible_is T es).0 q)

  -- a possible order exists
  pub an_order : (es : List Ev) × PossibleOrder T es
  an_order = let (way, o) = order_exists T S formed stamped in (reverse (events_of way), complete_possible way o)

  module _ (holds : List ℕ → Bool) where
    path_complete : (way : List ℕ) → IsPath (lattice T S holds) way ↔ Complete T way
    path_complete way = (
      λ (a, e). (agrees_order T S formed stamped (along_map (agrees_true T S) a), e),
      λ (o, e). (along_map (true_agrees T S) (order_agrees T S formed stamped o), e),
    )

    -- every path is a possible order
    pub path_order : (way : List ℕ) → IsPath (lattice T S holds) way → PossibleOrder T (order_of (reverse way))
    path_order way p = rw reverse-reverse (complete_possible way ((path_complete way).0 p))

    -- every possible order is a path
    pub order_path : (es : List Ev) → PossibleOrder T es → IsPath (lattice T S holds) (stations (reverse es))
    order_path es q = (path_complete _).1 (possible_complete es q)

  beginning_orderly : (es xs ys : List Ev) → PossibleOrder T es → es ≡ xs ++ ys → Orderly T (reverse xs)
  beginning_orderly es xs ys q e = orderly_rest T (reverse ys) (reverse xs) (rw (ap reverse e ∙ reverse-append xs ys) at ((possible_is T es).0 q).orderly)

  -- in every possible order each moment is a consistent cut
  pub moment_consistent : (es xs ys : List Ev) → PossibleOrder T es → es ≡ xs ++ ys → Within m (counts_after (length m) xs) × (agrees T S (counts_after (length m) xs) ≡ true)
  moment_consistent es xs ys q e =
      let o = beginning_orderly es xs ys q e in
      let a = order_agrees T S formed stamped (orderly_order T o) in
      rw (counts_after_lem T xs o) (along_within a, true_agrees T S _ (along_last a))

  -- and every consistent cut is a moment of some possible order
  pub consistent_moment : (c : List ℕ) → Within m c → agrees T S c ≡ true → (es xs ys : List Ev) × PossibleOrder T es × (es ≡ xs ++ ys) × (counts_after (length m) xs ≡ c)
  consistent_moment c w x =
      let (way, o, e) = order_to T S formed stamped c w (agrees_true T S c x) in
      let (on, full, b) = order_goes_on T S formed stamped o in
      let (ws, z) = begins_events b in
      (reverse (events_of on), reverse (events_of way), reverse ws, complete_possible on full, ap reverse z ∙ reverse-append ws (events_of way), counts way o ∙ e)
    where
      counts : (way : List ℕ) → Order T way → counts_after (length m) (reverse (events_of way)) ≡ cut_of m way
      counts way o = counts_after_lem T (reverse (events_of way)) (rw reverse-reverse (order_orderly T (formed_names T formed) o)) ∙ ap (cut_of m) (ap stations (reverse-reverse (events_of way)) ∙ stations_events way)

  module _ {A : Type 0} (level : Levels A) (condition : (ℕ → A) → Bool) where
    abbrev L : Lattice
    L = lattice T S (at_cut level condition)

    moment_meets : (es : List Ev) → PossibleOrder T es → HasMoment level condition es ↔ Meets L (stations (reverse es))
    moment_meets es q = moment_is level condition T es ((possible_is T es).0 q).orderly

    -- the moments of a path's order are the path's cuts
    way_meets : (way : List ℕ) → IsPath L way → HasMoment level condition (order_of (reverse way)) ↔ Meets L way
    way_meets way p = subst (λ (w : List ℕ). HasMoment level condition (order_of (reverse way)) ↔ Meets L w) back (moment_meets _ (path_order (at_cut level condition) way p))
      where
        back : stations (reverse (order_of (reverse way))) ≡ way
        back = ap stations (reverse-reverse (events_of (reverse (reverse way)))) ∙ stations_events (reverse (reverse way)) ∙ reverse-reverse way

    holds_after : (es xs ys : List Ev) → PossibleOrder T es → es ≡ xs ++ ys → at_cut level condition (counts_after (length m) xs) ≡ true → HoldsAfter level condition xs
    holds_after es xs ys q e h = let o = beginning_orderly es xs ys q e in levels_same level condition T xs o ∙ ap (at_cut level condition) (sym (counts_after_lem T xs o)) ∙ h

    -- Poss is yes exactly if some possible order has a moment where the condition holds
    pub poss_orders : Poss L ↔ SomeOrderHas level condition T
    poss_orders = (
      λ (c, w, x, y). let (es, xs, ys, q, e, z) = consistent_moment c w x in (es, q, (xs, ys, e, holds_after es xs ys q e (ap (at_cut level condition) z ∙ y))),
      λ (es, q, h). moment_along (order_path (at_cut level condition) es q).0 ((moment_meets es q).0 h),
    )

    -- Def is yes exactly if every possible order has one
    pub def_orders : Def L ↔ ((es : List Ev) → PossibleOrder T es → HasMoment level condition es)
    def_orders = (
      λ d es q. (moment_meets es q).1 (d _ (order_path (at_cut level condition) es q)),
      λ d way p. (way_meets way p).0 (d _ (path_order (at_cut level condition) way p)),
    )

    -- the path shown is a possible order that has none
    pub shown_order : (way : List ℕ) → Shown L way → PossibleOrder T (order_of (reverse way)) × ¬ HasMoment level condition (order_of (reverse way))
    shown_order way s = (path_order (at_cut level condition) way s.path, λ h. s.avoids ((way_meets way s.path).0 h))

    -- Def is no exactly if some possible order has none
    pub def_no_lem : (¬ Def L) ↔ SomeOrderLacks level condition T
    def_no_lem = (λ n. go n (def_of L) (def_right L), λ (es, q, h) d. h (def_orders.0 d es q))
      where
        go : ¬ Def L → (r : Option (List ℕ)) → DefIs L r → SomeOrderLacks level condition T
        go n none d = absurd (n d)
        go n (some path) s = let (q, h) = shown_order (reverse path) s in (order_of (reverse (reverse path)), q, h)

    -- an answer that is right of consistent cuts is right of possible orders
    pub poss_by_orders : (r : Option (List ℕ)) → PossIs L r → PossByOrders level condition T r
    poss_by_orders none n = λ h. n (poss_orders.1 h)
    poss_by_orders (some c) s =
        let (es, xs, ys, q, e, z) = consistent_moment c s.within s.consistent in
        (es, xs, ys, q, e, holds_after es xs ys q e (ap (at_cut level condition) z ∙ s.holds), z)

    pub def_by_orders : (r : Option (List ℕ)) → DefIs L r → DefByOrders level condition T r
    def_by_orders none d = def_orders.0 d
    def_by_orders (some path) s = rw (reverse-reverse path) at (shown_order (reverse path) s)

    -- demand 3 of every pair of right answers
    pub by_orders : (poss def : Option (List ℕ)) → PossIs L poss → DefIs L def → ByOrders level condition T poss def
    by_orders poss def p d = record { order = an_order; poss_is = poss_by_orders poss p; def_is = def_by_orders def d }
