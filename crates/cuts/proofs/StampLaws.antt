-- What the stamp rule gives of single stamps: the test of consistency says what it should; a stamp counts at least as much as the station's previous
-- one and as the one it names, and one more of its own; so the sums of stamps grow along every message, and no receipts go round in a circle.
-- Assumes nothing.
use mathlib.Core.Path.{◌≡◌}
use mathlib.Core.Logic.{◌↔◌, ◌≢◌}
use mathlib.Core.Bool.{true}
use mathlib.Core.List.{List}
use Prim.Native.Nat.{ℕ, zero, suc, ◌+◌, ◌≤◌, ◌<◌}
use native.Mathlib.Nat.{le_refl, add-zero, add-suc}
use native.Mathlib.Omega.{arith}
use lib.ListN.{length}
use lib.Dec.{eqb}
use borrow.Author.Tests.{leb-true, le-leb, eqb-false, ne_eqb}
use Rattle.cuts.specs.Below.{sum_to, own}
use Rattle.cuts.specs.Cut.{at}
use Rattle.cuts.specs.Trace.{Messages, Stamps, Formed, Stamped, wanted, Agrees, agrees}
use Rattle.cuts.specs.Orders.{Ev, Precedes, own_next, sending, through}
use Rattle.cuts.proofs.BelowLaws.{or_second, or_if, own_self, sum_to-lt, every_true, true_every}

module _ (T : Messages) (S : Stamps) where
  abbrev m : List ℕ
  m = T.counts

  abbrev n : ℕ
  n = length T.counts

  pub agrees_true : (c : List ℕ) → agrees T S c ≡ true → Agrees T S c
  unfolding agrees
  agrees_true c h p q hp hq ne = leb-true _ _ (or_second (eqb p q) _ (ne_eqb p q ne) (every_true n _ (every_true n _ h p hp) q hq))

  pub true_agrees : (c : List ℕ) → Agrees T S c → agrees T S c ≡ true
  unfolding agrees
  true_agrees c h = true_every n _ (λ p hp. true_every n _ (λ q hq. or_if (eqb p q) _ (λ e. le-leb _ _ (h p q hp hq (eqb-false p q e)))))

  -- the test of consistency is consistency
  pub agrees_is : (c : List ℕ) → (agrees T S c ≡ true) ↔ Agrees T S c
  agrees_is c = (agrees_true c, true_agrees c)

  -- what a receipt, event e + 1 of p, names
  pub sender : Formed T → (p e s : ℕ) → p < n → e < at m p → T.origin p (suc e) ≡ suc s → (s < n) × (s ≢ p) × (0 < T.number p (suc e)) × (T.number p (suc e) ≤ at m s)
  sender formed p e s hp he x = let (ne, (a, b, d)) = formed.sender p (suc e) s (hp, omega arith, he) x in (a, ne, b, d)

  module _ (stamped : Stamped T S) where
    pub rule : (p e q : ℕ) → p < n → e < at m p → q < n → S p (suc e) q ≡ wanted T S (T.origin p (suc e)) p e q
    rule p e q hp he hq = stamped.rule p e q (hp, omega arith, he) hq

    -- a stamp counts what the station's previous one does, and one more of its own
    pub stamp_previous : (p e q : ℕ) → p < n → e < at m p → q < n → S p e q + own p q ≤ S p (suc e) q
    stamp_previous p e q hp he hq = go (T.origin p (suc e)) (rule p e q hp he hq)
      where
        go : (o : ℕ) → S p (suc e) q ≡ wanted T S o p e q → S p e q + own p q ≤ S p (suc e) q
        go zero x = omega arith
        go (suc s) x = omega arith

    -- and what the one that it names does
    pub stamp_sending : (p e q s : ℕ) → p < n → e < at m p → q < n → T.origin p (suc e) ≡ suc s → S s (T.number p (suc e)) q + own p q ≤ S p (suc e) q
    stamp_sending p e q s hp he hq x = omega (arith, rw x at (rule p e q hp he hq))

    -- so the stamps of a station grow
    pub stamp_grows : (p e k q : ℕ) → p < n → e + k ≤ at m p → q < n → S p e q ≤ S p (e + k) q
    stamp_grows p e zero q hp h hq = rw add-zero (le_refl _)
    stamp_grows p e (suc k) q hp h hq = rw add-suc (omega (arith, stamp_grows p e k q hp (omega arith) hq, stamp_previous p (e + k) q hp (omega arith) hq))

    -- the sum of a stamp's counts
    pub weigh : ℕ → ℕ → ℕ
    weigh p e = sum_to n (S p e)

    pub weigh_previous : (p e : ℕ) → p < n → e < at m p → weigh p e < weigh p (suc e)
    unfolding weigh
    weigh_previous p e hp he = sum_to-lt n _ _ p hp (λ q hq. omega (arith, stamp_previous p e q hp he hq)) (omega (arith, own_self p, stamp_previous p e p hp he hp))

    pub weigh_sending : (p e s : ℕ) → p < n → e < at m p → T.origin p (suc e) ≡ suc s → weigh s (T.number p (suc e)) < weigh p (suc e)
    unfolding weigh
    weigh_sending p e s hp he x = sum_to-lt n _ _ p hp (λ q hq. omega (arith, stamp_sending p e q s hp he hq x)) (omega (arith, own_self p, stamp_sending p e p s hp he hp x))

    pub weigh_grows : (p e k : ℕ) → p < n → e + k ≤ at m p → weigh p e ≤ weigh p (e + k)
    weigh_grows p e zero hp h = rw add-zero (le_refl _)
    weigh_grows p e (suc k) hp h = rw add-suc (omega (arith, weigh_grows p e k hp (omega arith), weigh_previous p (e + k) hp (omega arith)))

    precedes_weigh : {x y : Ev} → Precedes T x y → weigh x.station x.number < weigh y.station y.number
    precedes_weigh (own_next {p = p} {e = e} a b) = weigh_previous p e b.0 b.2
    precedes_weigh (sending {p = p} {e = zero} {s = s} a o) = absurd (omega (arith, a.1))
    precedes_weigh (sending {p = p} {e = suc e} {s = s} a o) = weigh_sending p e s a.0 a.2 o
    precedes_weigh (through a b) = omega (arith, precedes_weigh a, precedes_weigh b)

    -- no receipts that go round in a circle pass the stamp rule: no event happens before itself
    pub no_circle : (x : Ev) → ¬ Precedes T x x
    no_circle x h = omega (arith, precedes_weigh h)
