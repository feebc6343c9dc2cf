-- A recording tabled by stations and events, as bytes make it (`FormLaws`) and as lists do (`GivenLaws`): what its events say, and when two such are equal.
-- Assumes nothing.
use mathlib.Core.Path.{◌≡◌, ap, ap₂, ◌∙◌}
use mathlib.Core.List.{List, []}
use Prim.Native.Nat.{ℕ, ◌<◌}
use lib.IntN.{ℤ}
use lib.ListN.{length, get_or}
use Rattle.cuts.specs.Below.{tab}
use Rattle.cuts.specs.Cut.{at}
use Rattle.cuts.proofs.BelowLaws.{tab_same, map_tab, length_tab, get_d-tab}
use Rattle.recording.specs.Recording.{Event, Recording, no_event, counts_of, event_at}

-- n stations, their start levels, their counts, and event e + 1 of the station at place p
abbrev pub tabled : ℕ → (ℕ → ℤ) → (ℕ → ℕ) → (ℕ → ℕ → Event) → Recording
tabled n start m event = record { starts = tab n start; events = tab n (λ p. tab (m p) (event p)) }

module _ (n : ℕ) (start : ℕ → ℤ) (m : ℕ → ℕ) (event : ℕ → ℕ → Event) where
  pub counts_tabled : counts_of (tabled n start m event) ≡ tab n m
  counts_tabled = map_tab n _ (λ l. length l) ∙ tab_same n _ _ (λ p h. length_tab (m p) _)

  pub stations_tabled : length (counts_of (tabled n start m event)) ≡ n
  stations_tabled = ap length counts_tabled ∙ length_tab n _

  pub count_tabled : (p : ℕ) → p < n → at (counts_of (tabled n start m event)) p ≡ m p
  count_tabled p h = ap (λ (l : List ℕ). at l p) counts_tabled ∙ get_d-tab n _ 0 p h

  pub event_tabled : (p e : ℕ) → p < n → e < m p → event_at (tabled n start m event) p e ≡ event p e
  event_tabled p e h k = ap (λ (l : List Event). get_or l e no_event) (get_d-tab n _ [] p h) ∙ get_d-tab (m p) (event p) no_event e k

-- two events that agree in all four parts
pub event_alike : (x y : Event) → x.origin ≡ y.origin → x.number ≡ y.number → x.level ≡ y.level → x.stamp ≡ y.stamp → x ≡ y
event_alike x y a b c d =
    ap₂ {C = Event} (λ o k. record { origin = o; number = k; level = x.level; stamp = x.stamp }) a b
    ∙ ap₂ {C = Event} (λ l t. record { origin = y.origin; number = y.number; level = l; stamp = t }) c d

-- two recordings of n stations that agree in every start level, count and event
pub tabled_same : (n : ℕ) (start start' : ℕ → ℤ) (m m' : ℕ → ℕ) (event event' : ℕ → ℕ → Event) → ((p : ℕ) → p < n → start p ≡ start' p)
    → ((p : ℕ) → p < n → m p ≡ m' p) → ((p e : ℕ) → p < n → e < m' p → event p e ≡ event' p e) → tabled n start m event ≡ tabled n start' m' event'
tabled_same n start start' m m' event event' hs hm he =
    ap₂ {C = Recording} (λ x y. record { starts = x; events = y }) (tab_same n start start' hs)
    (tab_same n _ _ (λ p h. ap (λ (k : ℕ). tab k (event p)) (hm p h) ∙ tab_same (m' p) (event p) (event' p) (λ e k. he p e h k)))
