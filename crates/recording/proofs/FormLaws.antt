-- The recording that bytes make, read field by field: what its events say is what the fields hold. Assumes nothing.
use mathlib.Core.Path.{◌≡◌, ap, ◌∙◌}
use mathlib.Core.List.{List}
use Prim.Native.Nat.{ℕ, suc, ◌+◌, ◌<◌}
use lib.ListN.{length}
use lib.IntN.{pos}
use Rattle.levels.specs.Level.{twos}
use Rattle.cuts.specs.Below.{tab}
use Rattle.cuts.specs.Cut.{at}
use Rattle.cuts.proofs.BelowLaws.{get_d-tab}
use Rattle.recording.specs.Recording.{Event, Recording, counts_of, event_at, origin_of, number_of, stamps, levels}
use Rattle.recording.specs.Form.{n_at, m_at, start_at, first_at, origin_at, number_at, level_at, count_at, event_of, recording_of}
use Rattle.recording.proofs.TabledLaws.{counts_tabled, stations_tabled, count_tabled, event_tabled}

module _ (lead w : ℕ) (s : List ℕ) where
  abbrev R : Recording
  R = recording_of lead w s

  abbrev n : ℕ
  n = n_at lead s

  pub counts_read : counts_of R ≡ tab n (m_at lead w s)
  unfolding recording_of
  counts_read = counts_tabled n (start_at lead w s) (m_at lead w s) (λ p e. event_of lead w s n (first_at lead w s p + e))

  pub stations_read : length (counts_of R) ≡ n
  unfolding recording_of
  stations_read = stations_tabled n (start_at lead w s) (m_at lead w s) (λ p e. event_of lead w s n (first_at lead w s p + e))

  pub count_read : (p : ℕ) → p < n → at (counts_of R) p ≡ m_at lead w s p
  unfolding recording_of
  count_read = count_tabled n (start_at lead w s) (m_at lead w s) (λ p e. event_of lead w s n (first_at lead w s p + e))

  pub event_read : (p e : ℕ) → p < n → e < m_at lead w s p → event_at R p e ≡ event_of lead w s n (first_at lead w s p + e)
  unfolding recording_of
  event_read = event_tabled n (start_at lead w s) (m_at lead w s) (λ p e. event_of lead w s n (first_at lead w s p + e))

  module _ (p e : ℕ) (h : p < n) (k : e < m_at lead w s p) where
    pub origin_read : origin_of R p (suc e) ≡ origin_at lead w s n (first_at lead w s p + e)
    unfolding event_of
    origin_read = ap (λ (x : Event). x.origin) (event_read p e h k)

    pub number_read : number_of R p (suc e) ≡ number_at lead w s n (first_at lead w s p + e)
    unfolding event_of
    number_read = ap (λ (x : Event). x.number) (event_read p e h k)

    pub level_read : levels R p (suc e) ≡ twos 12 (level_at lead w s n (first_at lead w s p + e))
    unfolding event_of
    level_read = ap (λ (x : Event). x.level) (event_read p e h k)

    pub stamp_read : (q : ℕ) → q < n → stamps R p (suc e) q ≡ count_at lead w s n (first_at lead w s p + e) q
    unfolding event_of
    stamp_read q l = ap (λ (x : Event). at x.stamp q) (event_read p e h k) ∙ get_d-tab n _ 0 q l

  pub start_read : (p : ℕ) → p < n → levels R p 0 ≡ start_at lead w s p
  unfolding recording_of
  start_read p h = get_d-tab n _ (pos 0) p h
