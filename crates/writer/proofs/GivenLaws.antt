-- What was handed to the writer, read as a recording: what its events say is what the lists hold. In order: the recording's counts and
-- events; the lists' lengths. Assumes nothing.
use mathlib.Core.Path.{◌≡◌, ap, ◌∙◌}
use mathlib.Core.Bool.{Bool, true, ◌&&◌}
use Prim.Native.Nat.{ℕ, suc, ◌+◌, ◌*◌, ◌≤◌, ◌<◌}
use native.Mathlib.Omega.{arith}
use lib.IntN.{pos}
use lib.ListN.{length, get_or}
use lib.Dec.{leb}
use borrow.Author.Tests.{leb-true}
use Rattle.cuts.specs.Cut.{at}
use Rattle.cuts.proofs.BelowLaws.{and_true, get_d-tab}
use Rattle.recording.specs.Recording.{Event, Recording, counts_of, event_at, stamps}
use Rattle.writer.specs.Write.{Given, first_given, given, recording_given, long_enough, not_longer}
use Rattle.recording.proofs.SumLaws.{sum_to-part}
use Rattle.recording.proofs.TabledLaws.{stations_tabled, count_tabled, event_tabled}

-- of six tests that pass the second does, and the third
second : (a b c d e f : Bool) → (a && b && c && d && e && f) ≡ true → b ≡ true
second a b c d e f h = (and_true a b (and_true (a && b) c (and_true (a && b && c) d (and_true (a && b && c && d) e (and_true (a && b && c && d && e) f h).0).0).0).0).1

third : (a b c d e f : Bool) → (a && b && c && d && e && f) ≡ true → c ≡ true
third a b c d e f h = (and_true (a && b) c (and_true (a && b && c) d (and_true (a && b && c && d) e (and_true (a && b && c && d && e) f h).0).0).0).1

module _ (g : Given) where
  abbrev R : Recording
  R = recording_given g

  abbrev n : ℕ
  n = g.n

  abbrev m : ℕ → ℕ
  m = at g.counts

  pub stations_given : length (counts_of R) ≡ n
  unfolding recording_given
  stations_given = stations_tabled n (λ p. get_or g.starts p (pos 0)) m (λ p e. given g (first_given g p + e))

  pub count_given : (p : ℕ) → p < n → at (counts_of R) p ≡ m p
  unfolding recording_given
  count_given = count_tabled n (λ p. get_or g.starts p (pos 0)) m (λ p e. given g (first_given g p + e))

  pub event_given : (p e : ℕ) → p < n → e < m p → event_at R p e ≡ given g (first_given g p + e)
  unfolding recording_given
  event_given = event_tabled n (λ p. get_or g.starts p (pos 0)) m (λ p e. given g (first_given g p + e))

  pub stamp_given : (p e q : ℕ) → p < n → e < m p → q < n → stamps R p (suc e) q ≡ at g.stamps ((first_given g p + e) * n + q)
  stamp_given p e q h k l = ap (λ (x : Event). at x.stamp q) (event_given p e h k) ∙ get_d-tab n _ 0 q l

  -- the records of a station stand before those of the stations after it
  pub first_part : (p e : ℕ) → p < n → e ≤ m p → first_given g p + e ≤ first_given g n
  unfolding first_given
  first_part p e h l = sum_to-part m n p e h l

  -- lists neither too short nor too long have a record's part of each record
  pub records_just : long_enough g ≡ true → not_longer g ≡ true → length g.origins ≡ first_given g n
  unfolding long_enough not_longer
  records_just a b =
      let t = first_given g n in
      let x = third (leb n (length g.counts)) (leb n (length g.starts)) (leb t (length g.origins)) (leb t (length g.numbers)) (leb t (length g.levels)) _ a in
      let y = third (leb (length g.counts) n) (leb (length g.starts) n) (leb (length g.origins) t) (leb (length g.numbers) t) (leb (length g.levels) t) _ b in
      omega (arith, leb-true t (length g.origins) x, leb-true (length g.origins) t y)

  pub starts_just : long_enough g ≡ true → not_longer g ≡ true → n ≡ length g.starts
  unfolding long_enough not_longer
  starts_just a b =
      let x = second (leb n (length g.counts)) (leb n (length g.starts)) _ _ _ _ a in
      let y = second (leb (length g.counts) n) (leb (length g.starts) n) _ _ _ _ b in
      omega (arith, leb-true n (length g.starts) x, leb-true (length g.starts) n y)
