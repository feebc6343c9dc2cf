-- What passed the writer's checks fits its fields: an origin is at most n, a sender's number at most that station's count, and no stamp counts more events
-- of a station than it has, by the mathematics of stamps; counts are bytes. In order: what has to fit; what a sound record says. Assumes nothing.
use mathlib.Core.Path.{◌≡◌, refl, ap}
use mathlib.Core.Bool.{true}
use Prim.Native.Nat.{ℕ, zero, suc, ◌+◌, ◌*◌, ◌^◌, ◌≤◌, ◌<◌}
use native.Mathlib.Omega.{arith}
use lib.IntN.{pos}
use lib.ListN.{length, get_or}
use lib.Pow.{pow_mono}
use Rattle.levels.specs.Level.{is_level}
use Rattle.cuts.specs.Cut.{at}
use Rattle.cuts.specs.Trace.{Messages, Stamps}
use Rattle.cuts.proofs.StampRight.{seen_all}
use Rattle.recording.specs.Recording.{Event, Recording, counts_of, messages, stamps, levels}
use Rattle.recording.specs.Check.{record_tests, scan_records}
use Rattle.writer.specs.Write.{Given, first_given, recording_given}
use Rattle.std.specs.Prelude.{Ok}
use Rattle.recording.proofs.CheckRight.{Names, Sound, writer_scan, sound_scan, scan_formed, scan_stamped}
use Rattle.writer.proofs.GivenLaws.{stations_given, count_given, event_given, stamp_given}
use Rattle.writer.proofs.CheckedGiven.{Accepts}

-- every value fits its field, the record of event e + 1 of p being number first_given p + e
pub record Fitting (w : ℕ) (g : Given) : Type 0 where
  pub most : g.n ≤ 8
  pub counts : (p : ℕ) → p < g.n → at g.counts p < 2 ^ w
  pub starts : (p : ℕ) → p < g.n → is_level (get_or g.starts p (pos 0)) ≡ true
  pub origins : (p e : ℕ) → p < g.n → e < at g.counts p → at g.origins (first_given g p + e) < 16
  pub numbers : (p e : ℕ) → p < g.n → e < at g.counts p → at g.numbers (first_given g p + e) < 2 ^ w
  pub levels : (p e : ℕ) → p < g.n → e < at g.counts p → is_level (get_or g.levels (first_given g p + e) (pos 0)) ≡ true
  pub stamps : (p e : ℕ) → p < g.n → e < at g.counts p → (q : ℕ) → q < g.n → at g.stamps ((first_given g p + e) * g.n + q) < 2 ^ w

module _ (lead w : ℕ) (g : Given) (room : ℕ) (wide : 8 ≤ w) (bytes : (p : ℕ) → at g.counts p < 256) (a : Accepts lead w g room) where
  abbrev R : Recording
  R = recording_given g

  abbrev T : Messages
  T = messages R

  abbrev S : Stamps
  S = stamps R

  byte_fits : (x : ℕ) → x < 256 → x < 2 ^ w
  byte_fits x h = omega (arith, pow_mono wide)

  sound : (p e : ℕ) → p < length (counts_of R) → e < at (counts_of R) p → Sound T S p e × (is_level (levels R p (suc e)) ≡ true)
  sound = writer_scan T S (λ p e. is_level (levels R p (suc e))) a.records

  all_sound : scan_records T (record_tests T S) ≡ Ok tt
  all_sound = sound_scan T S (λ p e hp he. (sound p e hp he).0)

  module _ (p e : ℕ) (hp : p < g.n) (he : e < at g.counts p) where
    here : Sound T S p e × (is_level (levels R p (suc e)) ≡ true)
    here = sound p e (rw (stations_given g) hp) (rw (count_given g p hp) he)

    origin_fits : at g.origins (first_given g p + e) < 16
    origin_fits = rw (← ap (λ (x : Event). x.origin) (event_given g p e hp he)) (go _ here.0.names)
      where
        go : (o : ℕ) → Names T p o (T.number p (suc e)) → o < 16
        go zero h = omega arith
        go (suc s) h = omega (arith, (h.sender s refl).1.0, stations_given g, a.whole.most)

    number_fits : at g.numbers (first_given g p + e) < 2 ^ w
    number_fits = rw (← ap (λ (x : Event). x.number) (event_given g p e hp he)) (byte_fits _ (go (T.origin p (suc e)) _ here.0.names))
      where
        go : (o k : ℕ) → Names T p o k → k < 256
        go zero k h = omega (arith, h.local refl)
        go (suc s) k h =
            let (_, (hs, _, most)) = h.sender s refl in
            omega (arith, most, count_given g s (rw (stations_given g) at hs), bytes s)

    level_fits : is_level (get_or g.levels (first_given g p + e) (pos 0)) ≡ true
    level_fits = rw (← ap (λ (x : Event). x.level) (event_given g p e hp he)) here.1

    stamp_fits : (q : ℕ) → q < g.n → at g.stamps ((first_given g p + e) * g.n + q) < 2 ^ w
    stamp_fits q hq =
        let seen = seen_all T S (scan_formed T S all_sound) (scan_stamped T S (λ p q. refl) all_sound) in
        let most : S p (suc e) q ≤ at (counts_of R) q = seen.below p (suc e) q (rw (stations_given g) hp) (rw (count_given g p hp) he) (rw (stations_given g) hq) in
        rw (← stamp_given g p e q hp he hq) (byte_fits _ (omega (arith, most, count_given g q hq, bytes q)))

  pub accepts_fitting : Fitting w g
  accepts_fitting = record {
    most = a.whole.most;
    counts = λ p h. byte_fits _ (bytes p);
    starts = a.whole.starts;
    origins = origin_fits;
    numbers = number_fits;
    levels = level_fits;
    stamps = stamp_fits;
  }
