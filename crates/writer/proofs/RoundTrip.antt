-- A recording has one packing (`packs_unique`): its fields follow each other with no gaps, so lists of bytes that agree in every field and in the padding
-- agree in every bit. Hence read and written again gives the same bytes. In order: where a record stands; fields of two lists that make one recording;
-- the lists from their beginning on. Assumes nothing.
use mathlib.Core.Path.{◌≡◌, refl, sym, ap, ap₂, ◌∙◌}
use mathlib.Core.List.{List}
use Prim.Native.Nat.{ℕ, zero, suc, ◌+◌, ◌-◌, ◌*◌, ◌^◌, ◌≤◌, ◌<◌}
use native.Mathlib.Nat.{not-suc-le-zero}
use native.Mathlib.Decide.{dec_lt}
use native.Mathlib.Omega.{arith}
use lib.ListN.{length}
use Rattle.bits.specs.Bits.{field}
use Rattle.bits.proofs.BitsLaws.{field_lt, field_join, bytes_ext}
use Rattle.levels.specs.Level.{twos, bits_of}
use Rattle.levels.proofs.LevelLaws.{bits_of-twos}
use Rattle.cuts.specs.Below.{sum_to}
use Rattle.cuts.specs.Cut.{at}
use Rattle.cuts.proofs.BelowLaws.{sum_to-same, get_d-tab}
use Rattle.recording.specs.Recording.{Event, Recording, counts_of, event_at, levels}
use Rattle.recording.specs.Form.{bytes_for, station_bit, record_size, record_bit, n_at, m_at, start_at, first_at, origin_at, number_at, level_at, count_at, event_of, recording_of, needed, padding}
use Rattle.writer.specs.Write.{Packs}
use Rattle.recording.proofs.FormLaws.{stations_read, count_read, event_read, start_read}

-- a record before those of station n is one of a station before it
pub record_of : (m : ℕ → ℕ) (n r : ℕ) → r < sum_to n m → (p e : ℕ) × (p < n) × (e < m p) × (r ≡ sum_to p m + e)
unfolding sum_to
record_of m zero r h = absurd (not-suc-le-zero h)
record_of m (suc n) r h = go (dec_lt r (sum_to n m)) (record_of m n r)
  where
    go : Dec (r < sum_to n m) → (r < sum_to n m → (p e : ℕ) × (p < n) × (e < m p) × (r ≡ sum_to p m + e)) → (p e : ℕ) × (p < suc n) × (e < m p) × (r ≡ sum_to p m + e)
    go (yes l) ih = let (p, e, a, b, c) = ih l in (p, e, omega arith, b, c)
    go (no l) ih = (n, r - sum_to n m, omega arith, omega arith, omega arith)

-- two numbers of 12 bits that stand for one level are equal
twos_same : (x y : ℕ) → x < 2 ^ 12 → y < 2 ^ 12 → twos 12 x ≡ twos 12 y → x ≡ y
twos_same x y h k e = sym (bits_of-twos 12 x h (omega arith)) ∙ ap (bits_of 12) e ∙ bits_of-twos 12 y k (omega arith)

module _ (lead w : ℕ) (s t : List ℕ) (same : recording_of lead w s ≡ recording_of lead w t) where
  abbrev n : ℕ
  n = n_at lead s

  n_same : n ≡ n_at lead t
  n_same = sym (stations_read lead w s) ∙ ap (λ (R : Recording). length (counts_of R)) same ∙ stations_read lead w t

  m_same : (p : ℕ) → p < n → m_at lead w s p ≡ m_at lead w t p
  m_same p h = sym (count_read lead w s p h) ∙ ap (λ (R : Recording). at (counts_of R) p) same ∙ count_read lead w t p (rw n_same at h)

  start_same : (p : ℕ) → p < n → field s (station_bit lead w p + w) 12 ≡ field t (station_bit lead w p + w) 12
  unfolding start_at
  start_same p h = twos_same _ _ (field_lt s _ 12) (field_lt t _ 12) (sym (start_read lead w s p h) ∙ ap (λ (R : Recording). levels R p 0) same ∙ start_read lead w t p (rw n_same at h))

  first_same : (p : ℕ) → p ≤ n → first_at lead w s p ≡ first_at lead w t p
  unfolding first_at
  first_same p h = sum_to-same p _ _ (λ q l. m_same q (omega arith))

  event_same : (p e : ℕ) → p < n → e < m_at lead w s p → event_of lead w s n (first_at lead w s p + e) ≡ event_of lead w t n (first_at lead w s p + e)
  event_same p e h k =
      sym (event_read lead w s p e h k) ∙ ap (λ (R : Recording). event_at R p e) same ∙ event_read lead w t p e (rw n_same at h) (rw (m_same p h) at k)
      ∙ ap₂ (λ (i r : ℕ). event_of lead w t i (r + e)) (sym n_same) (sym (first_same p (omega arith)))

  record_same : (r : ℕ) → r < first_at lead w s n → event_of lead w s n r ≡ event_of lead w t n r
  unfolding first_at
  record_same r h = let (p, e, a, b, c) = record_of (m_at lead w s) n r h in rw c (event_same p e a b)

  module _ (r : ℕ) (h : r < first_at lead w s n) where
    origin_same : field s (record_bit lead w n r) 4 ≡ field t (record_bit lead w n r) 4
    unfolding event_of origin_at
    origin_same = ap (λ (x : Event). x.origin) (record_same r h)

    number_same : field s (record_bit lead w n r + 4) w ≡ field t (record_bit lead w n r + 4) w
    unfolding event_of number_at
    number_same = ap (λ (x : Event). x.number) (record_same r h)

    level_same : field s (record_bit lead w n r + 4 + w) 12 ≡ field t (record_bit lead w n r + 4 + w) 12
    unfolding event_of level_at
    level_same = twos_same _ _ (field_lt s _ 12) (field_lt t _ 12) (ap (λ (x : Event). x.level) (record_same r h))

    count_same : (q : ℕ) → q < n → field s (record_bit lead w n r + 16 + w + w * q) w ≡ field t (record_bit lead w n r + 16 + w + w * q) w
    unfolding event_of count_at
    count_same q l = sym (get_d-tab n (count_at lead w s n r) 0 q l) ∙ ap (λ (x : Event). at x.stamp q) (record_same r h) ∙ get_d-tab n (count_at lead w t n r) 0 q l

  -- the first b bits are the same
  abbrev Alike : ℕ → Type 0
  Alike b = field s 0 b ≡ field t 0 b

  alike_more : (b k c : ℕ) → c ≡ b + k → Alike b → field s b k ≡ field t b k → Alike c
  alike_more b k c e h g =
      let z : 0 + b ≡ b = omega arith in
      rw e (field_join s t 0 b k h (rw z g))

  module _ (leads : 4 ≤ lead) (before : Alike (lead - 4)) where
    alike_lead : Alike lead
    unfolding n_at
    alike_lead = alike_more (lead - 4) 4 lead (omega arith) before n_same

    alike_stations : (p : ℕ) → p ≤ n → Alike (station_bit lead w p)
    unfolding station_bit m_at
    alike_stations zero h =
        let e : lead + (w + 12) * 0 ≡ lead = omega arith in
        rw e alike_lead
    alike_stations (suc p) h =
        alike_more (lead + (w + 12) * p + w) 12 _ (omega arith) (alike_more (lead + (w + 12) * p) w _ (omega arith) (alike_stations p (omega arith)) (m_same p h)) (start_same p h)

    -- the records from there on: r of them, and the first q counts of the next
    alike_counts : (b r q : ℕ) → r < first_at lead w s n → q ≤ n → b ≡ record_bit lead w n r → Alike b → Alike (b + 16 + w + w * q)
    alike_counts b r zero hr hq e a =
        alike_more (b + 4 + w) 12 _ (omega arith)
        (alike_more (b + 4) w _ (omega arith) (alike_more b 4 _ (omega arith) a (rw e (origin_same r hr))) (rw e (number_same r hr)))
        (rw e (level_same r hr))
    alike_counts b r (suc q) hr hq e a = alike_more (b + 16 + w + w * q) w _ (omega arith) (alike_counts b r q hr (omega arith) e a) (rw e (count_same r hr q hq))

    alike_records : (r : ℕ) → r ≤ first_at lead w s n → Alike (record_bit lead w n r)
    unfolding record_bit record_size
    alike_records zero h =
        let e : station_bit lead w n + (4 + w + 12 + w * n) * 0 ≡ station_bit lead w n = omega arith in
        rw e (alike_stations n (omega arith))
    alike_records (suc r) h =
        let e : station_bit lead w n + (4 + w + 12 + w * n) * suc r ≡ station_bit lead w n + (4 + w + 12 + w * n) * r + 16 + w + w * n = omega arith in
        rw e (alike_counts _ r n h (omega arith) refl (alike_records r (omega arith)))

    needed_same : needed lead w s ≡ needed lead w t
    unfolding needed
    needed_same = ap bytes_for (ap₂ (record_bit lead w) n_same (first_same n (omega arith) ∙ ap (first_at lead w t) n_same))

    alike_whole : padding lead w s ≡ padding lead w t → Alike (8 * needed lead w s)
    unfolding padding needed bytes_for
    alike_whole h = alike_more b (8 * bytes_for b - b) _ (omega arith) (alike_records (first_at lead w s n) (omega arith)) (h ∙ rw (← ends) refl)
      where
        b : ℕ
        b = record_bit lead w n (first_at lead w s n)

        ends : b ≡ record_bit lead w (n_at lead t) (first_at lead w t (n_at lead t))
        ends = ap₂ (record_bit lead w) n_same (first_same n (omega arith) ∙ ap (first_at lead w t) n_same)

-- a recording has one packing, given the bits that come before n
pub packs_unique : (lead w : ℕ) (R : Recording) (s t : List ℕ) → 4 ≤ lead → field s 0 (lead - 4) ≡ field t 0 (lead - 4) → Packs lead w R s → Packs lead w R t → s ≡ t
packs_unique lead w R s t leads before a b =
    bytes_ext s t a.bytes b.bytes (a.just_needed ∙ needed_same lead w s t same leads before ∙ sym b.just_needed)
    (rw a.just_needed (alike_whole lead w s t same leads before (a.padded ∙ sym b.padded)))
  where
    same : recording_of lead w s ≡ recording_of lead w t
    same = a.fields ∙ sym b.fields

-- in a form that begins with n there is no such bit
pub packs_same : (w : ℕ) (R : Recording) (s t : List ℕ) → Packs 4 w R s → Packs 4 w R t → s ≡ t
unfolding field
packs_same w R s t = packs_unique 4 w R s t (omega arith) refl
