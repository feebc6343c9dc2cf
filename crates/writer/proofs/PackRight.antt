-- What the writer puts packs the recording that was handed in (`packs_given`): each field lies beside all that is put after it, so it reads back; the
-- values fit their fields because the checks passed; behind the last whole byte the room is as it was. In order: one part after the other; each field
-- read back; the recording; what was accepted. Assumes nothing.
use mathlib.Core.Path.{◌≡◌, refl, sym, ap, ◌∙◌}
use mathlib.Core.Logic.{inl, inr}
use mathlib.Core.List.{List, ◌++◌}
use Prim.Native.Nat.{ℕ, suc, ◌+◌, ◌-◌, ◌*◌, ◌≤◌, ◌<◌}
use native.Mathlib.Nat.{le_refl, mul-le-mul_left}
use native.Mathlib.Omega.{arith}
use lib.IntN.{pos}
use lib.ListN.{length, get_or, take, drop, take-append-drop}
use lib.Seq.{length-take-le}
use Rattle.bits.specs.Bits.{field}
use Rattle.put.specs.Put.{put_of}
use Rattle.bits.proofs.BitsLaws.{field_take}
use Rattle.levels.specs.Level.{twos}
use Rattle.cuts.specs.Cut.{at}
use Rattle.cuts.proofs.BelowLaws.{sum_to-same, tab_same}
use Rattle.recording.specs.Form.{bytes_for, station_bit, record_size, record_bit, n_at, m_at, start_at, first_at, origin_at, number_at, level_at, count_at, event_of, recording_of, needed, padding}
use Rattle.writer.specs.Write.{Given, first_given, given, recording_given, needed_given, checked_given, Packs}
use Rattle.writer.specs.Tables.{level_put}
use Rattle.writer.specs.Pack.{turns, put_pair, put_record, station_turn, record_turn, ended, stationed, pack_into}
use Rattle.std.specs.Prelude.{Ok}
use Rattle.writer.proofs.CheckedGiven.{accepts}
use Rattle.writer.proofs.FittingRight.{Fitting, accepts_fitting}
use Rattle.writer.proofs.GivenLaws.{first_part}
use Rattle.recording.proofs.TabledLaws.{event_alike, tabled_same}
use Rattle.writer.proofs.PackLaws.{Kept, kept_then, kept_put, kept_turns, turns_field, kept_station, kept_record, kept_padding, put_field, station_count, station_start, record_origin, record_number, record_level, record_count, padding_field, take_bytes}

module _ (lead w : ℕ) (g : Given) (room : List ℕ) where
  abbrev n : ℕ
  n = g.n

  abbrev T : ℕ
  T = first_given g g.n

  abbrev end : ℕ
  end = record_bit lead w n T

  abbrev turn_station : ℕ → List ℕ → List ℕ
  turn_station = station_turn lead w g

  abbrev turn_record : ℕ → List ℕ → List ℕ
  turn_record = record_turn lead w g

  first_station : station_bit lead w 0 ≡ lead
  unfolding station_bit
  first_station = omega arith

  station_up : (p : ℕ) → station_bit lead w p ≤ station_bit lead w (suc p)
  unfolding station_bit
  station_up p = omega arith

  station_kept : (p : ℕ) (s : List ℕ) → Kept s (turn_station p s) (station_bit lead w p) (station_bit lead w (suc p))
  unfolding station_bit station_turn
  station_kept p s =
      let e : lead + (w + 12) * p + w + 12 ≡ lead + (w + 12) * suc p = omega arith in
      rw (← e) (kept_station w _ _ _ s)

  first_record : record_bit lead w n 0 ≡ station_bit lead w n
  unfolding record_bit
  first_record = omega arith

  record_up : (r : ℕ) → record_bit lead w n r ≤ record_bit lead w n (suc r)
  unfolding record_bit
  record_up r = omega arith

  record_kept : (r : ℕ) (s : List ℕ) → Kept s (turn_record r s) (record_bit lead w n r) (record_bit lead w n (suc r))
  unfolding record_bit record_size record_turn
  record_kept r s =
      let e : station_bit lead w n + (4 + w + 12 + w * n) * r + 16 + w + w * n ≡ station_bit lead w n + (4 + w + 12 + w * n) * suc r = omega arith in
      rw (← e) (kept_record w _ _ _ _ _ n s)

  -- the parts' places, one after the other
  lead_station : lead ≤ station_bit lead w n
  unfolding station_bit
  lead_station = omega arith

  station_end : station_bit lead w n ≤ end
  unfolding record_bit
  station_end = omega arith

  end_needed : end ≤ 8 * needed_given lead w g
  unfolding needed_given bytes_for
  end_needed = omega arith

  station_needed : station_bit lead w n ≤ 8 * needed_given lead w g
  station_needed = omega (arith, station_end, end_needed)

  lead_needed : lead ≤ 8 * needed_given lead w g
  lead_needed = omega (arith, lead_station, station_needed)

  abbrev named : List ℕ
  named = put_of room (lead - 4) 4 n

  kept_padded : Kept named (ended lead w g room) end (8 * needed_given lead w g)
  unfolding ended needed_given
  kept_padded = kept_padding end named

  kept_stationed : Kept (ended lead w g room) (stationed lead w g room) lead (station_bit lead w n)
  unfolding stationed
  kept_stationed = rw first_station at (kept_turns turn_station (station_bit lead w) station_up station_kept (ended lead w g room) n)

  kept_recorded : Kept (stationed lead w g room) (pack_into lead w g room) (station_bit lead w n) end
  unfolding pack_into
  kept_recorded = rw first_record at (kept_turns turn_record (record_bit lead w n) record_up record_kept (stationed lead w g room) T)

  -- what is put after the ends lies between them
  after_ended : Kept (ended lead w g room) (pack_into lead w g room) lead end
  after_ended = kept_then _ _ kept_stationed kept_recorded (le_refl _, station_end) (lead_station, le_refl _)

  after_named : Kept named (pack_into lead w g room) lead (8 * needed_given lead w g)
  after_named = kept_then _ _ kept_padded after_ended (omega (arith, lead_station, station_end), le_refl _) (le_refl _, end_needed)

  module _ (leads : 4 ≤ lead) where
    kept_named : Kept room named (lead - 4) lead
    kept_named =
        let e : lead - 4 + 4 ≡ lead = omega arith in
        rw e at (kept_put room (lead - 4) 4 n)

    pub kept_packed : Kept room (pack_into lead w g room) (lead - 4) (8 * needed_given lead w g)
    kept_packed = kept_then _ _ kept_named after_named (le_refl _, lead_needed) (omega arith, le_refl _)

    long_ended : length (ended lead w g room) ≡ length room
    long_ended = kept_padded.long ∙ kept_named.long

    module _ (w₁ : 1 ≤ w) (w₂ : w ≤ 16) (fit : Fitting w g) (enough : needed_given lead w g ≤ length room) where
      abbrev t : List ℕ
      t = pack_into lead w g room

      -- n
      n_back : field t (lead - 4) 4 ≡ n
      n_back = after_named.beside (lead - 4) 4 (inl (omega arith)) ∙ put_field room (lead - 4) 4 n (omega arith) (omega arith) (omega (arith, lead_needed)) (omega (arith, fit.most))

      -- the part of the station at place p
      module _ (p : ℕ) (hp : p < n) where
        abbrev s₁ : List ℕ
        s₁ = turns turn_station (ended lead w g room) p

        abbrev i₁ : ℕ
        i₁ = station_bit lead w p

        next_station : i₁ + w + 12 ≡ station_bit lead w (suc p)
        unfolding station_bit
        next_station = omega arith

        within_stations : station_bit lead w (suc p) ≤ station_bit lead w n
        unfolding station_bit
        within_stations = omega (arith, mul-le-mul_left (w + 12) hp)

        station_room : i₁ + w + 12 ≤ 8 * length s₁
        station_room = rw ((kept_turns turn_station (station_bit lead w) station_up station_kept (ended lead w g room) p).long, long_ended) (omega (arith, next_station, within_stations, station_needed))

        station_back : (j k : ℕ) → j + k ≤ i₁ + w + 12 → field t j k ≡ field (put_pair w i₁ (at g.counts p) (level_put (get_or g.starts p (pos 0))) s₁) j k
        unfolding stationed station_turn
        station_back j k h =
            kept_recorded.beside j k (inl (omega (arith, next_station, within_stations)))
            ∙ turns_field turn_station (station_bit lead w) station_up station_kept (ended lead w g room) n p j k hp (omega (arith, next_station))

        m_back : field t i₁ w ≡ at g.counts p
        m_back = station_back i₁ w (omega arith) ∙ station_count _ _ _ _ _ station_room w₁ w₂ (fit.counts p hp)

        start_back : twos 12 (field t (i₁ + w) 12) ≡ get_or g.starts p (pos 0)
        start_back = ap (twos 12) (station_back (i₁ + w) 12 (omega arith)) ∙ station_start _ _ _ _ _ station_room _ refl (fit.starts p hp)

      -- the record of event e + 1 of the station at place p
      module _ (p e : ℕ) (hp : p < n) (he : e < at g.counts p) where
        abbrev r : ℕ
        r = first_given g p + e

        abbrev s₂ : List ℕ
        s₂ = turns turn_record (stationed lead w g room) r

        abbrev i₂ : ℕ
        i₂ = record_bit lead w n r

        abbrev put : List ℕ
        put = put_record w i₂ (at g.origins r) (at g.numbers r) (level_put (get_or g.levels r (pos 0))) (λ q. at g.stamps (r * n + q)) n s₂

        r_within : r < T
        r_within = omega (arith, first_part g p (suc e) hp he)

        next_record : i₂ + 16 + w + w * n ≡ record_bit lead w n (suc r)
        unfolding record_bit record_size
        next_record = omega arith

        within_records : record_bit lead w n (suc r) ≤ end
        unfolding record_bit
        within_records = omega (arith, mul-le-mul_left (record_size lead w n) r_within)

        record_room : i₂ + 16 + w + w * n ≤ 8 * length s₂
        record_room =
            rw ((kept_turns turn_record (record_bit lead w n) record_up record_kept (stationed lead w g room) r).long, kept_stationed.long, long_ended)
            (omega (arith, next_record, within_records, end_needed))

        record_back : (j k : ℕ) → j + k ≤ i₂ + 16 + w + w * n → field t j k ≡ field put j k
        unfolding pack_into record_turn
        record_back j k h =
            turns_field turn_record (record_bit lead w n) record_up record_kept (stationed lead w g room) T r j k r_within (omega (arith, next_record))

        origin_back : field t i₂ 4 ≡ at g.origins r
        origin_back = record_back i₂ 4 (omega arith) ∙ record_origin _ _ _ _ _ _ _ _ record_room (fit.origins p e hp he)

        number_back : field t (i₂ + 4) w ≡ at g.numbers r
        number_back = record_back (i₂ + 4) w (omega arith) ∙ record_number _ _ _ _ _ _ _ _ record_room w₁ w₂ (fit.numbers p e hp he)

        level_back : twos 12 (field t (i₂ + 4 + w) 12) ≡ get_or g.levels r (pos 0)
        level_back = ap (twos 12) (record_back (i₂ + 4 + w) 12 (omega arith)) ∙ record_level _ _ _ _ _ _ _ _ record_room _ refl (fit.levels p e hp he)

        count_back : (q : ℕ) → q < n → field t (i₂ + 16 + w + w * q) w ≡ at g.stamps (r * n + q)
        count_back q hq =
            record_back (i₂ + 16 + w + w * q) w (omega (arith, mul-le-mul_left w hq))
            ∙ record_count _ _ _ _ _ _ _ _ record_room w₁ w₂ q hq (fit.stamps p e hp he q hq)

      -- zero bits
      padding_back : field t end (8 * needed_given lead w g - end) ≡ 0
      unfolding ended needed_given
      padding_back = after_ended.beside end _ (inr (le_refl end)) ∙ padding_field end named (rw kept_named.long (omega (arith, enough)))

      -- the bytes that are filled, and the fields of these
      abbrev b : ℕ
      b = needed_given lead w g

      abbrev s : List ℕ
      s = take b t

      long : length s ≡ b
      long = length-take-le b t (rw kept_packed.long enough)

      front : (j k : ℕ) → j + k ≤ 8 * b → field s j k ≡ field t j k
      front j k h = field_take t b j k h

      n_read : n_at lead s ≡ n
      unfolding n_at
      n_read = front (lead - 4) 4 (omega (arith, lead_needed)) ∙ n_back

      m_read : (p : ℕ) → p < n → m_at lead w s p ≡ at g.counts p
      unfolding m_at
      m_read p h = front _ w (omega (arith, next_station p h, within_stations p h, station_needed)) ∙ m_back p h

      start_read : (p : ℕ) → p < n → start_at lead w s p ≡ get_or g.starts p (pos 0)
      unfolding start_at
      start_read p h = ap (twos 12) (front _ 12 (omega (arith, next_station p h, within_stations p h, station_needed))) ∙ start_back p h

      first_read : (p : ℕ) → p ≤ n → first_at lead w s p ≡ first_given g p
      unfolding first_at first_given
      first_read p h = sum_to-same p _ _ (λ q l. m_read q (omega arith))

      event_read : (p e : ℕ) → p < n → e < at g.counts p → event_of lead w s n (first_given g p + e) ≡ given g (first_given g p + e)
      unfolding event_of origin_at number_at level_at count_at
      event_read p e h k =
          let z : record_bit lead w n (first_given g p + e) + 16 + w + w * n ≤ 8 * b = omega (arith, next_record p e h k, within_records p e h k, end_needed) in
          event_alike _ _
          (front _ 4 (omega arith) ∙ origin_back p e h k)
          (front _ w (omega arith) ∙ number_back p e h k)
          (ap (twos 12) (front _ 12 (omega arith)) ∙ level_back p e h k)
          (tab_same n _ _ (λ q l. front _ w (omega (arith, mul-le-mul_left w l)) ∙ count_back p e h k q l))

      recording_read : recording_of lead w s ≡ recording_given g
      unfolding recording_of recording_given
      recording_read = rw n_read (tabled_same n _ _ _ _ _ _ start_read m_read (λ p e h k. ap (λ (i : ℕ). event_of lead w s n (i + e)) (first_read p (omega arith)) ∙ event_read p e h k))

      end_read : record_bit lead w (n_at lead s) (first_at lead w s (n_at lead s)) ≡ end
      end_read = ap (λ (i : ℕ). record_bit lead w i (first_at lead w s i)) n_read ∙ ap (record_bit lead w n) (first_read n (le_refl n))

      needed_read : needed lead w s ≡ b
      unfolding needed needed_given
      needed_read = ap bytes_for end_read

      -- what was put packs the recording, and the rest of the room is as it was
      packs_fitting : ((i : ℕ) → get_or room i 0 < 256) → Packs lead w (recording_given g) s
      unfolding padding
      packs_fitting bytes = record {
        bytes = take_bytes b t (kept_packed.bytes bytes);
        fields = recording_read;
        just_needed = long ∙ sym needed_read;
        padded = rw (end_read, needed_read) (front end (8 * b - end) (omega (arith, end_needed)) ∙ padding_back);
      }

      rest_kept : t ≡ s ++ drop (length s) room
      rest_kept = rw long (sym (take-append-drop b t) ∙ ap (λ (l : List ℕ). s ++ l) (kept_packed.behind b (le_refl (8 * b))))

-- the first bytes that are needed
pub record Packed (lead w : ℕ) (g : Given) (room after : List ℕ) : Type 0 where
  pub front : List ℕ
  pub packs : Packs lead w (recording_given g) front
  pub just : length front ≡ needed_given lead w g
  pub rest : after ≡ front ++ drop (length front) room

module _ (lead w : ℕ) (g : Given) (room : List ℕ) (leads : 4 ≤ lead) (wide : 8 ≤ w) (high : w ≤ 16)
    (bytes : (i : ℕ) → at g.counts i < 256) (room-bytes : (i : ℕ) → get_or room i 0 < 256) where
  pub packs_given : checked_given lead w g (length room) ≡ Ok tt → Packed lead w g room (pack_into lead w g room)
  packs_given h =
      let a = accepts lead w g (length room) h in
      let fit = accepts_fitting lead w g (length room) wide bytes a in
      record {
        front = take (needed_given lead w g) (pack_into lead w g room);
        packs = packs_fitting lead w g room leads (omega arith) high fit a.fits room-bytes;
        just = long lead w g room leads (omega arith) high fit a.fits;
        rest = rest_kept lead w g room leads (omega arith) high fit a.fits;
      }
