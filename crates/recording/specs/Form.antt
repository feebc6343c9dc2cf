-- The packed recording: document 01, "The packed recording", over the width w of a count and the number of bits that lead up to the stations' parts
-- (the last four of them are n). The form of document 01 has lead 4 and w 8.
-- In order: where each field begins; the fields of a list of bytes; the recording that they make; how long it has to be.
use Rattle.std.specs.Prelude.{List, ℕ, ◌+◌, ◌-◌, ◌*◌, ◌/◌, ℤ}
use Rattle.bits.specs.Bits.{field}
use Rattle.levels.specs.Level.{twos}
use Rattle.cuts.specs.Below.{sum_to, tab}
use Rattle.recording.specs.Recording.{Event, Recording}

-- whole bytes for a number of bits: "zero bits up to a whole byte"
unfoldable pub bytes_for : ℕ → ℕ
bytes_for bits = (bits + 7) / 8

-- n: the last four of the leading bits
unfoldable pub n_at : ℕ → List ℕ → ℕ
n_at lead s = field s (lead - 4) 4

module _ (lead w : ℕ) where
  -- the bit where the part of the station at place p begins, "m_p, start level": w and 12 bits
  unfoldable pub station_bit : ℕ → ℕ
  station_bit p = lead + (w + 12) * p

  -- the bits of a record, "origin, sender's number, level, n counts": 4, w, 12, w each
  unfoldable pub record_size : ℕ → ℕ
  record_size n = 4 + w + 12 + w * n

  -- the bit where record r (in file order, from 0) of a recording of n stations begins; with T for r, where it ends
  unfoldable pub record_bit : ℕ → ℕ → ℕ
  record_bit n r = station_bit n + record_size n * r

  module _ (s : List ℕ) where
    -- m_p
    unfoldable pub m_at : ℕ → ℕ
    m_at p = field s (station_bit p) w

    unfoldable pub start_at : ℕ → ℤ
    start_at p = twos 12 (field s (station_bit p + w) 12)

    -- the records before those of the station at place p; at n this is T
    unfoldable pub first_at : ℕ → ℕ
    first_at p = sum_to p m_at

    unfoldable pub origin_at : ℕ → ℕ → ℕ
    origin_at n r = field s (record_bit n r) 4

    unfoldable pub number_at : ℕ → ℕ → ℕ
    number_at n r = field s (record_bit n r + 4) w

    -- the level's 12 bits
    unfoldable pub level_at : ℕ → ℕ → ℕ
    level_at n r = field s (record_bit n r + 4 + w) 12

    -- count q of the stamp
    unfoldable pub count_at : ℕ → ℕ → ℕ → ℕ
    count_at n r q = field s (record_bit n r + 16 + w + w * q) w

    unfoldable pub event_of : ℕ → ℕ → Event
    event_of n r = record { origin = origin_at n r; number = number_at n r; level = twos 12 (level_at n r); stamp = tab n (count_at n r) }

    -- the recording that the bytes s make
    unfoldable pub recording_of : Recording
    recording_of = record { starts = tab (n_at lead s) start_at; events = tab (n_at lead s) (λ p. tab (m_at p) (λ e. event_of (n_at lead s) (first_at p + e))) }

    -- the bytes that it needs, and the bits that fill the last of them up
    unfoldable pub needed : ℕ
    needed = bytes_for (record_bit (n_at lead s) (first_at (n_at lead s)))

    unfoldable pub padding : ℕ
    padding = field s (record_bit (n_at lead s) (first_at (n_at lead s))) (8 * needed - record_bit (n_at lead s) (first_at (n_at lead s)))

-- document 01's form
abbrev pub lead8 : ℕ
lead8 = 4

abbrev pub width8 : ℕ
width8 = 8
