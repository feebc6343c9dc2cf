-- What the writer's code puts into its room, field by field. Nothing here has to be believed: `PackRight` proves that the bytes pack the recording that
-- was handed in. In order: values of the code; turns of a loop; zero bits; a count, a station's part and
-- a record; the whole.
use Rattle.std.specs.Prelude.{List, ℕ, zero, suc, ◌+◌, ◌-◌, ◌*◌, pos, get_or}
use Rattle.put.specs.Put.{put_of}
use Rattle.cuts.specs.Cut.{at}
use Rattle.recording.specs.Form.{bytes_for, station_bit, record_bit}
use Rattle.writer.specs.Write.{Given, handed, first_given}
use Rattle.recording.specs.declared.form.Form.{Form}
use Rattle.writer.specs.declared.Given.{Given as Handed}
use Rattle.writer.specs.Tables.{level_put}

-- what a definition over lead, w and what was handed in says of the code's values of these
abbrev pub over : {A : Type 0} → Form → Handed → (ℕ → ℕ → Given → A) → A
over k x f = f k.lead k.width (handed x)

-- s after the turns 0, 1, .., n of them
unfoldable pub turns : (ℕ → List ℕ → List ℕ) → List ℕ → ℕ → List ℕ
turns turn s zero = s
turns turn s (suc n) = turn n (turns turn s n)

-- zero bits from the bit i on, up to a whole byte
unfoldable pub put_padding : ℕ → List ℕ → List ℕ
put_padding i s = put_of s i (8 * bytes_for i - i) 0

module _ (w : ℕ) where
  -- count q of those from the bit i on
  unfoldable pub put_count : ℕ → (ℕ → ℕ) → ℕ → List ℕ → List ℕ
  put_count i count q s = put_of s (i + w * q) w (count q)

  -- a station's part from the bit i on, "m_p, start level"
  unfoldable pub put_pair : ℕ → ℕ → ℕ → List ℕ → List ℕ
  put_pair i m bits s = put_of (put_of s i w m) (i + w) 12 bits

  -- a record from the bit i on, "origin, sender's number, level, n counts"
  unfoldable pub put_record : ℕ → ℕ → ℕ → ℕ → (ℕ → ℕ) → ℕ → List ℕ → List ℕ
  put_record i o k bits count n s = turns (put_count (i + 16 + w) count) (put_of (put_of (put_of s i 4 o) (i + 4) w k) (i + 4 + w) 12 bits) n

module _ (lead w : ℕ) (g : Given) where
  -- the bit where the recording ends
  abbrev pub end_given : ℕ
  end_given = record_bit lead w g.n (first_given g g.n)

  -- the part of the station at place p
  unfoldable pub station_turn : ℕ → List ℕ → List ℕ
  station_turn p = put_pair w (station_bit lead w p) (at g.counts p) (level_put (get_or g.starts p (pos 0)))

  -- record r
  unfoldable pub record_turn : ℕ → List ℕ → List ℕ
  record_turn r =
      put_record w (record_bit lead w g.n r) (at g.origins r) (at g.numbers r) (level_put (get_or g.levels r (pos 0))) (λ q. at g.stamps (r * g.n + q)) g.n

  -- n in front, and zero bits behind the records; then the stations' parts, then the records
  unfoldable pub ended : List ℕ → List ℕ
  ended s = put_padding end_given (put_of s (lead - 4) 4 g.n)

  unfoldable pub stationed : List ℕ → List ℕ
  stationed s = turns station_turn (ended s) g.n

  unfoldable pub pack_into : List ℕ → List ℕ
  pack_into s = turns record_turn (stationed s) (first_given g g.n)
