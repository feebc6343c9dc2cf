-- The packed recording laid out flat, for the checks and for the engine: counts and start levels in arrays of eight, stamps and levels in tables, records
-- in file order. In order: eight counts, firsts, starts; the tables; what of them the checks lean on; the full cut and the start levels; the tables in their rooms.
use Rattle.std.specs.Prelude.{◌≡◌, Bool, ◌&&◌, cond, List, ◌++◌, ℕ, ◌+◌, ◌*◌, ◌/◌, ◌%◌, ◌≤◌, length, take, drop, leb, ltb}
use Rattle.bits.specs.Bits.{field}
use Rattle.levels.specs.Level.{excess_of}
use Rattle.cuts.specs.Below.{sum_to, tab}
use Rattle.cut.specs.declared.Cut.{Cut}
use Rattle.recording.specs.Form.{station_bit, n_at, m_at, first_at, level_at, count_at}

module _ (lead w : ℕ) (s : List ℕ) where
  -- the events of the station at place p, none beyond n
  unfoldable pub events_at : ℕ → ℕ → ℕ
  events_at n p = cond (ltb p n) (m_at lead w s p) 0

  -- the records before those of the station at place p; T from n on
  unfoldable pub records_to : ℕ → ℕ → ℕ
  records_to n p = sum_to p (events_at n)

  -- the excess number of the start level of the station at place p, 0 beyond n
  unfoldable pub start_cell : ℕ → ℕ → ℕ
  start_cell n p = cond (ltb p n) (excess_of (field s (station_bit lead w p + w) 12)) 0

  -- number j of the table of stamps: eight places a record, 0 beyond n
  unfoldable pub stamp_cell : ℕ → ℕ → ℕ
  stamp_cell n j = cond (ltb (j % 8) n) (count_at lead w s n (j / 8) (j % 8)) 0

  -- number r of the table of levels: the excess number of record r's level
  unfoldable pub level_cell : ℕ → ℕ → ℕ
  level_cell n r = excess_of (level_at lead w s n r)

  -- what the checks of the records read: n, the counts, the firsts and the table of stamps
  pub record Laid (n : ℕ) (counts firsts rows : List ℕ) : Type 0 where
    pub n_is : n ≡ n_at lead s
    pub n_least : 1 ≤ n
    pub n_most : n ≤ 8
    pub counts_are : counts ≡ tab 8 (events_at n)
    pub firsts_are : firsts ≡ tab 9 (records_to n)
    pub rows_are : take (8 * records_to n n) rows ≡ tab (8 * records_to n n) (stamp_cell n)

  -- n and m as the full cut
  unfoldable pub full_of : Cut
  full_of = record { counts = tab 8 (events_at (n_at lead s)); n = n_at lead s }

  -- eight excess start levels
  unfoldable pub starts_of : List ℕ
  starts_of = tab 8 (start_cell (n_at lead s))

  -- whether a room has the table of stamps, and the room with the table in front
  unfoldable pub stamps_fit : ℕ → Bool
  stamps_fit room = leb (n_at lead s) 8 && leb (8 * first_at lead w s (n_at lead s)) room

  unfoldable pub stamps_in : List ℕ → List ℕ
  stamps_in room =
      let k = 8 * first_at lead w s (n_at lead s) in
      cond (stamps_fit (length room)) (tab k (stamp_cell (n_at lead s)) ++ drop k room) room

  -- the same of the levels
  unfoldable pub levels_fit : ℕ → Bool
  levels_fit room = leb (n_at lead s) 8 && leb (first_at lead w s (n_at lead s)) room

  unfoldable pub levels_in : List ℕ → List ℕ
  levels_in room =
      let k = first_at lead w s (n_at lead s) in
      cond (levels_fit (length room)) (tab k (level_cell (n_at lead s)) ++ drop k room) room
