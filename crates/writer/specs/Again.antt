-- What was read, as the writer's lists: the fields of the bytes s, stations in their order and records in file order.
use Rattle.std.specs.Prelude.{List, ℕ, ◌*◌, ◌/◌, ◌%◌}
use Rattle.levels.specs.Level.{twos}
use Rattle.cuts.specs.Below.{tab}
use Rattle.recording.specs.Form.{n_at, m_at, start_at, first_at, origin_at, number_at, level_at, count_at}
use Rattle.writer.specs.Write.{Given}

unfoldable pub lists_of : ℕ → ℕ → List ℕ → Given
lists_of lead w s =
    let n = n_at lead s in
    let t = first_at lead w s n in
    record {
      n = n;
      counts = tab n (m_at lead w s);
      starts = tab n (start_at lead w s);
      origins = tab t (origin_at lead w s n);
      numbers = tab t (number_at lead w s n);
      levels = tab t (λ r. twos 12 (level_at lead w s n r));
      stamps = tab (t * n) (λ j. count_at lead w s n (j / n) (j % n));
    }
