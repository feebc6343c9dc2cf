-- The checks come first; where they accept, the table of stamps that they laid is copied and that of the levels laid, if both rooms have them.
use mathlib.Core.Path.{◌≡◌, refl}
use lib.ListN.{take}
use Prim.Native.Nat.{◌*◌}
use Rattle.std.proofs.lemmas.Grind.{common_steps}
use native.Mathlib.Omega.{arith}
use Rattle.recording.proofs.DecodedLaws.{decode_short-stamps, decode_short-levels, decode_done}
use Rattle.recording.proofs.decode.Goals as goal
use Rattle.recording.proofs.decode.Goals.{then-stamps-cells-via-then-stamps-cells, then-stamps-cells-via-else-stamps-cells+then-levels-from}

pub returns-then-stamps-cells : goal.returns-then-stamps-cells
returns-then-stamps-cells c =
    let P = c.of-packed.ensures in
    let h = rw (P.0, P.1, P.2) at c.in_ok-check_rows.ensures in
    let t = rw (P.0, P.1, P.2) at c.total-total.ensures.0 in
    elim c.then-stamps-cells.branch [
      | then-stamps-cells-via-then-stamps-cells w ↦ decode_short-stamps _ _ _ _ _ _ h _ t (omega arith)
      | then-stamps-cells-via-else-stamps-cells+then-levels-from w ↦
          decode_short-levels _ _ _ _ _ _ h _ t (omega arith) (omega arith)
    ]

pub returns : goal.returns
returns c =
    let P = c.of-packed.ensures in
    let h = rw (P.0, P.1, P.2) at c.in_ok-check_rows.ensures in
    let t = rw (P.0, P.1, P.2) at c.total-total.ensures.0 in
    let r : c.copy_from_slice.new.self ≡ take (8 * c.total-total.result) c.check_rows.new.rows = grind (arith, common_steps) in
    decode_done _ _ _ _ _ _ h _ t (omega arith) (omega arith) _ _ (rw (c.from-cells.ensures, r) refl) (rw (P.0, P.1, P.2) at c.lay_levels.ensures)
