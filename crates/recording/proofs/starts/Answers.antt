-- The start levels are those of its n stations, in its form.
use mathlib.Core.Path.{ap}
use Prim.Native.Nat.{ℕ}
use Rattle.cuts.specs.Below.{tab}
use Rattle.recording.specs.Form.{lead8, width8}
use Rattle.recording.specs.Decode.{starts_of, start_cell}
use Rattle.recording.proofs.starts.Goals as goal

pub returns : goal.returns
unfolding starts_of
returns c =
    let stations = rw (c.of-packed.ensures.0, c.of-packed.ensures.2) at c.stations-n.ensures.0 in
    rw (c.starts.ensures, c.of-packed.ensures.0, c.of-packed.ensures.1, c.of-packed.ensures.2)
    (ap (λ (n : ℕ). tab 8 (start_cell lead8 width8 c.args.s.now n)) stations)
