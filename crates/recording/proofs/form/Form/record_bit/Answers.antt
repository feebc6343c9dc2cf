-- A record has at most 25 bits and 9 for each station, so the sum is small, and it is the definition's.
use mathlib.Core.Path.{◌≡◌, ap}
use Prim.Native.Nat.{ℕ, ◌+◌, ◌*◌}
use native.Mathlib.Omega.{arith}
use Rattle.recording.specs.Form.{station_bit, record_size, record_bit}
use Rattle.recording.proofs.PlaceLaws.{records_le}
use Rattle.recording.proofs.form.Form.record_bit.Goals as goal

pub returns : goal.returns
unfolding record_size record_bit
returns c =
    let A = c.args in
    let e : 16 + A.self.width + A.self.width * A.n ≡ 4 + A.self.width + 12 + A.self.width * A.n = omega arith in
    rw (c.from.ensures, c.from-2.ensures, c.station_bit.ensures.0)
    (ap (λ (k : ℕ). station_bit A.self.lead A.self.width A.n + k * A.r) e, omega (arith, records_le A.self.width A.n A.r 255 65535 (omega arith) (omega arith) (omega arith)))
