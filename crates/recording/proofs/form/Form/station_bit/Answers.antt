-- A station's part has at most 21 bits, so the sum is small, and it is the definition's.
use mathlib.Core.Path.{refl}
use native.Mathlib.Omega.{arith}
use Rattle.recording.specs.Form.{station_bit}
use Rattle.recording.proofs.PlaceLaws.{stations_le}
use Rattle.recording.proofs.form.Form.station_bit.Goals as goal

pub returns : goal.returns
unfolding station_bit
returns c = rw c.from.ensures (refl, omega (arith, stations_le c.args.self.width c.args.p 255 (omega arith) (omega arith)))
