-- A stamp's counts have at most 9 bits each, so the sum is small.
use native.Mathlib.Omega.{arith}
use Rattle.recording.proofs.PlaceLaws.{counts_le}
use Rattle.recording.proofs.form.Form.stamp_bit.Goals as goal

pub returns : goal.returns
returns c =
    let A = c.args in
    rw c.from.ensures (omega (arith, c.record_bit.ensures.0), omega (arith, counts_le A.self.width A.q 255 (omega arith) (omega arith)))
