-- Whole bytes hold the bits, and one less does not.
use native.Mathlib.Omega.{arith}
use Rattle.recording.specs.Form.{bytes_for}
use Rattle.recording.proofs.form.bytes_for.Goals as goal

pub returns : goal.returns
unfolding bytes_for
returns c = (omega arith, omega arith, omega arith)
