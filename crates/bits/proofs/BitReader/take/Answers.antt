-- The tests are those that make a field, and what passes them all is looked at as it stands.
use Rattle.std.proofs.Common.{arith}
use Rattle.bits.proofs.BitsLaws.{left_of-fits}
use Rattle.bits.proofs.ReaderLaws.{takes_none, takes_some}
use Rattle.bits.proofs.BitReader.take.Goals as goal

pub returns-then-k-lt1 : goal.returns-then-k-lt1
returns-then-k-lt1 c = takes_none _ _ (λ h₁ h₂ h₃. omega (arith, c.then-k-lt1.either))

pub overflow_add-self : goal.overflow_add-self
overflow_add-self c =
    omega (arith, left_of-fits c.args.self.now.bytes.now c.args.self.now.taken c.args.k (omega arith) (omega arith))

pub returns : goal.returns
returns c = takes_some _ _ _ (omega arith) (omega arith) (omega arith) c.look-field.ensures
