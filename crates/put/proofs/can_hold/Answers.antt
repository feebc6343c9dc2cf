-- Each refusal is one of the tests of the definition; a value of k bits is one whose bits above them are 0.
use Rattle.std.proofs.Common.{arith}
use Rattle.put.proofs.PutLaws.{can_hold-not, can_hold-shifted}
use Rattle.put.proofs.can_hold.Goals as goal

pub returns-then-k-lt1 : goal.returns-then-k-lt1
returns-then-k-lt1 c = can_hold-not _ _ _ _ (λ h₁ h₂ h₃ h₄. omega (arith, c.then-k-lt1.either))

pub returns-then-n-at : goal.returns-then-n-at
returns-then-n-at c = can_hold-not _ _ _ _ (λ h₁ h₂ h₃ h₄. omega arith)

pub returns : goal.returns
returns c = can_hold-shifted _ _ _ _ (omega arith) (omega arith) (omega arith)
