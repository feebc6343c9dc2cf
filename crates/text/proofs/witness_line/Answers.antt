use native.Mathlib.Omega.{arith}
use Rattle.text.specs.Text.{poss_text}
use Rattle.text.proofs.LineLaws.{line_is}
use Rattle.text.proofs.witness_line.Goals as goal

pub returns : goal.returns
unfolding poss_text
returns c = line_is _ _ (λ i. omega (arith, c.type_inv.counts i))
