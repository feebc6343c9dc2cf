use native.Mathlib.Omega.{arith}
use Rattle.text.specs.Text.{def_text}
use Rattle.text.proofs.LineLaws.{line_is}
use Rattle.text.proofs.path_line.Goals as goal

pub returns : goal.returns
unfolding def_text
returns c = line_is _ _ (λ i. omega (arith, c.type_inv.stations i))
