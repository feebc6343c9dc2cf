use Rattle.text.proofs.LineLaws.{def_yes_line}
use Rattle.text.proofs.def_line.Goals as goal

pub returns-in-None : goal.returns-in-None
returns-in-None c = rw c.in-None.is def_yes_line
