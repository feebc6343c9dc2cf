use Rattle.text.proofs.LineLaws.{poss_no_line}
use Rattle.text.proofs.poss_line.Goals as goal

pub returns-in-None : goal.returns-in-None
returns-in-None c = rw c.in-None.is poss_no_line
