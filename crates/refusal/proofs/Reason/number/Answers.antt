use Rattle.refusal.proofs.ReasonLaws.{number_tag}
use Rattle.refusal.proofs.Reason.number.Goals as goal

pub returns : goal.returns
returns c = number_tag c.args.self
