use Rattle.std.proofs.Common.{rules}
use Rattle.recording.proofs.EightLaws.{eight_made}
use Rattle.recording.proofs.packed.Packed.counts.Goals as goal

pub returns : goal.returns
returns c =
    eight_made _ _ c.from_fn.ensures.items.long (search rules) (search rules) (search rules) (search rules) (search rules) (search rules) (search rules) (search rules)
