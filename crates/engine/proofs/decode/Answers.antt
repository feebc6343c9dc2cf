-- The rooms suffice for any recording.
use mathlib.Core.Path.{ap, ◌∙◌}
use Rattle.std.proofs.Common.{Err}
use Rattle.engine.proofs.JudgeLaws.{decoded, decoded_short}
use Rattle.engine.proofs.decode.Goals as goal

pub unreachable-requires : goal.unreachable-requires
unreachable-requires c =
    decoded_short _ _ _ _ _ _ c.decode.ensures c.requires.0 c.requires.1 (c.in-Err-Short.is ∙ ap Err c.in-Err-Short.field-0-is)

pub returns-in-Ok : goal.returns-in-Ok
returns-in-Ok c = decoded _ _ _ _ _ _ c.decode.ensures c.requires.0 c.requires.1 c.in-Ok.is
