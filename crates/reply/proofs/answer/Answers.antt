-- What `judge` promises in rooms that always suffice is what the text is printed of.
use mathlib.Core.Path.{refl}
use Rattle.reply.proofs.AnswerLaws.{tells}
use Rattle.reply.proofs.answer.Goals as goal

pub print-requires : goal.print-requires
print-requires c = tells _ _ _ _ _ _ refl refl c.judge-reply.ensures
