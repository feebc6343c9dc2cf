-- What the exported entry answers, as a number.
use Rattle.std.specs.Prelude.{◌≡◌, Bool, cond, List, ℕ, ◌+◌, is_some, Result, Ok, Err}
use Rattle.refusal.specs.declared.Refusal.{Refusal}
use Rattle.marks.specs.declared.Verdicts.{Verdicts}
use Rattle.engine.specs.Job.{Judged}

-- two verdicts as a number: 1, and 2 more if Poss is yes, 4 more if Def is
abbrev pub verdict_number : Bool → Bool → ℕ
verdict_number poss def = 1 + cond poss 2 0 + cond def 4 0

-- the number of a reply, 0 if it is a refusal
abbrev pub reply_number : Result Verdicts Refusal → ℕ
reply_number (Err x) = 0
reply_number (Ok v) = verdict_number (is_some v.witness) v.def

-- the number of what `judge` permits, with its rooms
pub record JudgeExported (job marks path : List ℕ) (r : ℕ) (marks' path' : List ℕ) : Type 0 where
  pub reply : Result Verdicts Refusal
  pub judged : Judged job marks path reply marks' path'
  pub number : r ≡ reply_number reply
