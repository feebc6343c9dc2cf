-- What a reply and its path room tell of a job's text. Nothing here has to be believed: `AnswerLaws` proves it of every reply that `judge` permits.
use Rattle.std.specs.Prelude.{◌≡◌, cond, List, ℕ, ◌≤◌, length, take, Option, Some, None, Result, Ok, Err, option_map}
use Rattle.cut.specs.Value.{counts_of, events_of}
use Rattle.recording.specs.Form.{lead8, width8}
use Rattle.recording.specs.Decode.{full_of}
use Rattle.refusal.specs.Refusal.{number_of}
use Rattle.refusal.specs.declared.Refusal.{Refusal}
use Rattle.text.specs.Text.{refused_text, verdict_text}
use Rattle.marks.specs.declared.Verdicts.{Verdicts}
use Rattle.engine.specs.Job.{part_of}
use Rattle.reply.specs.Answer.{text_of}

-- T of the job's recording
unfoldable pub events_in : List ℕ → ℕ
events_in job = events_of (full_of lead8 width8 (part_of job))

-- the path in the front of its room, where Def is no
abbrev pub path_in : List ℕ → Verdicts → List ℕ → Option (List ℕ)
path_in job v path = cond v.def None (Some (take (events_in job) path))

pub record Tells (job : List ℕ) (r : Result Verdicts Refusal) (path : List ℕ) : Type 0 where
  -- refused: the line of the refusal
  pub refused : (x : Refusal) → r ≡ Err x → refused_text (number_of x.reason) x.station x.event ≡ text_of job
  -- accepted: there is a recording, the room has its path, and the two lines of the verdicts
  pub long : (v : Verdicts) → r ≡ Ok v → 38 ≤ length job
  pub holds : (v : Verdicts) → r ≡ Ok v → events_in job ≤ length path
  pub accepted : (v : Verdicts) → r ≡ Ok v → verdict_text (option_map counts_of v.witness) (path_in job v path) ≡ text_of job
