-- The printed text of the reply to a job, byte for byte, with rooms that always suffice: document 01, "Its rooms always suffice, so it never prints 11 or
-- 12".
use Rattle.std.specs.Prelude.{List, ◌++◌, map, ℕ, suc, Ok, Err, Some, None}
use Rattle.std.proofs.Math.Option.{Option, none, some}
use Rattle.cuts.specs.Computed.{poss_of, def_of}
use Rattle.refusal.specs.Refusal.{Checked, number_of}
use Rattle.text.specs.Text.{refused_text, poss_text, def_text}
use Rattle.engine.specs.Job.{L, checked_job}

-- rooms for the marks of any box within its limit, and for any path
abbrev pub marks_room : ℕ
marks_room = 65536

abbrev pub path_room : ℕ
path_room = 4088

-- "`poss yes` with the n counts of the witness, or `poss no`"
abbrev pub poss_line : Option (List ℕ) → List ℕ
poss_line none = poss_text None
poss_line (some c) = poss_text (Some c)

-- "`def yes`, or `def no` with the T station numbers"
abbrev pub def_line : Option (List ℕ) → List ℕ
def_line none = def_text None
def_line (some path) = def_text (Some (map suc path))

abbrev pub text_by : Checked → Option (List ℕ) → Option (List ℕ) → List ℕ
text_by (Err x) poss def = refused_text (number_of x.reason) x.station x.event
text_by (Ok u) poss def = poss_line poss ++ def_line def

-- the text of the reply to a job
unfoldable pub text_of : List ℕ → List ℕ
text_of job = text_by (checked_job job marks_room path_room) (poss_of (L job)) (def_of (L job))
