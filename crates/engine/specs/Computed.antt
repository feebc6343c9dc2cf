-- The reply as it is computed: read off the tables of marks and of possible and definite verdicts. Nothing here has to be believed: `JudgeRight` proves
-- that what is computed is what `Judged` promises in the law's words.
use Rattle.std.specs.Prelude.{◌≡◌, Bool, true, false, not, List, [], ◌++◌, map, ℕ, suc, ◌≤◌, length, drop, replicate, Result, Ok, Err}
use Rattle.std.proofs.Math.Option.{Option, none, some}
use Rattle.cuts.specs.Cut.{total}
use Rattle.cuts.specs.Rank.{box}
use Rattle.cuts.specs.Verdict.{Lattice}
use Rattle.cuts.specs.Computed.{table, poss_of, def_of}
use Rattle.cuts.specs.Trace.{lattice, at_cut}
use Rattle.cut.specs.declared.Cut.{Cut}
use Rattle.recording.specs.Recording.{Recording, messages, stamps, levels}
use Rattle.recording.specs.Recording as recorded
use Rattle.recording.specs.Form.{recording_of, lead8, width8}
use Rattle.recording.specs.Check.{fault_of, checked_of}
use Rattle.refusal.specs.Refusal.{Checked, at_whole, or_else}
use Rattle.refusal.specs.declared.Refusal.{Refusal}
use Rattle.recording.specs.Decode.{full_of, stamps_in, levels_in}
use Rattle.condition.specs.Condition.{holds_of}
use Rattle.condition.specs.declared.Condition.{Condition}
use Rattle.marks.specs.Flat.{settled_of}
use Rattle.marks.specs.declared.Verdicts.{Verdicts}
use Rattle.engine.specs.Job.{none_above, room_tests}

module _ (c : Condition) (s : List ℕ) where
  abbrev R : Recording
  R = recording_of lead8 width8 s

  abbrev m : List ℕ
  m = recorded.counts_of R

  -- what the verdicts on the recording in the bytes s are about
  abbrev pub lattice_of : Lattice
  lattice_of = lattice (messages R) (stamps R) (at_cut (levels R) (holds_of c))

  -- the answer of the checks from the recording's on, for rooms of so many bytes
  unfoldable pub checked_part : ℕ → ℕ → Checked
  checked_part marks path = or_else (checked_of lead8 width8 s) (at_whole (fault_of (room_tests c (length m) (box m) (total m) marks path)))

  -- the recording is accepted, its tables are laid out, no station that it lacks is asked and the rooms suffice
  pub record Settled (full : Cut) (stamps levels : List ℕ) (marks path : ℕ) : Type 0 where
    pub accepts : checked_of lead8 width8 s ≡ Ok tt
    pub full_is : full ≡ full_of lead8 width8 s
    pub stamps_are : stamps ≡ stamps_in lead8 width8 s (replicate 32704 0)
    pub levels_are : levels ≡ levels_in lead8 width8 s (replicate 4088 0)
    pub asked : none_above c (length m) ≡ true
    pub limit : box m ≤ 65536
    pub marks_fit : box m ≤ marks
    pub path_fit : total m ≤ path

-- a recording that is accepted, and its tables
pub record Laid (s stamps levels : List ℕ) : Type 0 where
  pub accepts : checked_of lead8 width8 s ≡ Ok tt
  pub stamps_are : stamps ≡ stamps_in lead8 width8 s (replicate 32704 0)
  pub levels_are : levels ≡ levels_in lead8 width8 s (replicate 4088 0)

-- whether there is evidence
abbrev pub given : Option (List ℕ) → Bool
given none = false
given (some l) = true

-- the evidence, or nothing
abbrev pub evidence : Option (List ℕ) → List ℕ
evidence none = []
evidence (some l) = l

-- the verdicts on a recording with n stations, by their evidence
abbrev pub reply_of : ℕ → Option (List ℕ) → Option (List ℕ) → Verdicts
reply_of n poss def = settled_of n poss (not (given def))

-- the path room afterwards, for a recording with t events
abbrev pub path_then : ℕ → Option (List ℕ) → List ℕ → List ℕ
path_then t none room = room
path_then t (some path) room = map suc path ++ drop t room

pub record Computed (c : Condition) (s marks path : List ℕ) (v : Verdicts) (marks' path' : List ℕ) : Type 0 where
  pub reply : v ≡ reply_of (length (m c s)) (poss_of (lattice_of c s)) (def_of (lattice_of c s))
  pub marks_after : marks' ≡ table (lattice_of c s) ++ drop (box (m c s)) marks
  pub path_after : path' ≡ path_then (total (m c s)) (def_of (lattice_of c s)) path

-- the reply to a condition and the bytes of a recording: a refusal and nothing changed, or what is computed
pub data Answered (c : Condition) (s marks path : List ℕ) : Result Verdicts Refusal → List ℕ → List ℕ → Type 0 where
  unfit : {x : Refusal} → checked_part c s (length marks) (length path) ≡ Err x → Answered c s marks path (Err x) marks path
  fit : {v : Verdicts} {marks' path' : List ℕ} → checked_part c s (length marks) (length path) ≡ Ok tt → Computed c s marks path v marks' path'
      → Answered c s marks path (Ok v) marks' path'
