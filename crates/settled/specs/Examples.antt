-- The settled examples of document 01 that are marked P, 1 to 11, as one table: jobs of bytes, and the whole reply to each.
-- In order: recordings and conditions as bytes; answers and rows; the table; the whole example; what an answer says; what is said of each row.
-- `SettledRight` proves it.
use Rattle.std.specs.Prelude.{◌≡◌, List, [], ◌∷◌, ◌++◌, ℕ, ◌≤◌, length, drop, replicate, Result, Ok, Err, Some, None}
use Rattle.std.specs.Prelude as rust
use Rattle.std.proofs.Math.Option.{Option, none, some}
use Rattle.cuts.specs.Cut.{total}
use Rattle.refusal.specs.Refusal.{number_of}
use Rattle.refusal.specs.declared.Reason.{Reason}
use Rattle.refusal.specs.declared.Refusal.{Refusal}
use Rattle.marks.specs.declared.Verdicts.{Verdicts}
use Rattle.text.specs.Text.{refused_text, poss_text, def_text}
use Rattle.engine.specs.Job.{Judged}
use Rattle.reply.specs.Answer.{text_of}
use Rattle.engine.specs.Computed.{evidence, reply_of}

-- A: "start levels 0 and 0, station 1 steps to level 1 with stamp 1 0, station 2 receives from event 1 of station 1, level 1, stamp 1 1"
abbrev A : List ℕ
A = 0x20 ∷ 0x10 ∷ 0x00 ∷ 0x01 ∷ 0x00 ∷ 0x00 ∷ 0x00 ∷ 0x00 ∷ 0x10 ∷ 0x10 ∷ 0x01 ∷ 0x01 ∷ 0x00 ∷ 0x10 ∷ 0x10 ∷ 0x10 ∷ []

-- B: "A with station 2's event a local step, stamp 0 1"
abbrev B : List ℕ
B = 0x20 ∷ 0x10 ∷ 0x00 ∷ 0x01 ∷ 0x00 ∷ 0x00 ∷ 0x00 ∷ 0x00 ∷ 0x10 ∷ 0x10 ∷ 0x00 ∷ 0x00 ∷ 0x00 ∷ 0x10 ∷ 0x00 ∷ 0x10 ∷ []

-- E: "n = 1, no events, level 0"
abbrev E : List ℕ
E = 0x10 ∷ 0x00 ∷ 0x00 ∷ []

-- 9: "A with station 2's stamp 0 1"
abbrev nine : List ℕ
nine = 0x20 ∷ 0x10 ∷ 0x00 ∷ 0x01 ∷ 0x00 ∷ 0x00 ∷ 0x00 ∷ 0x00 ∷ 0x10 ∷ 0x10 ∷ 0x01 ∷ 0x01 ∷ 0x00 ∷ 0x10 ∷ 0x00 ∷ 0x10 ∷ []

-- 10: "two stations, each with one receipt of the other's event 1, all stamps 1 1"; all levels 0
abbrev ten : List ℕ
ten = 0x20 ∷ 0x10 ∷ 0x00 ∷ 0x01 ∷ 0x00 ∷ 0x02 ∷ 0x01 ∷ 0x00 ∷ 0x00 ∷ 0x10 ∷ 0x11 ∷ 0x01 ∷ 0x00 ∷ 0x00 ∷ 0x10 ∷ 0x10 ∷ []

-- 11: "counts 1 and 2, station 2 receives station 1's event 1 twice, stamps 1 1 and 1 2"; all levels 0
abbrev eleven : List ℕ
eleven =
    0x20 ∷ 0x10 ∷ 0x00 ∷ 0x02 ∷ 0x00 ∷ 0x00 ∷ 0x00 ∷ 0x00 ∷ 0x00 ∷ 0x10 ∷ 0x01 ∷ 0x01 ∷ 0x00 ∷ 0x00 ∷ 0x10 ∷ 0x11 ∷ 0x01 ∷ 0x00 ∷ 0x00 ∷ 0x10 ∷ 0x20 ∷ []

-- a condition: kind and k, low, high, asked, and the windows, of which those not written are zero
abbrev condition : ℕ → ℕ → ℕ → ℕ → List ℕ → ℕ → List ℕ
condition kind low high asked windows rest = kind ∷ 0x00 ∷ low ∷ 0x00 ∷ high ∷ asked ∷ [] ++ windows ++ replicate rest 0x00

-- "sum 1 to 1" of stations 1 and 2, and with none asked
abbrev sum : List ℕ
sum = condition 0x80 0x01 0x01 0xC0 [] 32

abbrev sum_of_none : List ℕ
sum_of_none = condition 0x80 0x01 0x01 0x00 [] 32

-- "station 1 at x together with station 2 at y"
abbrev together : ℕ → ℕ → List ℕ
together x y = condition 0x00 0x00 0x00 0xC0 (0x00 ∷ x ∷ 0x00 ∷ x ∷ 0x00 ∷ y ∷ 0x00 ∷ y ∷ []) 24

-- "Together, none asked"
abbrev together_of_none : List ℕ
together_of_none = condition 0x00 0x00 0x00 0x00 [] 32

-- what is settled of a job: that it is "refused with number, station, event"; or its verdicts, on stations with m events each, and its marks in rank order.
-- `poss` and `def` are none, or their evidence: the counts of the witness, the path as station numbers
pub data Answer : Type 0 where
  refuses : (reason : Reason) (station event : ℕ) → Answer
  answers : (m : List ℕ) (poss def : Option (List ℕ)) (marks : List ℕ) → Answer

-- "Poss at .." and "Poss no"; "Def yes" and "Def no, path .."
abbrev poss_at : List ℕ → Option (List ℕ)
poss_at c = some c

abbrev poss_no : Option (List ℕ)
poss_no = none

abbrev def_yes : Option (List ℕ)
def_yes = none

abbrev def_no : List ℕ → Option (List ℕ)
def_no path = some path

pub record Row : Type 0 where
  pub job : List ℕ
  pub answer : Answer

abbrev pub row : List ℕ → Answer → Row
row job a = record { job = job; answer = a }

-- 1 to 11, in their order
abbrev pub rows : List Row
rows =
    row (sum ++ A) (answers (1 ∷ 1 ∷ []) (poss_at (1 ∷ 0 ∷ [])) def_yes (3 ∷ 1 ∷ 0 ∷ 2 ∷ []))
    ∷ row (sum ++ B) (answers (1 ∷ 1 ∷ []) (poss_at (1 ∷ 0 ∷ [])) def_yes (3 ∷ 1 ∷ 1 ∷ 2 ∷ []))
    ∷ row (together 1 0 ++ B) (answers (1 ∷ 1 ∷ []) (poss_at (1 ∷ 0 ∷ [])) (def_no (2 ∷ 1 ∷ [])) (3 ∷ 1 ∷ 3 ∷ 3 ∷ []))
    ∷ row (together 1 0 ++ A) (answers (1 ∷ 1 ∷ []) (poss_at (1 ∷ 0 ∷ [])) def_yes (3 ∷ 1 ∷ 0 ∷ 2 ∷ []))
    ∷ row (together 0 1 ++ A) (answers (1 ∷ 1 ∷ []) poss_no (def_no (1 ∷ 2 ∷ [])) (3 ∷ 3 ∷ 0 ∷ 3 ∷ []))
    ∷ row (together 0 1 ++ B) (answers (1 ∷ 1 ∷ []) (poss_at (0 ∷ 1 ∷ [])) (def_no (1 ∷ 2 ∷ [])) (3 ∷ 3 ∷ 1 ∷ 3 ∷ []))
    ∷ row (together_of_none ++ E) (answers (0 ∷ []) (poss_at (0 ∷ [])) def_yes (1 ∷ []))
    ∷ row (sum_of_none ++ E) (answers (0 ∷ []) poss_no (def_no []) (3 ∷ []))
    ∷ row (sum ++ nine) (refuses Reason.Stamp 2 1)
    ∷ row (sum ++ ten) (refuses Reason.Stamp 1 1)
    ∷ row (sum ++ eleven) (answers (1 ∷ 2 ∷ []) poss_no (def_no (1 ∷ 2 ∷ 2 ∷ [])) (3 ∷ 3 ∷ 0 ∷ 3 ∷ 0 ∷ 3 ∷ []))
    ∷ []

-- the whole example of document 01: its input, and its output, `poss yes 1 0` and `def yes`, each line ended by a newline
abbrev pub input : List ℕ
input = sum ++ A

abbrev pub output : List ℕ
output = 112 ∷ 111 ∷ 115 ∷ 115 ∷ 32 ∷ 121 ∷ 101 ∷ 115 ∷ 32 ∷ 49 ∷ 32 ∷ 48 ∷ 10 ∷ 100 ∷ 101 ∷ 102 ∷ 32 ∷ 121 ∷ 101 ∷ 115 ∷ 10 ∷ []

-- the refusal that says so
abbrev pub refusal_to : Reason → ℕ → ℕ → Refusal
refusal_to k station event = record { reason = k; station = station; event = event }

-- the reply that says so: "eight counts with the number of stations; counts beyond n are 0"
abbrev pub reply_to : Answer → Result Verdicts Refusal
reply_to (refuses k station event) = Err (refusal_to k station event)
reply_to (answers m poss def marks) = Ok (reply_of (length m) poss def)

-- what is in front of the room for marks, and of that for the path
abbrev pub marks_of : Answer → List ℕ
marks_of (refuses k station event) = []
marks_of (answers m poss def marks) = marks

abbrev pub path_of : Answer → List ℕ
path_of (refuses k station event) = []
path_of (answers m poss def marks) = evidence def

-- T; a refusal with 7 asks for no room
abbrev pub events_of : Answer → ℕ
events_of (refuses k station event) = 0
events_of (answers m poss def marks) = total m

-- evidence as the text takes it
abbrev pub told : Option (List ℕ) → rust.Option (List ℕ)
told none = None
told (some l) = Some l

-- the text that is printed of it
abbrev pub text_to : Answer → List ℕ
text_to (refuses k station event) = refused_text (number_of k) station event
text_to (answers m poss def marks) = poss_text (told poss) ++ def_text (told def)

-- a room with bytes laid into its front, otherwise unchanged
abbrev pub laid : List ℕ → List ℕ → List ℕ
laid front room = front ++ drop (length front) room

-- the reply of a row with its marks and its path is permitted by the promise of `judge`, and no other is
pub record Settles (job : List ℕ) (a : Answer) (marks path : List ℕ) : Type 0 where
  pub permitted : Judged job marks path (reply_to a) (laid (marks_of a) marks) (laid (path_of a) path)
  pub only : (r : Result Verdicts Refusal) (marks' path' : List ℕ) → Judged job marks path r marks' path'
      → (r ≡ reply_to a) × (marks' ≡ laid (marks_of a) marks) × (path' ≡ laid (path_of a) path)

-- so it is in all rooms that suffice, and the text of the promise of `answer` is the row's
pub record Settled (r : Row) : Type 0 where
  pub judged : (marks path : List ℕ) → length (marks_of r.answer) ≤ length marks → events_of r.answer ≤ length path → Settles r.job r.answer marks path
  pub printed : text_of r.job ≡ text_to r.answer

-- P holds of each row of a table
abbrev pub Each : (Row → Type 0) → List Row → Type 0
Each P [] = Unit {0}
Each P (r ∷ rest) = P r × Each P rest
