-- The reply to a job: document 01, "Refusal numbers", its order for a job, and what is in the rooms after verdicts.
-- In order: a job's parts; its refusals in the written order; what the verdicts are about; the reply in the law's words; what is promised.
use Rattle.std.specs.Prelude.{◌≡◌, Bool, true, false, ◌||◌, not, cond, List, [], ◌∷◌, map, ℕ, pred, ◌<◌, length, take, drop, leb, ltb, Result, Ok, Err, Some, None}
use Rattle.std.specs.Prelude as rust
use Rattle.std.proofs.Math.Option.{Option, none, some}
use Rattle.cuts.specs.Below.{every, tab}
use Rattle.cuts.specs.Cut.{at, total, Within}
use Rattle.cuts.specs.Rank.{rank, box}
use Rattle.cuts.specs.Verdict.{Lattice, Says, PossIs, DefIs}
use Rattle.cuts.specs.Trace.{lattice, at_cut}
use Rattle.cuts.specs.Orders.{ByOrders}
use Rattle.cut.specs.Value.{counts_of}
use Rattle.cut.specs.declared.Cut.{Cut}
use Rattle.recording.specs.Recording.{Recording, messages, stamps, levels}
use Rattle.recording.specs.Recording as recorded
use Rattle.recording.specs.Form.{recording_of, lead8, width8}
use Rattle.recording.specs.Check.{Test, test, fault_of, checked_of}
use Rattle.refusal.specs.Refusal.{Checked, at_whole, or_else}
use Rattle.refusal.specs.declared.Reason.{Reason}
use Rattle.refusal.specs.declared.Refusal.{Refusal}
use Rattle.condition.specs.Condition.{condition_of, refused_of, window_at, holds_of}
use Rattle.condition.specs.declared.Condition.{Condition}
use Rattle.marks.specs.declared.Verdicts as marked

-- "the recording is the part of the job that begins at byte 38"
unfoldable pub part_of : List ℕ → List ℕ
part_of job = drop 38 job

-- no station above n is asked
unfoldable pub none_above : Condition → ℕ → Bool
none_above c n = every 8 (λ p. not (window_at c p).asked || ltb p n)

-- "then 9, 10, 11, 12", of a condition with n stations, a box, T events and two rooms of so many bytes
unfoldable pub room_tests : Condition → ℕ → ℕ → ℕ → ℕ → ℕ → List Test
room_tests c n b t marks path =
    test Reason.Asked (none_above c n)
    ∷ test Reason.BoxSize (leb b 65536)
    ∷ test Reason.MarksRoom (leb b marks)
    ∷ test Reason.PathRoom (leb t path)
    ∷ []

module _ (job : List ℕ) where
  -- the recording and the condition of a job
  abbrev pub R : Recording
  R = recording_of lead8 width8 (part_of job)

  abbrev pub C : Condition
  C = condition_of job

  -- m, and T
  abbrev pub m : List ℕ
  m = recorded.counts_of R

  -- "Order for a job: fewer than 38 bytes (1), 8; then the recording: ..; then 9, 10, 11, 12", for rooms of so many bytes
  unfoldable pub checked_job : ℕ → ℕ → Checked
  checked_job marks path = or_else (at_whole (refused_of job)) (or_else (checked_of lead8 width8 (part_of job)) (at_whole (fault_of (room_tests C (length m) (box m) (total m) marks path))))

  -- what the verdicts are about: the recording's stamps, and the condition asked of its levels
  abbrev pub L : Lattice
  L = lattice (messages R) (stamps R) (at_cut (levels R) (holds_of C))

-- the counts of a witness, or none
abbrev pub counts_in : rust.Option Cut → Option (List ℕ)
counts_in None = none
counts_in (Some w) = some (counts_of w)

-- what verdicts say of Poss: the counts of the witness, or none
abbrev pub poss_in : marked.Verdicts → Option (List ℕ)
poss_in v = counts_in v.witness

-- .. and of Def: none, or the path in the room's first t bytes, as places
abbrev pub def_in : ℕ → marked.Verdicts → List ℕ → Option (List ℕ)
def_in t v path = cond v.def none (some (map pred (take t path)))

-- what holds of an accepted job, of the verdicts and the rooms before and after
pub record Verdicts (job marks path : List ℕ) (v : marked.Verdicts) (marks' path' : List ℕ) : Type 0 where
  -- the verdicts and their evidence, over consistent cuts
  pub poss_is : PossIs (L job) (poss_in v)
  pub def_is : DefIs (L job) (def_in (total (m job)) v path')
  -- and over possible orders
  pub orders : ByOrders (levels (R job)) (holds_of (C job)) (messages (R job)) (poss_in v) (def_in (total (m job)) v path')
  -- the witness is a cut with the recording's n, 0 beyond its counts
  pub witness_is : (w : Cut) → v.witness ≡ Some w → w ≡ record { counts = tab 8 (at (counts_of w)); n = length (m job) }
  -- "byte number r of the marks says of the cut with rank r: .."; "Bytes from the box on are unchanged"
  pub marks_say : (c : List ℕ) → Within (m job) c → Says (L job) c (at marks' (rank (m job) c))
  pub marks_rest : drop (box (m job)) marks' ≡ drop (box (m job)) marks
  pub marks_length : length marks' ≡ length marks
  -- "The path room holds T station numbers and is otherwise unchanged; if Def is yes all of it is unchanged"
  pub path_stations : v.def ≡ false → (i : ℕ) → i < total (m job) → 0 < at path' i
  pub path_rest : drop (total (m job)) path' ≡ drop (total (m job)) path
  pub path_length : length path' ≡ length path
  pub path_kept : v.def ≡ true → path' ≡ path

-- the promise: a refusal and nothing changed, or the verdicts
pub data Judged (job marks path : List ℕ) : Result marked.Verdicts Refusal → List ℕ → List ℕ → Type 0 where
  refused : {x : Refusal} → checked_job job (length marks) (length path) ≡ Err x → Judged job marks path (Err x) marks path
  accepted : {v : marked.Verdicts} {marks' path' : List ℕ} → checked_job job (length marks) (length path) ≡ Ok tt
      → Verdicts job marks path v marks' path' → Judged job marks path (Ok v) marks' path'
