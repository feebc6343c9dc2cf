-- The text printed of what `judge` promises is the text of the job's reply. In order: the lines of two verdicts; T as the code has it; what a
-- refused and an accepted reply tell of the job. Assumes nothing.
use mathlib.Core.Path.{◌≡◌, refl, sym, ap, ap₂, subst, ◌∙◌}
use mathlib.Core.Bool.{Bool, true, false, cond}
use Rattle.std.specs.Prelude.{Result, Ok, Err, Some, None, option_map}
use Rattle.std.specs.Prelude as rust
use mathlib.Core.Option.{none, some}
use mathlib.Core.List.{List, [], ◌∷◌, ◌++◌, map}
use Prim.Native.Nat.{ℕ, suc, pred, ◌≤◌, ◌<◌}
use native.Mathlib.Nat.{suc-pred-eq_of_pos}
use native.Mathlib.Omega.{arith}
use lib.ListN.{length, take, replicate, length-take, length-replicate}
use lib.Seq.{get_or-take}
use Rattle.cuts.specs.Cut.{at, total}
use Rattle.cuts.specs.Computed.{poss_of, def_of}
use Rattle.cut.specs.Value.{counts_of, events_of}
use Rattle.cut.specs.declared.Cut.{Cut}
use Rattle.cuts.proofs.VerdictRight.{poss_right, poss_unique, def_right, def_unique}
use Rattle.recording.specs.Form.{lead8, width8}
use Rattle.recording.specs.Check.{checked_of}
use Rattle.refusal.specs.Refusal.{Checked, number_of, at_whole}
use Rattle.refusal.specs.declared.Refusal.{Refusal}
use Rattle.recording.specs.Decode.{full_of}
use Rattle.recording.proofs.CheckLaws.{or_else-accepted, at_whole-accepted}
use Rattle.condition.specs.Condition.{refused_of}
use Rattle.condition.proofs.ConditionRight.{refused_0}
use Rattle.text.specs.Text.{refused_text, poss_text, def_text, verdict_text}
use Rattle.engine.specs.Job.{part_of, m, L, checked_job, counts_in, poss_in, def_in, Verdicts, Judged, refused, accepted}
use Rattle.reply.specs.Answer.{poss_line, def_line, text_of}
use Rattle.reply.specs.Told.{events_in, path_in, Tells}
use Rattle.marks.specs.declared.Verdicts as marked
use Rattle.engine.proofs.FullLaws.{total_full, total_le}
use Rattle.engine.proofs.JudgeRight.{recording_accepted}

abbrev Verdict : Type 0
Verdict = marked.Verdicts

abbrev Reply : Type 0
Reply = Result Verdict Refusal

-- the line of "poss", by a witness
poss_line_lem : (w : rust.Option Cut) → poss_text (option_map counts_of w) ≡ poss_line (counts_in w)
poss_line_lem None = refl
poss_line_lem (Some w) = refl

-- the line of "def", by a flag and station numbers
def_line_lem : (b : Bool) (l : List ℕ) → (b ≡ false → map suc (map pred l) ≡ l) → def_text (cond b None (Some l)) ≡ def_line (cond b none (some (map pred l)))
def_line_lem true l h = refl
def_line_lem false l h = rw (h refl) refl

-- numbers that are not 0
suc_pred : (l : List ℕ) → ((i : ℕ) → i < length l → 0 < at l i) → map suc (map pred l) ≡ l
suc_pred [] h = refl
suc_pred (x ∷ l) h = ap₂ (λ (y : ℕ) (r : List ℕ). y ∷ r) (suc-pred-eq_of_pos (h 0 (omega arith))) (suc_pred l (λ i k. h (suc i) (omega arith)))

-- T as the code has it
pub events_is : (job s : List ℕ) (full : Cut) (t : ℕ) → s ≡ part_of job → full ≡ full_of lead8 width8 s → t ≡ events_of full → t ≡ events_in job
unfolding events_in
events_is job s full t e f h = rw (f, e) at h

module _ (job marks path : List ℕ) (r : Reply) (marks' path' : List ℕ) (long : length marks ≡ 65536) (long' : length path ≡ 4088) (judged : Judged job marks path r marks' path') where
  checks : (v : Checked) → checked_job job (length marks) (length path) ≡ v → checked_job job 65536 4088 ≡ v
  checks v e = rw (long, long') at e

  -- refused: the job is
  refused_text_lem : (x : Refusal) → r ≡ Err x → refused_text (number_of x.reason) x.station x.event ≡ text_of job
  unfolding text_of
  refused_text_lem x a = go r marks' path' judged a
    where
      go : (r : Reply) (marks' path' : List ℕ) → Judged job marks path r marks' path' → r ≡ Err x → refused_text (number_of x.reason) x.station x.event ≡ text_of job
      go _ _ _ (refused {x = y} e) a = let z : y ≡ x = cc in sym (rw (checks _ e, z) refl)
      go _ _ _ (accepted e v) a = let z : ◌≡◌ {A = ℕ} 0 1 = cc in absurd (omega arith)

  module _ (v : Verdict) (a : r ≡ Ok v) where
    given : (checked_job job 65536 4088 ≡ Ok tt) × Verdicts job marks path v marks' path'
    given = go r marks' path' judged a
      where
        go : (r : Reply) (marks' path' : List ℕ) → Judged job marks path r marks' path' → r ≡ Ok v → (checked_job job 65536 4088 ≡ Ok tt) × Verdicts job marks path v marks' path'
        go _ _ _ (refused e) a = let z : ◌≡◌ {A = ℕ} 0 1 = cc in absurd (omega arith)
        go _ a' b' (accepted {v = u} e w) a = let z : u ≡ v = cc in (checks _ e, subst (λ k. Verdicts job marks path k a' b') z w)

    -- accepted: there is a recording, and it is accepted
    answer_long : 38 ≤ length job
    unfolding checked_job
    answer_long = ((refused_0 job).0 (at_whole-accepted _ (or_else-accepted (at_whole (refused_of job)) _ given.0).0)).0

    answer_accepts : checked_of lead8 width8 (part_of job) ≡ Ok tt
    answer_accepts = recording_accepted job 65536 4088 given.0

    -- T, within the room of the path
    answer_total : events_in job ≡ total (m job)
    unfolding events_in
    answer_total = total_full (part_of job) _ answer_accepts refl

    answer_room : events_in job ≤ length path'
    answer_room = omega (arith, answer_total, given.1.path_length, long', total_le (part_of job) _ answer_accepts refl)

    accepted_text : verdict_text (option_map counts_of v.witness) (path_in job v path') ≡ text_of job
    unfolding text_of verdict_text
    accepted_text =
        let w = given.1 in
        let t = events_in job in
        let ep : poss_in v ≡ poss_of (L job) = poss_unique (L job) _ _ w.poss_is (poss_right (L job)) in
        let ed : def_in (total (m job)) v path' ≡ def_of (L job) = def_unique (L job) _ _ w.def_is (def_right (L job)) in
        let k : (v.def ≡ false → map suc (map pred (take t path')) ≡ take t path') =
        λ d. suc_pred (take t path') (λ i h. rw (get_or-take t path' i 0 (omega (arith, length-take t path'))) (w.path_stations d i (omega (arith, answer_total, length-take t path')))) in
        ap₂ (λ (x y : List ℕ). x ++ y) (poss_line_lem v.witness) (def_line_lem v.def (take t path') k) ∙ rw (given.0, ← ep, ← ed, answer_total) refl

  tells_long : Tells job r path'
  tells_long = record { refused = refused_text_lem; long = answer_long; holds = answer_room; accepted = accepted_text }

-- what `print` asks, of a reply in the program's rooms
pub tells : (job marks path : List ℕ) (r : Reply) (marks' path' : List ℕ) → marks ≡ replicate 65536 0 → path ≡ replicate 4088 0 → Judged job marks path r marks' path' → Tells job r path'
tells job marks path r marks' path' em ep = tells_long job marks path r marks' path' (ap length em ∙ length-replicate {A = ℕ} 65536 0) (ap length ep ∙ length-replicate {A = ℕ} 4088 0)
