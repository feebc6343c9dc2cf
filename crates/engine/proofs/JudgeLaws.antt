-- The ways out of `judge` and of what it calls, one law for each. In order: the part of a job that is its recording; its tables; refused by the recording;
-- by the rooms; settled; refused by the condition; judged. Assumes nothing.
use mathlib.Core.Path.{◌≡◌, refl, sym, ap, ◌∙◌}
use mathlib.Core.Bool.{Bool, true, false}
use mathlib.Core.List.{List}
use Prim.Native.Nat.{ℕ, ◌-◌, ◌≤◌}
use native.Mathlib.Omega.{arith}
use lib.ListN.{length, take, drop, replicate, length-drop, length-replicate}
use lib.Seq.{take_all}
use Rattle.cuts.specs.Cut.{total}
use Rattle.cuts.specs.Rank.{box}
use Rattle.cut.specs.Value.{box_of, events_of}
use Rattle.cut.specs.declared.Cut.{Cut}
use Rattle.recording.specs.Recording as recorded
use Rattle.recording.specs.Form.{recording_of, lead8, width8}
use Rattle.recording.specs.Check.{fault_of, checked_of}
use Rattle.recording.specs.Decode.{full_of}
use Rattle.recording.specs.Decoded.{decoded_by, Decodes}
use Rattle.refusal.specs.declared.Refusal.{Refusal}
use Rattle.std.specs.Prelude.{Result, Ok, Err}
use Rattle.refusal.specs.Refusal.{Tested, Checked, whole, at_whole}
use Rattle.refusal.specs.declared.Reason.{Reason}
use Rattle.recording.specs.declared.DecodeError.{DecodeError}
use Rattle.recording.proofs.CheckLaws.{at_whole-accepted, or_else-accepted}
use Rattle.condition.specs.Condition.{condition_of, refused_of, read_of}
use Rattle.condition.specs.declared.Condition.{Condition}
use Rattle.condition.proofs.ConditionRight.{read_refused, refused_0}
use Rattle.condition.proofs.FieldLaws.{read_of-good}
use Rattle.engine.specs.Job.{part_of, C, checked_job, room_tests, Judged, refused, accepted}
use Rattle.engine.specs.Computed.{Settled, Laid, Computed, Answered, unfit, fit, checked_part}
use Rattle.marks.specs.declared.Verdicts as marked
use Rattle.engine.proofs.FullLaws.{stations_full, total_full, box_full, stamps_there, levels_there}
use Rattle.engine.proofs.JudgeRight.{computed_judged}
use Rattle.engine.proofs.RoomLaws.{no_fault, fault_ceiling}

abbrev Verdict : Type 0
Verdict = marked.Verdicts

abbrev counts : List ℕ → List ℕ
counts s = recorded.counts_of (recording_of lead8 width8 s)

abbrev Decoding : Type 0
Decoding = Result (Unit {0}) DecodeError

-- the recording's bytes as the code has them
pub part_is : (job : List ℕ) → take (length job - 38) (drop 38 job) ≡ part_of job
unfolding part_of
part_is job = take_all (length job - 38) (drop 38 job) (omega (arith, length-drop 38 job))

-- what a decoding into rooms that suffice gives: the tables of a recording that is accepted, or its refusal
module _ (s stamps levels stamps' levels' : List ℕ) (d : Decoding) (decodes : Decodes lead8 width8 s stamps levels d stamps' levels') (es : stamps ≡ replicate 32704 0) (el : levels ≡ replicate 4088 0) where
  long : length stamps ≡ 32704
  long = ap length es ∙ length-replicate {A = ℕ} 32704 0

  long' : length levels ≡ 4088
  long' = ap length el ∙ length-replicate {A = ℕ} 4088 0

  fits : checked_of lead8 width8 s ≡ Ok tt → d ≡ Ok tt
  fits ok = decodes.answer ∙ rw (ok, long, long', stamps_there s (full_of lead8 width8 s) ok refl, levels_there s (full_of lead8 width8 s) ok refl) refl

  pub decoded : d ≡ Ok tt → Laid s stamps' levels'
  decoded e = record { accepts = ok; stamps_are = decodes.stamps_after ∙ rw (e, es) refl; levels_are = decodes.levels_after ∙ rw (e, el) refl }
    where
      go : (v : Checked) (fits : Bool) → Ok tt ≡ decoded_by v fits → v ≡ Ok tt
      go (Ok u) fits h = refl
      go (Err x) fits h = let z : ◌≡◌ {A = ℕ} 0 1 = cc in absurd (omega arith)

      ok : checked_of lead8 width8 s ≡ Ok tt
      ok = go _ _ (sym e ∙ decodes.answer)

  pub decoded_refused : (x : Refusal) → d ≡ Err (DecodeError.Refused x) → checked_of lead8 width8 s ≡ Err x
  decoded_refused x e = go _ _ (sym e ∙ decodes.answer)
    where
      go : (v : Checked) (fits : Bool) → Err (DecodeError.Refused x) ≡ decoded_by v fits → v ≡ Err x
      go (Ok u) true h = let z : ◌≡◌ {A = ℕ} 0 1 = cc in absurd (omega arith)
      go (Ok u) false h = let z : ◌≡◌ {A = ℕ} 0 1 = cc in absurd (omega arith)
      go (Err y) fits h = let z : y ≡ x = cc in ap Err z

  pub decoded_short : d ≡ Err DecodeError.Short → ⊥
  decoded_short e = go (checked_of lead8 width8 s) refl
    where
      go : (v : Checked) → checked_of lead8 width8 s ≡ v → ⊥
      go (Ok u) h = let f = fits h in let z : ◌≡◌ {A = ℕ} 0 1 = cc in absurd (omega arith)
      go (Err x) h = let f = sym e ∙ decodes.answer in let g = rw h at f in let z : ◌≡◌ {A = ℕ} 0 1 = cc in absurd (omega arith)

module _ (c : Condition) (s marks path : List ℕ) where
  -- the recording's own refusals
  pub refused_recording : (x : Refusal) → checked_of lead8 width8 s ≡ Err x → Answered c s marks path (Err x) marks path
  unfolding checked_part
  refused_recording x e = unfit (rw e refl)

  module _ (stamps levels : List ℕ) (z : Laid s stamps levels) (full : Cut) (full_is : full ≡ full_of lead8 width8 s) (k : Tested)
      (k-is : k ≡ fault_of (room_tests c full.n (box_of full) (events_of full) (length marks) (length path))) where
    fault_is : k ≡ fault_of (room_tests c (length (counts s)) (box (counts s)) (total (counts s)) (length marks) (length path))
    fault_is =
        rw (box_full s full z.accepts full_is, total_full s full z.accepts full_is, ← stations_full s full z.accepts full_is) at k-is
        ∙ fault_ceiling _ _ _ _ _ _

    checked_is : checked_part c s (length marks) (length path) ≡ at_whole k
    unfolding checked_part
    checked_is = rw (z.accepts, ← fault_is) refl

    -- 9 to 12
    pub refused_room : (x : Reason) → k ≡ Err x → Answered c s marks path (Err (whole x)) marks path
    unfolding at_whole
    refused_room x h = unfit (checked_is ∙ rw h refl)

    -- no refusal: what can be settled, and the reply
    pub settled : k ≡ Ok tt → Settled c s full stamps levels (length marks) (length path)
    settled h =
        let suffices = no_fault _ _ _ _ _ _ (sym fault_is ∙ h) in
        record {
          accepts = z.accepts;
          full_is = full_is;
          stamps_are = z.stamps_are;
          levels_are = z.levels_are;
          asked = suffices.asked;
          limit = suffices.small;
          marks_fit = suffices.fits;
          path_fit = suffices.holds;
        }

    pub answered : (v : Verdict) (marks' path' : List ℕ) → k ≡ Ok tt → Computed c s marks path v marks' path' → Answered c s marks path (Ok v) marks' path'
    unfolding at_whole
    answered v marks' path' h = fit (checked_is ∙ rw h refl)

-- 1 or 8
pub refused_condition : (job marks path : List ℕ) (x : Reason) → read_of job ≡ Err x → Judged job marks path (Err (whole x)) marks path
unfolding checked_job at_whole
refused_condition job marks path x e = refused (rw (← read_refused job, e) refl)

module _ (job : List ℕ) (condition : Condition) (read_is : read_of job ≡ Ok condition) where
  unrefused : refused_of job ≡ Ok tt
  unrefused = rw read_is at (sym (read_refused job))

  -- a part begins at byte 38
  pub job_long : 38 ≤ length job
  job_long = ((refused_0 job).0 unrefused).0

  condition_is : condition ≡ condition_of job
  condition_is = let e = sym read_is ∙ read_of-good job unrefused in cc

  -- the recording's reply is the job's
  pub judged : (s marks path : List ℕ) (r : Result Verdict Refusal) (marks' path' : List ℕ) → s ≡ part_of job → Answered condition s marks path r marks' path' → Judged job marks path r marks' path'
  unfolding checked_job checked_part at_whole
  judged s marks path r marks' path' s-is a = go (rw (condition_is, s-is) at a)
    where
      go : {r : Result Verdict Refusal} {marks' path' : List ℕ} → Answered (C job) (part_of job) marks path r marks' path' → Judged job marks path r marks' path'
      go (unfit h) = refused (rw unrefused h)
      go {marks' = marks'} {path' = path'} (fit {v = v} h z) =
          let (x, y) = or_else-accepted _ _ h in
          let suffices = no_fault _ _ _ _ _ _ (at_whole-accepted _ y) in
          accepted (rw unrefused h) (computed_judged job marks path marks' path' v x suffices.fits suffices.holds z)
