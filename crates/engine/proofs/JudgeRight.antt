-- The promise of `judge` is kept by what is computed (`computed_verdicts`), and permits one reply with one pair of rooms only (`judged_unique`).
-- In order: what acceptance gives; computed is promised; one reply. Assumes nothing.
use mathlib.Core.Path.{◌≡◌, refl, sym, ap, ap₂, ◌∙◌}
use mathlib.Core.Bool.{Bool, true, false, cond, false≢true}
use mathlib.Core.Option.{Option, none, some}
use mathlib.Core.List.{List, [], ◌∷◌, ◌++◌, map}
use Prim.Native.Nat.{ℕ, zero, suc, pred, ◌+◌, ◌-◌, ◌≤◌, ◌<◌}
use native.Mathlib.Nat.{suc-pred-eq_of_pos}
use native.Mathlib.Decide.{dec_lt}
use native.Mathlib.Omega.{arith}
use lib.ListN.{length, take, drop, get_or-append, length-append, length-drop, length-take, length-map}
use lib.Seq.{ext_get_or, get_or-take, get_or-drop, take_at, drop_at}
use Rattle.cuts.specs.Below.{tab}
use Rattle.cuts.specs.Cut.{at, total, Within}
use Rattle.cuts.specs.Rank.{rank, box, unrank}
use Rattle.cuts.specs.Verdict.{Says, PossIs, DefIs}
use Rattle.cuts.specs.Computed.{mark_of, table, poss_of, def_of}
use Rattle.cuts.specs.Trace.{Formed, Stamped}
use Rattle.cut.specs.Value.{counts_of}
use Rattle.cut.specs.declared.Cut.{Cut}
use Rattle.cuts.proofs.BelowLaws.{length_tab, get_d-tab}
use Rattle.cuts.proofs.CutLaws.{within_length}
use Rattle.cuts.proofs.RankLaws.{rank_lt, rank_unrank, unrank_within}
use Rattle.cuts.proofs.TabledRight.{length_tabled}
use Rattle.cuts.proofs.MarksRight.{table_says, says_unique}
use Rattle.cuts.proofs.VerdictRight.{poss_right, poss_unique, def_right, def_unique}
use Rattle.cuts.proofs.DemandRight.{by_orders}
use Rattle.recording.specs.Recording.{messages, stamps, levels}
use Rattle.recording.specs.Form.{lead8, width8}
use Rattle.recording.specs.Check.{checked_records, checked_of}
use Rattle.refusal.specs.declared.Refusal.{Refusal}
use Rattle.std.specs.Prelude.{Result, Ok, Err, Some, None}
use Rattle.std.specs.Prelude as rust
use Rattle.refusal.specs.Refusal.{Checked, at_whole}
use Rattle.recording.proofs.CheckLaws.{or_else-accepted}
use Rattle.recording.proofs.CheckRight.{scan_formed, scan_stamped}
use Rattle.recording.proofs.AcceptedRight.{accepted_accepts}
use Rattle.recording.proofs.FormLaws.{stations_read}
use Rattle.condition.specs.Condition.{refused_of, holds_of}
use Rattle.engine.specs.Job.{part_of, R, C, m, L, checked_job, counts_in, poss_in, def_in, Verdicts, Judged, refused, accepted}
use Rattle.marks.proofs.FlatRight.{def_length}
use Rattle.engine.specs.Computed.{Computed, reply_of, path_then}
use Rattle.marks.specs.declared.Verdicts as marked
use Rattle.marks.specs.Flat.{cut_of_counts}

abbrev Verdict : Type 0
Verdict = marked.Verdicts

-- accepted is not refused
pub accepted_not : {x : Refusal} → ◌≡◌ {A = Checked} (Ok tt) (Err x) → ⊥
accepted_not e = let z : ◌≡◌ {A = ℕ} 0 1 = cc in absurd (omega arith)

module _ (job : List ℕ) where
  -- an accepted job's recording is accepted
  pub recording_accepted : (marks path : ℕ) → checked_job job marks path ≡ Ok tt → checked_of lead8 width8 (part_of job) ≡ Ok tt
  unfolding checked_job
  recording_accepted marks path h =
      let (a, b) = or_else-accepted (at_whole (refused_of job)) _ h in
      (or_else-accepted (checked_of lead8 width8 (part_of job)) _ b).0

  -- so its records are formed and stamped
  pub job_formed : checked_of lead8 width8 (part_of job) ≡ Ok tt → Formed (messages (R job)) × Stamped (messages (R job)) (stamps (R job))
  unfolding checked_records
  job_formed h =
      let a = (accepted_accepts lead8 width8 (part_of job) h).records in
      (scan_formed (messages (R job)) (stamps (R job)) a, scan_stamped (messages (R job)) (stamps (R job)) (λ p q. refl) a)

  length_table : length (table (L job)) ≡ box (m job)
  length_table = length_tabled (mark_of (L job)) (m job) (box (m job))

  -- what is computed meets the promise
  pub computed_verdicts : (marks path marks' path' : List ℕ) (r : Verdict) → checked_of lead8 width8 (part_of job) ≡ Ok tt
      → poss_in r ≡ poss_of (L job) → def_in (total (m job)) r path' ≡ def_of (L job)
      → ((w : Cut) → r.witness ≡ Some w → w ≡ record { counts = tab 8 (at (counts_of w)); n = length (m job) })
      → marks' ≡ table (L job) ++ drop (box (m job)) marks → box (m job) ≤ length marks
      → (r.def ≡ false → (i : ℕ) → i < total (m job) → 0 < at path' i) → drop (total (m job)) path' ≡ drop (total (m job)) path → length path' ≡ length path
      → (r.def ≡ true → path' ≡ path) → Verdicts job marks path r marks' path'
  computed_verdicts marks path marks' path' r h ep ed ew em room stations rest len kept = record {
    poss_is = poss;
    def_is = def;
    orders = let (f, t) = job_formed h in by_orders (messages (R job)) (stamps (R job)) f t (levels (R job)) (holds_of (C job)) (poss_in r) (def_in (total (m job)) r path') poss def;
    witness_is = ew;
    marks_say = says;
    marks_rest = ap (drop (box (m job))) em ∙ drop_at (table (L job)) (drop (box (m job)) marks) (box (m job)) length_table;
    marks_length = ap length em ∙ length-append (table (L job)) _ ∙ omega (arith, length_table, length-drop (box (m job)) marks);
    path_stations = stations;
    path_rest = rest;
    path_length = len;
    path_kept = kept;
  }
    where
      poss : PossIs (L job) (poss_in r)
      poss = rw ep (poss_right (L job))

      def : DefIs (L job) (def_in (total (m job)) r path')
      def = rw ed (def_right (L job))

      says : (c : List ℕ) → Within (m job) c → Says (L job) c (at marks' (rank (m job) c))
      says c w = rw (em, get_or-append (table (L job)) (drop (box (m job)) marks) 0 (rank (m job) c) (omega (arith, length_table, rank_lt (m job) c w))) (table_says (L job) c w)

-- counts padded to eight and taken back
padded_back : (n : ℕ) (c : List ℕ) → length c ≡ n → n ≤ 8 → take n (tab 8 (at c)) ≡ c
padded_back n c l h =
    let k : length (take n (tab 8 (at c))) ≡ n = simp (length-take, length_tab) (omega arith) in
    ext_get_or 0 (take n (tab 8 (at c))) c (k ∙ sym l) (λ i j. get_or-take n (tab 8 (at c)) i 0 (omega arith) ∙ get_d-tab 8 (at c) 0 i (omega arith))

pred_suc : (l : List ℕ) → map pred (map suc l) ≡ l
pred_suc [] = refl
pred_suc (x ∷ l) = ap (λ (r : List ℕ). x ∷ r) (pred_suc l)

at_map_suc : (l : List ℕ) (i : ℕ) → i < length l → 0 < at (map suc l) i
at_map_suc [] i h = absurd (omega arith)
at_map_suc (x ∷ l) zero h = omega arith
at_map_suc (x ∷ l) (suc i) h = at_map_suc l i (omega arith)

-- a reply made of two verdicts says them: of n stations and t events
module _ (n t : ℕ) (n_most : n ≤ 8) where
  said_poss : (poss def : Option (List ℕ)) → ((c : List ℕ) → poss ≡ some c → length c ≡ n) → poss_in (reply_of n poss def) ≡ poss
  said_poss none def h = refl
  said_poss (some c) def h = ap some (padded_back n c (h c refl) n_most)

  said_witness : (poss def : Option (List ℕ)) → ((c : List ℕ) → poss ≡ some c → length c ≡ n)
      → (w : Cut) → (reply_of n poss def).witness ≡ Some w → w ≡ record { counts = tab 8 (at (counts_of w)); n = n }
  said_witness none def h w e = let z : ◌≡◌ {A = ℕ} 0 1 = cc in absurd (omega arith)
  said_witness (some c) def h w e =
      let z : w ≡ cut_of_counts n c = cc in
      rw z (ap (λ (k : List ℕ). record { counts = tab 8 (at k); n = n }) (sym (padded_back n c (h c refl) n_most)))

  said_def : (poss def : Option (List ℕ)) (path : List ℕ) → ((p : List ℕ) → def ≡ some p → length p ≡ t) → def_in t (reply_of n poss def) (path_then t def path) ≡ def
  said_def poss none path h = refl
  said_def poss (some p) path h = ap some (ap (map pred) (take_at (map suc p) (drop t path) t (length-map p suc ∙ h p refl)) ∙ pred_suc p)

  said_stations : (poss def : Option (List ℕ)) (path : List ℕ) → ((p : List ℕ) → def ≡ some p → length p ≡ t) → (reply_of n poss def).def ≡ false
      → (i : ℕ) → i < t → 0 < at (path_then t def path) i
  said_stations poss none path h e i l = absurd (false≢true (sym e))
  said_stations poss (some p) path h e i l =
      let k : i < length p = omega (arith, h p refl) in
      rw (get_or-append (map suc p) (drop t path) 0 i (omega (arith, length-map p suc))) (at_map_suc p i k)

  said_rest : (def : Option (List ℕ)) (path : List ℕ) → ((p : List ℕ) → def ≡ some p → length p ≡ t) → drop t (path_then t def path) ≡ drop t path
  said_rest none path h = refl
  said_rest (some p) path h = drop_at (map suc p) (drop t path) t (length-map p suc ∙ h p refl)

  said_length : (def : Option (List ℕ)) (path : List ℕ) → ((p : List ℕ) → def ≡ some p → length p ≡ t) → t ≤ length path → length (path_then t def path) ≡ length path
  said_length none path h l = refl
  said_length (some p) path h l = length-append (map suc p) (drop t path) ∙ omega (arith, length-map p suc, h p refl, length-drop t path)

  said_kept : (poss def : Option (List ℕ)) (path : List ℕ) → (reply_of n poss def).def ≡ true → path_then t def path ≡ path
  said_kept poss none path e = refl
  said_kept poss (some p) path e = absurd (false≢true e)

-- what is computed of an accepted job whose rooms suffice are its verdicts
pub computed_judged : (job marks path marks' path' : List ℕ) (r : Verdict) → checked_of lead8 width8 (part_of job) ≡ Ok tt → box (m job) ≤ length marks → total (m job) ≤ length path
    → Computed (C job) (part_of job) marks path r marks' path' → Verdicts job marks path r marks' path'
computed_judged job marks path marks' path' r h room room' z =
    rw (z.reply, z.path_after)
    (computed_verdicts job marks (path) marks' (path_then t def path) (reply_of n poss def) h (said_poss n t most poss def counted) (said_def n t most poss def path stepped) (said_witness n t most poss def counted) z.marks_after room (said_stations n t most poss def path stepped) (said_rest n t most def path stepped) (said_length n t most def path stepped room') (said_kept n t most poss def path))
  where
    n : ℕ
    n = length (m job)

    t : ℕ
    t = total (m job)

    poss : Option (List ℕ)
    poss = poss_of (L job)

    def : Option (List ℕ)
    def = def_of (L job)

    most : n ≤ 8
    most = omega (arith, stations_read lead8 width8 (part_of job), (accepted_accepts lead8 width8 (part_of job) h).n_most)

    counted : (c : List ℕ) → poss ≡ some c → length c ≡ n
    counted c e = let w : PossIs (L job) (some c) = rw e at (poss_right (L job)) in within_length (m job) c w.within

    stepped : (p : List ℕ) → def ≡ some p → length p ≡ t
    stepped p e = def_length (L job) p e

-- two options made by a flag
none_flag : {A : Type 0} (b b' : Bool) (x x' : A) → cond b none (some x) ≡ cond b' none (some x') → (b ≡ b') × (b ≡ false → x ≡ x')
none_flag true true x x' e = (refl, λ h. absurd (false≢true (sym h)))
none_flag true false x x' e = let z : ◌≡◌ {A = ℕ} 0 1 = cc in absurd (omega arith)
none_flag false true x x' e = let z : ◌≡◌ {A = ℕ} 0 1 = cc in absurd (omega arith)
none_flag false false x x' e = (refl, λ h. cc)

-- lists that agree up to t and from t on are equal
front_and_rest : (t : ℕ) (a b : List ℕ) → length a ≡ length b → ((i : ℕ) → i < t → i < length a → at a i ≡ at b i) → drop t a ≡ drop t b → a ≡ b
front_and_rest t a b len front rest = ext_get_or 0 a b len (λ i h. go i h (dec_lt i t))
  where
    go : (i : ℕ) → i < length a → Dec (i < t) → at a i ≡ at b i
    go i h (yes l) = front i l h
    go i h (no l) =
        let e : t + (i - t) ≡ i = omega arith in
        rw e at (sym (get_or-drop t a (i - t) 0) ∙ ap (λ (d : List ℕ). at d (i - t)) rest ∙ get_or-drop t b (i - t) 0)

at_map_pred : (l : List ℕ) (i : ℕ) → at (map pred l) i ≡ pred (at l i)
at_map_pred [] i = refl
at_map_pred (x ∷ l) zero = refl
at_map_pred (x ∷ l) (suc i) = at_map_pred l i

module _ (job marks path : List ℕ) (r r' : Verdict) (a b a' b' : List ℕ) (v : Verdicts job marks path r a b) (v' : Verdicts job marks path r' a' b') where
  abbrev t : ℕ
  t = total (m job)

  same_witness : r.witness ≡ r'.witness
  same_witness = go r.witness r'.witness refl refl (poss_unique (L job) _ _ v.poss_is v'.poss_is)
    where
      padded : List ℕ → Cut
      padded c = record { counts = tab 8 (at c); n = length (m job) }

      go : (x x' : rust.Option Cut) → r.witness ≡ x → r'.witness ≡ x' → counts_in x ≡ counts_in x' → x ≡ x'
      go None None e e' h = refl
      go None (Some w) e e' h = let z : ◌≡◌ {A = ℕ} 0 1 = cc in absurd (omega arith)
      go (Some w) None e e' h = let z : ◌≡◌ {A = ℕ} 0 1 = cc in absurd (omega arith)
      go (Some w) (Some w') e e' h =
          let z : counts_of w ≡ counts_of w' = cc in
          ap Some (v.witness_is w e ∙ ap padded z ∙ sym (v'.witness_is w' e'))

  same_def : (r.def ≡ r'.def) × (r.def ≡ false → map pred (take t b) ≡ map pred (take t b'))
  same_def = none_flag r.def r'.def _ _ (def_unique (L job) _ _ v.def_is v'.def_is)

  same_verdicts : r ≡ r'
  same_verdicts = ap₂ {C = Verdict} (λ x y. record { witness = x; def = y }) same_witness same_def.0

  same_marks : a ≡ a'
  same_marks = front_and_rest (box (m job)) a a' (v.marks_length ∙ sym v'.marks_length) (λ i l h. mark i l) (v.marks_rest ∙ sym v'.marks_rest)
    where
      mark : (i : ℕ) → i < box (m job) → at a i ≡ at a' i
      mark i l =
          let c = unrank (m job) i in
          let w = unrank_within (m job) i l in
          rw (rank_unrank (m job) i l) at (says_unique (L job) c w _ (v.marks_say c w) ∙ sym (says_unique (L job) c w _ (v'.marks_say c w)))

  same_path : b ≡ b'
  same_path = go r.def refl
    where
      step : r.def ≡ false → (i : ℕ) → i < t → at b i ≡ at b' i
      step d i l =
          let e : pred (at b i) ≡ pred (at b' i) =
          ap pred (sym (get_or-take t b i 0 l)) ∙ sym (at_map_pred (take t b) i) ∙ ap (λ (k : List ℕ). at k i) (same_def.1 d) ∙ at_map_pred (take t b') i ∙ ap pred (get_or-take t b' i 0 l)
          in
          sym (suc-pred-eq_of_pos (v.path_stations d i l)) ∙ ap suc e ∙ suc-pred-eq_of_pos (v'.path_stations (sym same_def.0 ∙ d) i l)

      go : (f : Bool) → r.def ≡ f → b ≡ b'
      go true d = v.path_kept d ∙ sym (v'.path_kept (sym same_def.0 ∙ d))
      go false d = front_and_rest t b b' (v.path_length ∙ sym v'.path_length) (λ i l h. step d i l) (v.path_rest ∙ sym v'.path_rest)

-- two permitted replies, with their rooms, are equal
pub judged_unique : (job marks path : List ℕ) (r r' : Result Verdict Refusal) (a b a' b' : List ℕ) → Judged job marks path r a b → Judged job marks path r' a' b' → (r ≡ r') × (a ≡ a') × (b ≡ b')
judged_unique job marks path r r' a b a' b' (refused {x = x} e) (refused {x = y} e') =
    let z : x ≡ y = cc in
    (ap Err z, refl, refl)
judged_unique job marks path r r' a b a' b' (refused e) (accepted e' v) = absurd (accepted_not (sym e' ∙ e))
judged_unique job marks path r r' a b a' b' (accepted e v) (refused e') = absurd (accepted_not (sym e ∙ e'))
judged_unique job marks path r r' a b a' b' (accepted {v = x} e v) (accepted {v = y} e' v') = (
  ap Ok (same_verdicts job marks path x y a b a' b' v v'),
  same_marks job marks path x y a b a' b' v v',
  same_path job marks path x y a b a' b' v v',
)
