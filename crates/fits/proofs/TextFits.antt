-- The text of the reply to any job has at most 4,140 bytes: a witness has at most eight counts of at most 255, a path at most 2,040 stations of one digit.
-- In order: bounds of all numbers of a list; a walk and a witness; an accepted recording; a refusal; the text. Assumes nothing.
use mathlib.Core.Path.{◌≡◌, refl, ap, ◌∙◌}
use Rattle.std.specs.Prelude.{Ok, Err, Some, None, unwrap_or}
use Rattle.std.specs.Prelude as rust
use mathlib.Core.Bool.{Bool, true, false, cond}
use mathlib.Core.Option.{Option, none, some}
use mathlib.Core.List.{List, [], ◌∷◌, ◌++◌, map, reverse, reverse_aux}
use Prim.Native.Nat.{ℕ, zero, suc, ◌+◌, ◌*◌, ◌/◌, ◌%◌, ◌≤◌, ◌<◌}
use native.Mathlib.Nat.{le_trans}
use native.Mathlib.Decide.{dec_lt}
use native.Mathlib.Omega.{arith}
use lib.Dec.{eqb, ltb}
use lib.ListN.{length, length-append, length-reverse, length-map, get_or-eq_default}
use borrow.Author.Tests.{ltb-true}
use Rattle.bits.proofs.BitsLaws.{field_lt}
use Rattle.cuts.specs.Below.{first, tab}
use Rattle.cuts.specs.Cut.{at, back, total, Within}
use Rattle.cuts.specs.Rank.{box, unrank}
use Rattle.cuts.specs.Verdict.{Lattice}
use Rattle.cuts.specs.Computed.{leads, is_one, looked, walk, poss_of, def_of}
use Rattle.cuts.proofs.BelowLaws.{first_is, length_tab, get_d-tab}
use Rattle.cuts.proofs.CutLaws.{within_length, within_at}
use Rattle.cuts.proofs.RankLaws.{unrank_within}
use Rattle.recording.specs.Form.{m_at, n_at, lead8, width8, station_bit}
use Rattle.recording.specs.Check.{checked_of}
use Rattle.refusal.specs.Refusal.{number_of, Checked}
use Rattle.recording.proofs.FormLaws.{counts_read, stations_read}
use Rattle.recording.proofs.AcceptedRight.{accepted_accepts}
use Rattle.text.specs.Text.{decimal_to, numbers, refused_text, verdict_text}
use Rattle.text.proofs.LineLaws.{length_refused}
use Rattle.text.proofs.TextRight.{text_bound}
use Rattle.engine.specs.Job.{part_of, m, L, checked_job}
use Rattle.reply.specs.Answer.{marks_room, path_room, poss_line, def_line, text_by, text_of}
use Rattle.engine.specs.Computed.{evidence}
use Rattle.engine.proofs.JudgeRight.{recording_accepted}

-- no number of a list is above b
abbrev Most : ℕ → List ℕ → Type 0
Most b l = (i : ℕ) → at l i ≤ b

most_none : (b : ℕ) → Most b []
most_none b i = omega arith

most_cons : (b x : ℕ) (l : List ℕ) → x ≤ b → Most b l → Most b (x ∷ l)
most_cons b x l h k zero = h
most_cons b x l h k (suc i) = k i

most_reverse : (b : ℕ) (l r : List ℕ) → Most b l → Most b r → Most b (reverse_aux l r)
most_reverse b [] r h k = k
most_reverse b (x ∷ l) r h k = most_reverse b l (x ∷ r) (λ i. h (suc i)) (most_cons b x r (h 0) k)

most_map_suc : (b : ℕ) (l : List ℕ) → Most b l → Most (suc b) (map suc l)
most_map_suc b [] h i = omega arith
most_map_suc b (x ∷ l) h zero = omega (arith, h 0)
most_map_suc b (x ∷ l) h (suc i) = most_map_suc b l (λ j. h (suc j)) i

most_tab : (b n : ℕ) (f : ℕ → ℕ) → ((p : ℕ) → f p ≤ b) → Most b (tab n f)
most_tab b n f h i = go (dec_lt i n)
  where
    go : Dec (i < n) → at (tab n f) i ≤ b
    go (yes l) = rw (get_d-tab n f 0 i l) (h i)
    go (no l) = rw (get_or-eq_default (tab n f) 0 {n = i} (omega (arith, length_tab n f))) (omega arith)

most_total : (b : ℕ) (l : List ℕ) → Most b l → total l ≤ b * length l
most_total b [] h = omega arith
most_total b (x ∷ l) h = omega (arith, h 0, most_total b l (λ i. h (suc i)))

-- each step of a walk is a place, or n
module _ (K : Lattice) (mark : List ℕ → ℕ) where
  most_walk : (k : ℕ) (c : List ℕ) → Most (length K.counts) (walk K mark k c)
  unfolding walk
  most_walk zero c i = omega arith
  most_walk (suc k) c zero = (first_is (leads c (λ p. mark (back p c))) (length K.counts)).high
  most_walk (suc k) c (suc i) = most_walk k (back (first (leads c (λ p. mark (back p c))) (length K.counts)) c) i

  length_walk : (k : ℕ) (c : List ℕ) → length (walk K mark k c) ≡ k
  unfolding walk
  length_walk zero c = refl
  length_walk (suc k) c = ap suc (length_walk k _)

-- the evidence has the bounds of what is shown where there is some
evidence_most : (b : ℕ) (f : Bool) (l : List ℕ) → (f ≡ true → Most b l) → Most b (evidence (cond f (some l) none))
evidence_most b true l h = h refl
evidence_most b false l h = most_none b

evidence_length : (k : ℕ) (f : Bool) (l : List ℕ) → (f ≡ true → length l ≤ k) → length (evidence (cond f (some l) none)) ≤ k
evidence_length k true l h = h refl
evidence_length k false l h = omega arith

-- of an accepted recording
module _ (job : List ℕ) (h : checked_of lead8 width8 (part_of job) ≡ Ok tt) where
  stations_most : length (m job) ≤ 8
  stations_most = omega (arith, stations_read lead8 width8 (part_of job), (accepted_accepts lead8 width8 (part_of job) h).n_most)

  count_most : (p : ℕ) → m_at lead8 width8 (part_of job) p ≤ 255
  unfolding m_at
  count_most p = omega (arith, field_lt (part_of job) (station_bit lead8 width8 p) 8)

  counts_most : Most 255 (m job)
  counts_most = rw (counts_read lead8 width8 (part_of job)) (most_tab 255 (n_at lead8 (part_of job)) (m_at lead8 width8 (part_of job)) count_most)

  events_most : total (m job) ≤ 2040
  events_most = omega (arith, stations_most, most_total 255 (m job) counts_most)

  abbrev r : ℕ
  r = first (is_one (L job)) (box (m job))

  witness_within : ltb r (box (m job)) ≡ true → Within (m job) (unrank (m job) r)
  witness_within e = unrank_within (m job) r (ltb-true r (box (m job)) e)

  -- its witness and its path
  witness_length : length (evidence (poss_of (L job))) ≤ 8
  unfolding poss_of
  witness_length = evidence_length 8 (ltb r (box (m job))) (unrank (m job) r) (λ e. omega (arith, stations_most, within_length (m job) (unrank (m job) r) (witness_within e)))

  witness_most : Most 255 (evidence (poss_of (L job)))
  unfolding poss_of
  witness_most = evidence_most 255 (ltb r (box (m job))) (unrank (m job) r) (λ e i. le_trans (within_at (m job) (unrank (m job) r) (witness_within e) i) (counts_most i))

  abbrev back_walk : List ℕ
  back_walk = walk (L job) (looked (L job)) (total (m job)) (m job)

  path_length : length (evidence (def_of (L job))) ≤ 2040
  unfolding def_of
  path_length =
      evidence_length
      2040
      (eqb (looked (L job) (m job)) 3)
      (reverse back_walk)
      (λ e. omega (arith, events_most, length-reverse back_walk, length_walk (L job) (looked (L job)) (total (m job)) (m job)))

  path_most : Most 8 (evidence (def_of (L job)))
  unfolding def_of
  path_most = evidence_most 8 (eqb (looked (L job) (m job)) 3) (reverse back_walk) (λ e. most_reverse 8 back_walk [] step (most_none 8))
    where
      step : Most 8 back_walk
      step i = le_trans (most_walk (L job) (looked (L job)) (total (m job)) (m job) i) stations_most

-- the station numbers of a path
stations_of : Option (List ℕ) → Option (List ℕ)
stations_of none = none
stations_of (some path) = some (map suc path)

stations_evidence : (o : Option (List ℕ)) → evidence (stations_of o) ≡ map suc (evidence o)
unfolding stations_of
stations_evidence none = refl
stations_evidence (some path) = refl

-- evidence as the text takes it
told : Option (List ℕ) → rust.Option (List ℕ)
told none = None
told (some l) = Some l

told_evidence : (o : Option (List ℕ)) → unwrap_or (told o) [] ≡ evidence o
unfolding told
told_evidence none = refl
told_evidence (some l) = refl

-- the two lines of verdicts as one text
lines_are : (poss def : Option (List ℕ)) → poss_line poss ++ def_line def ≡ verdict_text (told poss) (told (stations_of def))
unfolding verdict_text told stations_of
lines_are none none = refl
lines_are none (some path) = refl
lines_are (some c) none = refl
lines_are (some c) (some path) = refl

-- no number has more digits than its 20
length-decimal_to : (k x : ℕ) → length (decimal_to k x) ≤ k
unfolding decimal_to
length-decimal_to zero x = omega arith
length-decimal_to (suc k) x = go (ltb x 10) (length-decimal_to k (x / 10))
  where
    go : (f : Bool) → length (decimal_to k (x / 10)) ≤ k → length (cond f ((48 + x) ∷ []) (decimal_to k (x / 10) ++ ((48 + x % 10) ∷ []))) ≤ suc k
    go true h = omega arith
    go false h = rw (length-append (decimal_to k (x / 10)) ((48 + x % 10) ∷ [])) (omega arith)

refused_length : (number station event : ℕ) → length (refused_text number station event) ≤ 71
unfolding numbers
refused_length number station event =
    rw (length_refused number station event) (simp length-append (omega (arith, length-decimal_to 20 number, length-decimal_to 20 station, length-decimal_to 20 event)))

pub text_fits : (job : List ℕ) → length (text_of job) ≤ 4140
unfolding text_of
text_fits job = go (checked_job job marks_room path_room) refl
  where
    go : (v : Checked) → checked_job job marks_room path_room ≡ v → length (text_by v (poss_of (L job)) (def_of (L job))) ≤ 4140
    go (Err x) e = le_trans (refused_length (number_of x.reason) x.station x.event) (omega arith)
    go (Ok u) e =
        let h = recording_accepted job marks_room path_room e in
        let poss = poss_of (L job) in
        let def = def_of (L job) in
        let w = told_evidence poss in
        let p = told_evidence (stations_of def) ∙ stations_evidence def in
        let bound = text_bound (told poss) (told (stations_of def)) (rw w (witness_length job h)) (λ i. rw w (omega (arith, witness_most job h i))) (λ i. rw p (omega (arith, most_map_suc 8 (evidence def) (path_most job h) i))) in
        rw (lines_are poss def) (omega (arith, bound, ap length p, length-map (evidence def) suc, path_length job h))
