-- What the checks of a recording say. In order: one reply; accepted is formed and stamped, and the other way round; orders; what is never refused; which
-- record a refusal is about; the largest recording. Assumes nothing.
use mathlib.Core.Path.{◌≡◌, refl, sym, ap, ◌∙◌}
use mathlib.Core.Logic.{◌≢◌, ◌⊎◌, inl, inr, ⊎_elim}
use mathlib.Core.List.{List}
use Prim.Native.Nat.{ℕ, zero, suc, ◌+◌, ◌*◌, ◌≤◌, ◌<◌}
use native.Mathlib.Nat.{mul-le-mul}
use native.Mathlib.Omega.{arith}
use lib.ListN.{length}
use Rattle.std.specs.Prelude.{Ok, Err}
use Rattle.bits.proofs.BitsLaws.{field_lt}
use Rattle.cuts.proofs.ReplyLaws.{replies_equal}
use Rattle.cuts.specs.Below.{sum_to}
use Rattle.cuts.specs.Cut.{at}
use Rattle.cuts.specs.Trace.{Messages, Stamps, Recorded, Formed, Stamped}
use Rattle.cuts.specs.Orders.{Ev, PossibleOrder}
use Rattle.cuts.proofs.DemandRight.{an_order}
use Rattle.recording.specs.Recording.{Recording, messages, stamps}
use Rattle.recording.specs.Form.{bytes_for, station_bit, record_size, record_bit, n_at, m_at, first_at, recording_of, needed, lead8, width8}
use Rattle.recording.specs.Check.{fault_of, record_tests, form_tests, checked_records, checked_of}
use Rattle.refusal.specs.Refusal.{Tested, Checked, whole, of_record, at_whole, or_else}
use Rattle.refusal.specs.declared.Reason.{Reason}
use Rattle.refusal.specs.declared.Refusal.{Refusal}
use Rattle.recording.proofs.CheckLaws.{Among, here, later, fault_among, at_whole-accepted, at_whole-refused, at_record-refused}
use Rattle.recording.proofs.CheckRight.{scan_formed, scan_stamped, formed_scan, Earlier, refused_first}
use Rattle.recording.proofs.AcceptedRight.{accepted_accepts}

module _ (lead w : ℕ) (s : List ℕ) where
  abbrev R : Recording
  R = recording_of lead w s

  abbrev T : Messages
  T = messages R

  abbrev S : Stamps
  S = stamps R

  -- the first fault of the whole
  abbrev tested : Tested
  tested = fault_of (form_tests lead w s)

  pub check_unique : (r r' : Checked) → r ≡ checked_of lead w s → r' ≡ checked_of lead w s → r ≡ r'
  check_unique r r' = replies_equal

  -- accepted is formed and stamped ..
  pub accepted_formed : checked_of lead w s ≡ Ok tt → Formed T × Stamped T S
  unfolding checked_records
  accepted_formed h =
      let a = (accepted_accepts lead w s h).records in
      (scan_formed T S a, scan_stamped T S (λ p q. refl) a)

  records_accepted : Formed T → Stamped T S → checked_records R ≡ Ok tt
  unfolding checked_records
  records_accepted f t = formed_scan T S f t

  -- .. and what is formed and stamped is accepted, where the whole has no fault
  pub formed_accepted : tested ≡ Ok tt → Formed T → Stamped T S → checked_of lead w s ≡ Ok tt
  unfolding checked_of at_whole
  formed_accepted h f t = rw h (records_accepted f t)

  -- an accepted recording has a possible order
  pub accepted_order : checked_of lead w s ≡ Ok tt → (es : List Ev) × PossibleOrder T es
  accepted_order h = let (f, t) = accepted_formed h in an_order T S f t

  -- x is the fault of the whole, "0 and 0"
  pub record OfWhole (x : Refusal) : Type 0 where
    pub faulty : tested ≡ Err x.reason
    pub is : x ≡ whole x.reason

  -- the whole has no fault, x is that of event e + 1 of the station at place p, and no record before it in file order has one
  pub record OfRecord (x : Refusal) : Type 0 where
    pub whole_right : tested ≡ Ok tt
    pub p : ℕ
    pub e : ℕ
    pub station : p < length T.counts
    pub event : e < at T.counts p
    pub faulty : fault_of (record_tests T S p e) ≡ Err x.reason
    pub is : x ≡ of_record p e x.reason
    pub before : (q k : ℕ) → q < length T.counts → k < at T.counts q → Earlier q k p e → fault_of (record_tests T S q k) ≡ Ok tt

  -- a refusal is about the whole or, where that has no fault, about a record
  refused_cases : (x : Refusal) → checked_of lead w s ≡ Err x → OfWhole x ⊎ ((tested ≡ Ok tt) × (checked_records R ≡ Err x))
  unfolding checked_of
  refused_cases x h = go (at_whole tested) refl h
    where
      go : (v : Checked) → at_whole tested ≡ v → or_else v (checked_records R) ≡ Err x → OfWhole x ⊎ ((tested ≡ Ok tt) × (checked_records R ≡ Err x))
      go (Ok u) e k = inr (at_whole-accepted tested e, k)
      go (Err y) e k = let (r, a, b) = at_whole-refused tested x (e ∙ k) in inl (rw b (record { faulty = a; is = refl }))

  records_first : (x : Refusal) → (tested ≡ Ok tt) × (checked_records R ≡ Err x) → OfRecord x
  unfolding checked_records
  records_first x (z, h) =
      let (p, e, hp, he, a, b) = refused_first T (record_tests T S) x h in
      let (k, n, i) = at_record-refused p e (fault_of (record_tests T S p e)) x a in
      rw i (record { whole_right = z; p = p; e = e; station = hp; event = he; faulty = n; is = refl; before = b })

  whole_never : (k : Reason) → tested ≡ Err k → (k ≢ Reason.Origin) × (k ≢ Reason.Number) × (k ≢ Reason.Stamp)
  whole_never k h = go (fault_among _ k h)
    where
      go : Among k (form_tests lead w s) → (k ≢ Reason.Origin) × (k ≢ Reason.Number) × (k ≢ Reason.Stamp)
      go (here e) = (λ i. cc, λ i. cc, λ i. cc)
      go (later (here e)) = (λ i. cc, λ i. cc, λ i. cc)
      go (later (later (here e))) = (λ i. cc, λ i. cc, λ i. cc)
      go (later (later (later (here e)))) = (λ i. cc, λ i. cc, λ i. cc)
      go (later (later (later (later (here e))))) = (λ i. cc, λ i. cc, λ i. cc)
      go (later (later (later (later (later (here e)))))) = (λ i. cc, λ i. cc, λ i. cc)
      go (later (later (later (later (later (later h)))))) = elim h [ ]

  -- what is formed and stamped is never refused with 5, 6 or 7
  pub never_567 : Formed T → Stamped T S → (x : Refusal) → checked_of lead w s ≡ Err x → (x.reason ≢ Reason.Origin) × (x.reason ≢ Reason.Number) × (x.reason ≢ Reason.Stamp)
  never_567 f t x h = go (refused_cases x h)
    where
      go : OfWhole x ⊎ ((tested ≡ Ok tt) × (checked_records R ≡ Err x)) → (x.reason ≢ Reason.Origin) × (x.reason ≢ Reason.Number) × (x.reason ≢ Reason.Stamp)
      go (inl o) = whole_never x.reason o.faulty
      go (inr (_, k)) = let z = sym (records_accepted f t) ∙ k in cc

  -- "A recording is never refused for having messages out of sending order": p receives two messages of the station at place i, the later one first
  pub out_of_order_accepted : (p e k i : ℕ) → Recorded T p e → Recorded T p k → e < k → T.origin p e ≡ suc i → T.origin p k ≡ suc i → T.number p k < T.number p e
      → tested ≡ Ok tt → Formed T → Stamped T S → checked_of lead w s ≡ Ok tt
  out_of_order_accepted p e k i _ _ _ _ _ _ h f t = formed_accepted h f t

  -- a refusal with a station is about the first faulty record in file order ..
  pub refused_record_first : (x : Refusal) → checked_of lead w s ≡ Err x → x.station ≢ 0 → OfRecord x
  refused_record_first x h z = ⊎_elim (λ o. absurd (z (ap (λ (y : Refusal). y.station) o.is))) (records_first x) (refused_cases x h)

  -- .. and one without is about the whole
  pub refused_whole_first : (x : Refusal) → checked_of lead w s ≡ Err x → x.station ≡ 0 → OfWhole x
  refused_whole_first x h z = ⊎_elim (λ o. o) (λ k. let r = records_first x k in absurd (omega (arith, ap (λ (y : Refusal). y.station) r.is))) (refused_cases x h)

-- "The largest recording has 22,461 bytes": no recording of up to 8 stations needs more, and one of 2,040 records needs as many
module _ (s : List ℕ) where
  events_le : (p : ℕ) → first_at lead8 width8 s p ≤ 255 * p
  unfolding first_at sum_to m_at
  events_le zero = omega arith
  events_le (suc p) = omega (arith, events_le p, field_lt s (station_bit lead8 width8 p) 8)

  pub largest : n_at lead8 s ≤ 8 → (needed lead8 width8 s ≤ 22461) × (bytes_for (record_bit lead8 width8 8 2040) ≡ 22461)
  unfolding needed bytes_for record_bit station_bit record_size
  largest h =
      let n = n_at lead8 s in
      let t = first_at lead8 width8 s n in
      let r : (24 + 8 * n) * t ≤ 88 * 2040 = mul-le-mul {n₁ = 24 + 8 * n} {m₁ = t} {n₂ = 88} {m₂ = 2040} (omega arith) (omega (arith, events_le n)) in
      (omega (arith, r), refl)

  pub accepted_largest : checked_of lead8 width8 s ≡ Ok tt → length s ≤ 22461
  accepted_largest h =
      let a = accepted_accepts lead8 width8 s h in
      omega (arith, a.just_needed, (largest a.n_most).0)
