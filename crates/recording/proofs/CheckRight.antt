-- The checks of the records pass exactly if the records are formed and stamped in the sense of `cuts` (`scan_is`), so an accepted recording has a
-- possible order; and a refusal is about the first faulty record in file order (`refused_first`). Nothing else is looked at: not in what order
-- messages were received. In order: one record's tests; all records. Assumes nothing.
use mathlib.Core.Path.{◌≡◌, refl}
use mathlib.Core.Bool.{Bool, true, not}
use mathlib.Core.Logic.{◌≢◌, ◌↔◌, ◌⊎◌, inl, inr}
use mathlib.Core.List.{List, [], ◌∷◌}
use Prim.Native.Nat.{ℕ, zero, suc, ◌+◌, ◌<◌}
use native.Mathlib.Omega.{arith}
use lib.ListN.{length}
use lib.Dec.{leb, eqb}
use borrow.Author.Tests.{leb-true, le-leb, eqb-true, eq-eqb, ne_eqb, eqb-false, not-true}
use Rattle.std.specs.Prelude.{Ok, Err}
use Rattle.cuts.specs.Cut.{at}
use Rattle.cuts.specs.Trace.{Messages, Stamps, Recorded, Formed, Stamped, wanted}
use Rattle.cuts.proofs.BelowLaws.{and_true, every_true, true_every}
use Rattle.recording.specs.Check.{Test, test, fault_of, scan_to, origin_ok, number_ok, stamp_ok, record_tests, scan_records}
use Rattle.refusal.specs.Refusal.{Tested, Checked, at_record}
use Rattle.refusal.specs.declared.Reason.{Reason}
use Rattle.refusal.specs.declared.Refusal.{Refusal}
use Rattle.recording.proofs.CheckLaws.{Pass, no_test, and_then, pass_fault, fault_pass, at_record-accepted, scan_all, scan_accepted, scan_first}

accepted_record : (p e : ℕ) (r : Tested) → r ≡ Ok tt → at_record p e r ≡ Ok tt
unfolding at_record
accepted_record p e r h = rw h refl

module _ (T : Messages) where
  -- what the first two tests of a record say
  pub record Names (p o k : ℕ) : Type 0 where
    pub local : o ≡ 0 → k ≡ 0
    pub sender : (s : ℕ) → o ≡ suc s → (s ≢ p) × Recorded T s k

  pub tests_names : (p o k : ℕ) → origin_ok T p o ≡ true → number_ok T o k ≡ true → Names p o k
  unfolding origin_ok number_ok
  tests_names p zero k a b = record { local = λ e. eqb-true k 0 b; sender = λ s e. absurd (omega arith) }
  tests_names p (suc s) k a b =
      let (x, y) = and_true (leb (suc s) (length T.counts)) (not (eqb (suc s) (p + 1))) a in
      let (u, v) = and_true (leb 1 k) (leb k (at T.counts s)) b in
      record {
        local = λ e. absurd (omega arith);
        sender = λ t e. let z : s ≡ t = omega arith in rw (← z) ((λ i. eqb-false (suc s) (p + 1) (not-true _ y) (omega arith)), (leb-true _ _ x, leb-true _ _ u, leb-true _ _ v));
      }

  pub names_origin : (p o k : ℕ) → Names p o k → origin_ok T p o ≡ true
  unfolding origin_ok
  names_origin p zero k h = rw (le-leb 0 (length T.counts) (omega arith), ne_eqb 0 (p + 1) (λ e. omega arith)) refl
  names_origin p (suc s) k h =
      let (ne, (a, b, d)) = h.sender s refl in
      rw (le-leb (suc s) (length T.counts) a, ne_eqb (suc s) (p + 1) (λ e. ne (omega arith))) refl

  pub names_number : (p o k : ℕ) → Names p o k → number_ok T o k ≡ true
  unfolding number_ok
  names_number p zero k h = eq-eqb k 0 (h.local refl)
  names_number p (suc s) k h =
      let (ne, (a, b, d)) = h.sender s refl in
      rw (le-leb 1 k b, le-leb k (at T.counts s) d) refl

  -- the records are formed and stamped, record by record
  module _ (S : Stamps) where
    pub record Sound (p e : ℕ) : Type 0 where
      pub names : Names p (T.origin p (suc e)) (T.number p (suc e))
      pub stamped : (q : ℕ) → q < length T.counts → S p (suc e) q ≡ wanted T S (T.origin p (suc e)) p e q

    fault_sound : (p e : ℕ) → fault_of (record_tests T S p e) ≡ Ok tt → Sound p e
    unfolding stamp_ok
    fault_sound p e h = go (fault_pass _ h)
      where
        go : Pass (record_tests T S p e) → Sound p e
        go (and_then a (and_then b (and_then d no_test))) = record {
          names = tests_names p _ _ a b;
          stamped = λ q l. eqb-true _ _ (every_true (length T.counts) (λ q. eqb (S p (suc e) q) (wanted T S (T.origin p (suc e)) p e q)) d q l);
        }

    sound_fault : (p e : ℕ) → Sound p e → fault_of (record_tests T S p e) ≡ Ok tt
    unfolding stamp_ok
    sound_fault p e h = pass_fault (and_then (names_origin p _ _ h.names) (and_then (names_number p _ _ h.names) (and_then (true_every (length T.counts) _ (λ q l. eq-eqb _ _ (h.stamped q l))) no_test)))

    -- a record's tests with one more before its stamp's, as the writer has it for the level
    abbrev pub tests_with : Bool → ℕ → ℕ → List Test
    tests_with ok p e =
        test Reason.Origin (origin_ok T p (T.origin p (suc e)))
        ∷ test Reason.Number (number_ok T (T.origin p (suc e)) (T.number p (suc e)))
        ∷ test Reason.Level ok
        ∷ test Reason.Stamp (stamp_ok T S p e)
        ∷ []

    -- they pass exactly if the record is sound and that one passes
    pub writer_sound : (p e : ℕ) (ok : Bool) → fault_of (tests_with ok p e) ≡ Ok tt → Sound p e × (ok ≡ true)
    unfolding stamp_ok
    writer_sound p e ok h =
        go (fault_pass (tests_with ok p e) h)
      where
        go : Pass (tests_with ok p e) → Sound p e × (ok ≡ true)
        go (and_then a (and_then b (and_then l (and_then d no_test)))) = (
          record {
            names = tests_names p _ _ a b;
            stamped = λ q k. eqb-true _ _ (every_true (length T.counts) (λ q. eqb (S p (suc e) q) (wanted T S (T.origin p (suc e)) p e q)) d q k);
          },
          l,
        )

    pub sound_writer : (p e : ℕ) (ok : Bool) → Sound p e → ok ≡ true → fault_of (tests_with ok p e) ≡ Ok tt
    unfolding stamp_ok
    sound_writer p e ok h l = pass_fault (and_then (names_origin p _ _ h.names) (and_then (names_number p _ _ h.names) (and_then l (and_then (true_every (length T.counts) _ (λ q k. eq-eqb _ _ (h.stamped q k))) no_test))))

    -- the scan of the records accepts exactly if every record is sound
    pub scan_sound : scan_records T (record_tests T S) ≡ Ok tt → (p e : ℕ) → p < length T.counts → e < at T.counts p → Sound p e
    unfolding scan_records
    scan_sound h p e hp he = fault_sound p e (at_record-accepted p e _ (scan_accepted _ (at T.counts p) (scan_accepted _ (length T.counts) h p hp) e he))

    -- the writer's scan accepts only sound records
    pub writer_scan : (ok : ℕ → ℕ → Bool) → scan_records T (λ p e. tests_with (ok p e) p e) ≡ Ok tt → (p e : ℕ) → p < length T.counts → e < at T.counts p → Sound p e × (ok p e ≡ true)
    unfolding scan_records
    writer_scan ok h p e hp he = writer_sound p e (ok p e) (at_record-accepted p e _ (scan_accepted _ (at T.counts p) (scan_accepted _ (length T.counts) h p hp) e he))

    pub sound_scan : ((p e : ℕ) → p < length T.counts → e < at T.counts p → Sound p e) → scan_records T (record_tests T S) ≡ Ok tt
    unfolding scan_records
    sound_scan h = scan_all _ (length T.counts) (λ p hp. scan_all _ (at T.counts p) (λ e he. accepted_record p e _ (sound_fault p e (h p e hp he))))

    sound_of : (p e : ℕ) → ((p e : ℕ) → p < length T.counts → e < at T.counts p → Sound p e) → Recorded T p e → Names p (T.origin p e) (T.number p e)
    sound_of p zero h (a, b, d) = absurd (omega arith)
    sound_of p (suc e) h (a, b, d) = (h p e a d).names

    -- accepted is formed and stamped ..
    pub scan_formed : scan_records T (record_tests T S) ≡ Ok tt → Formed T
    scan_formed h = record {
      local = λ p e r o. (sound_of p e (scan_sound h) r).local o;
      sender = λ p e s r o. (sound_of p e (scan_sound h) r).sender s o;
    }

    pub scan_stamped : ((p q : ℕ) → S p 0 q ≡ 0) → scan_records T (record_tests T S) ≡ Ok tt → Stamped T S
    scan_stamped z h = record { start = z; rule = λ p e q (a, b, d) hq. (scan_sound h p e a d).stamped q hq }

    -- .. and formed and stamped is accepted: no refusal for an origin, a number or a stamp
    pub formed_scan : Formed T → Stamped T S → scan_records T (record_tests T S) ≡ Ok tt
    formed_scan f t = sound_scan (λ p e hp he. record {
      names = record { local = λ o. f.local p (suc e) (hp, omega arith, he) o; sender = λ s o. f.sender p (suc e) s (hp, omega arith, he) o };
      stamped = λ q hq. t.rule p e q (hp, omega arith, he) hq;
    })

    pub scan_is : ((p q : ℕ) → S p 0 q ≡ 0) → (scan_records T (record_tests T S) ≡ Ok tt) ↔ (Formed T × Stamped T S)
    scan_is z = (λ h. (scan_formed h, scan_stamped z h), λ (f, t). formed_scan f t)

-- the place (p, e) comes before (q, k) in file order
abbrev pub Earlier : ℕ → ℕ → ℕ → ℕ → Type 0
Earlier p e q k = (p < q) ⊎ ((p ≡ q) × (e < k))

-- a refusal is about the first faulty record in file order, whatever the tests of a record are
pub refused_first : (T : Messages) (tests : ℕ → ℕ → List Test) (x : Refusal) → scan_records T tests ≡ Err x
    → (p e : ℕ) × (p < length T.counts) × (e < at T.counts p) × (at_record p e (fault_of (tests p e)) ≡ Err x)
    × ((q k : ℕ) → q < length T.counts → k < at T.counts q → Earlier q k p e → fault_of (tests q k) ≡ Ok tt)
unfolding scan_records
refused_first T tests x h =
    let (p, hp, a, b) = scan_first _ (length T.counts) x h in
    let (e, he, u, v) = scan_first _ (at T.counts p) x a in
    (p, e, hp, he, u, λ q k hq hk l. before p e b v q k hq hk l)
  where
    fault : ℕ → ℕ → Checked
    fault p e = at_record p e (fault_of (tests p e))

    before : (p e : ℕ) → ((i : ℕ) → i < p → scan_to (at T.counts i) (fault i) ≡ Ok tt) → ((i : ℕ) → i < e → fault p i ≡ Ok tt)
        → (q k : ℕ) → q < length T.counts → k < at T.counts q → Earlier q k p e → fault_of (tests q k) ≡ Ok tt
    before p e b v q k hq hk (inl l) = at_record-accepted q k _ (scan_accepted (fault q) (at T.counts q) (b q l) k hk)
    before p e b v q k hq hk (inr (z, l)) = at_record-accepted q k _ (rw z (v k l))
