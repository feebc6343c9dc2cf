-- Laws of the checks: the first test that fails; the first refusal of a scan, which is the first faulty place in file order; and loops over them.
-- In order: tests; refusals of a record and of the whole; scans. Assumes nothing.
use mathlib.Core.Path.{◌≡◌, refl, sym, ap, ◌∙◌}
use mathlib.Core.Bool.{Bool, true, false, cond}
use mathlib.Core.Logic.{⊎_elim}
use mathlib.Core.List.{List, [], ◌∷◌}
use Prim.Native.Nat.{ℕ, zero, suc, ◌+◌, ◌-◌, ◌<◌}
use native.Mathlib.Nat.{add-zero, add-suc, not-suc-le-zero}
use native.Mathlib.Numerals.{add-one}
use native.Mathlib.Omega.{arith}
use lib.ListN.{length}
use borrow.Author.Tests.{lt-ltb}
use Rattle.std.specs.Prelude.{Ok, Err}
use Rattle.cuts.specs.Cut.{at}
use Rattle.cuts.specs.Trace.{Messages}
use Rattle.cuts.proofs.BelowLaws.{last_or_below}
use Rattle.recording.specs.Check.{Test, test, fault_of, scan_to, scan_records}
use Rattle.recording.specs.Fault.{scanned_faults, fault_in}
use Rattle.refusal.specs.Refusal.{Tested, Checked, whole, of_record, at_whole, at_record, or_else}
use Rattle.refusal.specs.declared.Reason.{Reason}
use Rattle.refusal.specs.declared.Refusal.{Refusal}

-- every test of a list passes
pub data Pass : List Test → Type 0 where
  no_test : Pass []
  and_then : {t : Test} {ts : List Test} → t.passes ≡ true → Pass ts → Pass (t ∷ ts)

-- .. exactly if no test fails
pub pass_fault : {ts : List Test} → Pass ts → fault_of ts ≡ Ok tt
unfolding fault_of
pass_fault no_test = refl
pass_fault (and_then e h) = rw e (pass_fault h)

pub fault_pass : (ts : List Test) → fault_of ts ≡ Ok tt → Pass ts
unfolding fault_of
fault_pass [] e = no_test
fault_pass (t ∷ ts) e = go t.passes refl e (fault_pass ts)
  where
    go : (b : Bool) → t.passes ≡ b → cond b (fault_of ts) (Err t.reason) ≡ Ok tt → (fault_of ts ≡ Ok tt → Pass ts) → Pass (t ∷ ts)
    go true p h ih = and_then p (ih h)
    go false p h ih = cc

-- the tests of a list up to one that fails
pub fault_next : (t : Test) (ts : List Test) → t.passes ≡ true → fault_of (t ∷ ts) ≡ fault_of ts
unfolding fault_of
fault_next t ts e = rw e refl

pub fault_here : (t : Test) (ts : List Test) → t.passes ≡ false → fault_of (t ∷ ts) ≡ Err t.reason
unfolding fault_of
fault_here t ts e = rw e refl

-- a test whose reason the next has too, and which passes where that does
pub fault_twice : (k : Reason) (a b : Bool) (ts : List Test) → (b ≡ true → a ≡ true) → fault_of (test k a ∷ test k b ∷ ts) ≡ fault_of (test k b ∷ ts)
unfolding fault_of
fault_twice k true b ts h = refl
fault_twice k false true ts h = let z : false ≡ true = h refl in cc
fault_twice k false false ts h = refl

-- the reason of a list's first fault is that of one of its tests
pub data Among (k : Reason) : List Test → Type 0 where
  here : {t : Test} {ts : List Test} → t.reason ≡ k → Among k (t ∷ ts)
  later : {t : Test} {ts : List Test} → Among k ts → Among k (t ∷ ts)

pub fault_among : (ts : List Test) (k : Reason) → fault_of ts ≡ Err k → Among k ts
unfolding fault_of
fault_among [] k e = cc
fault_among (t ∷ ts) k e = go t.passes e (fault_among ts k)
  where
    go : (b : Bool) → cond b (fault_of ts) (Err t.reason) ≡ Err k → (fault_of ts ≡ Err k → Among k ts) → Among k (t ∷ ts)
    go true h ih = later (ih h)
    go false h ih = let e : t.reason ≡ k = cc in here e

-- what is as a record's test says
pub at_record-is : (p e : ℕ) (r : Tested) (x : Checked) → (r ≡ Ok tt → x ≡ Ok tt) → ((k : Reason) → r ≡ Err k → x ≡ Err (of_record p e k)) → x ≡ at_record p e r
unfolding at_record
at_record-is p e (Ok u) x h g = h refl
at_record-is p e (Err k) x h g = g k refl

-- acceptance, of a record and of the whole
pub at_record-accepted : (p e : ℕ) (r : Tested) → at_record p e r ≡ Ok tt → r ≡ Ok tt
unfolding at_record
at_record-accepted p e (Ok u) h = refl
at_record-accepted p e (Err k) h = cc

pub at_whole-accepted : (r : Tested) → at_whole r ≡ Ok tt → r ≡ Ok tt
unfolding at_whole
at_whole-accepted (Ok u) h = refl
at_whole-accepted (Err k) h = cc

-- what a refusal is, and that there was a fault
pub at_record-refused : (p e : ℕ) (r : Tested) (x : Refusal) → at_record p e r ≡ Err x → (k : Reason) × (r ≡ Err k) × (x ≡ of_record p e k)
unfolding at_record
at_record-refused p e (Ok u) x h = cc
at_record-refused p e (Err k) x h = (k, refl, cc)

pub at_whole-refused : (r : Tested) (x : Refusal) → at_whole r ≡ Err x → (k : Reason) × (r ≡ Err k) × (x ≡ whole k)
unfolding at_whole
at_whole-refused (Ok u) x h = cc
at_whole-refused (Err k) x h = (k, refl, cc)

pub or_else-accepted : (a b : Checked) → or_else a b ≡ Ok tt → (a ≡ Ok tt) × (b ≡ Ok tt)
or_else-accepted (Ok u) b h = (refl, h)
or_else-accepted (Err x) b h = cc

pub or_else-assoc : (a b c : Checked) → or_else a (or_else b c) ≡ or_else (or_else a b) c
or_else-assoc (Ok u) b c = refl
or_else-assoc (Err x) b c = refl

pub scan_none : (f : ℕ → Checked) → scan_to 0 f ≡ Ok tt
unfolding scan_to
scan_none f = refl

pub scan_more : (f : ℕ → Checked) (j : ℕ) → scan_to j f ≡ Ok tt → scan_to (j + 1) f ≡ f j
unfolding scan_to
scan_more f j h = rw (add-one j, h) refl

pub scan_all : (f : ℕ → Checked) (n : ℕ) → ((j : ℕ) → j < n → f j ≡ Ok tt) → scan_to n f ≡ Ok tt
unfolding scan_to
scan_all f zero h = refl
scan_all f (suc n) h = rw (scan_all f n (λ j l. h j (omega arith))) (h n (omega arith))

pub scan_same : (n : ℕ) (f h : ℕ → Checked) → ((j : ℕ) → j < n → f j ≡ h j) → scan_to n f ≡ scan_to n h
unfolding scan_to
scan_same zero f h e = refl
scan_same (suc n) f h e = rw (scan_same n f h (λ j l. e j (omega arith)), e n (omega arith)) refl

pub scan_accepted : (f : ℕ → Checked) (n : ℕ) → scan_to n f ≡ Ok tt → (j : ℕ) → j < n → f j ≡ Ok tt
unfolding scan_to
scan_accepted f zero h j l = absurd (not-suc-le-zero l)
scan_accepted f (suc n) h j l =
    let (a, b) = or_else-accepted (scan_to n f) (f n) h in
    ⊎_elim (λ e. ap f e ∙ b) (λ k. scan_accepted f n a j k) (last_or_below n j l)

scan_keep : (f : ℕ → Checked) (j d : ℕ) (x : Refusal) → scan_to j f ≡ Ok tt → f j ≡ Err x → scan_to (suc j + d) f ≡ Err x
unfolding scan_to
scan_keep f j zero x h e = rw (add-zero (suc j), h) e
scan_keep f j (suc d) x h e = rw (add-suc (suc j) d, scan_keep f j d x h e) refl

-- a scan stops at the first refusal
pub scan_found : (f : ℕ → Checked) (j n : ℕ) (x : Refusal) → j < n → scan_to j f ≡ Ok tt → Err x ≡ f j → Err x ≡ scan_to n f
scan_found f j n x l h e =
    let k : suc j + (n - suc j) ≡ n = omega arith in
    sym (rw k at (scan_keep f j (n - suc j) x h (sym e)))

-- where a scan refuses, one place does, and none before it
pub scan_first : (f : ℕ → Checked) (n : ℕ) (x : Refusal) → scan_to n f ≡ Err x
    → (j : ℕ) × (j < n) × (f j ≡ Err x) × ((i : ℕ) → i < j → f i ≡ Ok tt)
unfolding scan_to
scan_first f zero x h = cc
scan_first f (suc n) x h = go (scan_to n f) refl h (scan_first f n)
  where
    go : (v : Checked) → scan_to n f ≡ v → or_else v (f n) ≡ Err x → ((y : Refusal) → scan_to n f ≡ Err y → (j : ℕ) × (j < n) × (f j ≡ Err y) × ((i : ℕ) → i < j → f i ≡ Ok tt))
        → (j : ℕ) × (j < suc n) × (f j ≡ Err x) × ((i : ℕ) → i < j → f i ≡ Ok tt)
    go (Ok u) e k ih = (n, omega arith, k, λ i l. scan_accepted f n e i l)
    go (Err y) e k ih = let (j, l, a, b) = ih x (e ∙ k) in (j, omega arith, a, b)

-- a scan for the faults of records, where nothing is wrong with a record that is not there, is that of all records by their tests
pub faults_scanned : (T : Messages) (tests : ℕ → ℕ → List Test) (n : ℕ) (m : List ℕ) → length T.counts ≡ n → ((p : ℕ) → p < n → at m p ≡ at T.counts p)
    → scanned_faults n m (fault_in n m (λ p e. fault_of (tests p e))) ≡ scan_records T tests
unfolding scanned_faults fault_in scan_records
faults_scanned T tests n m en em =
    rw en
    (scan_same n _ _ (λ p hp. rw (← (em p hp)) (scan_same (at m p) _ _ (λ e he. rw (lt-ltb p n hp, lt-ltb e (at m p) he) refl))))
