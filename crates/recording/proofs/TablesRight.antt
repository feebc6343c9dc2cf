-- The fault of a record worked out of flat tables is the first of the record's tests that fails, for any recording that the tables have: a local step is
-- a receipt of event 0, whose stamp is zeros; an origin that names no other station fails the first test whatever the tables have.
-- In order: what the tables have; a stamp's fault; a record's. The reader's tables are in `FaultRight`, the writer's in `GivenRight` of `writer`. Assumes nothing.
use mathlib.Core.Path.{◌≡◌, refl, sym, ap, ap₂, ◌∙◌}
use mathlib.Core.Bool.{Bool, true, false, ◌&&◌, ◌||◌, not, cond}
use mathlib.Core.List.{List, [], ◌∷◌}
use Prim.Native.Nat.{ℕ, zero, suc, ◌+◌, ◌-◌, ◌*◌, ◌≤◌, ◌<◌, max}
use native.Mathlib.Nat.{max-zero}
use native.Mathlib.Omega.{arith}
use lib.Dec.{leb, ltb, eqb}
use lib.ListN.{length}
use Rattle.std.specs.Prelude.{Result, Ok, Err}
use borrow.Author.Tests.{ltb-false, leb-true, le-leb, lt-leb, ne_eqb}
use Rattle.cuts.specs.Below.{own}
use Rattle.cuts.specs.Cut.{at}
use Rattle.cuts.specs.Trace.{Messages, Stamps, wanted}
use Rattle.cuts.proofs.BelowLaws.{and_true, every_same}
use Rattle.recording.specs.Recording.{Recording, counts_of, messages, stamps}
use Rattle.recording.specs.Check.{test, fault_of, origin_ok, number_ok, stamp_ok}
use Rattle.faults.specs.Fault.{source_of, place_at, place_right, stamp_fault, local_fault, receipt_fault, source_fault, table_fault}
use Rattle.faults.specs.declared.Source.{Source}
use Rattle.refusal.specs.Refusal.{Tested}
use Rattle.refusal.specs.declared.Reason.{Reason}
use Rattle.faults.proofs.FaultLaws.{leb_not, source_of-is, stamp_fault-every, receipt_fault-from, table_fault-source}
use Rattle.recording.specs.Fault.{fault_at}

-- the tables have what the recording says: n, the counts, room for all records, and at eight places a record the stamps; each station's records begin at its first
pub record Tables (R : Recording) (n : ℕ) (m firsts rows : List ℕ) : Type 0 where
  pub stations : length (counts_of R) ≡ n
  pub most : n ≤ 8
  pub counts : (p : ℕ) → p < n → at m p ≡ at (counts_of R) p
  pub room : (p : ℕ) → p < n → 8 * (at firsts p + at m p) ≤ length rows
  pub places : (p e q : ℕ) → p < n → e < at m p → q < n → at rows (8 * (at firsts p + e) + q) ≡ stamps R p (suc e) q

-- the faults of a record, by its three tests
three_faults : (a b d : Bool) → fault_of (test Reason.Origin a ∷ test Reason.Number b ∷ test Reason.Stamp d ∷ [])
    ≡ cond a (cond b (cond d (Ok tt) (Err Reason.Stamp)) (Err Reason.Number)) (Err Reason.Origin)
unfolding fault_of
three_faults a b d = refl

-- two ways to ask for the first fault of a receipt: whether the origin is wrong, or whether it is right
receipt_faults : (u v a b : Bool) (x y : Tested) → (u ≡ false → a ≡ b) → (u ≡ false → b ≡ true → x ≡ y)
    → cond (u || v) (Err Reason.Origin) (cond a x (Err Reason.Number)) ≡ cond (not u && not v) (cond b y (Err Reason.Number)) (Err Reason.Origin)
receipt_faults true v a b x y h g = refl
receipt_faults false true a b x y h g = refl
receipt_faults false false a true x y h g = rw (h refl) (g refl refl)
receipt_faults false false a false x y h g = rw (h refl) refl

module _ {R : Recording} {n : ℕ} {m firsts rows : List ℕ} (tables : Tables R n m firsts rows) where
  abbrev T : Messages
  T = messages R

  abbrev S : Stamps
  S = stamps R

  -- a place of the table is a place of an event's stamp
  place_tabled : (p e q : ℕ) → p < n → e ≤ at m p → q < n → place_at rows (at firsts p) e q ≡ S p e q
  unfolding place_at
  place_tabled p zero q hp he hq = refl
  place_tabled p (suc e) q hp he hq = tables.places p e q hp he hq

  module _ (p e : ℕ) (hp : p < n) (he : e < at m p) where
    -- the stamp tested in the table is the stamp tested in the recording, where what is received is wanted
    stamp_tabled : (o i k : ℕ) → T.origin p (suc e) ≡ o → i < n → k ≤ at m i
        → ((q : ℕ) → wanted T S o p e q ≡ max (S p e q) (S i k q) + own p q) → stamp_fault n rows p (at firsts p) e (at firsts i) k ≡ cond (stamp_ok T S p e) (Ok tt) (Err Reason.Stamp)
    unfolding stamp_ok place_right
    stamp_tabled o i k eo hi hk hw =
        rw (stamp_fault-every rows p (at firsts p) e (at firsts i) k n (omega (arith, tables.room p hp)) (omega (arith, tables.room i hi)), tables.stations, eo)
        (ap (λ (b : Bool). cond {A = Tested} b (Ok tt) (Err Reason.Stamp))
        (every_same n _ _ (λ q hq. ap₂ eqb (place_tabled p (suc e) q hp he hq) (ap₂ (λ (x y : ℕ). max x y + own p q) (place_tabled p e q hp (omega arith) hq) (place_tabled i k q hi hk hq) ∙ sym (hw q)))))

    module _ (o k : ℕ) (eo : T.origin p (suc e) ≡ o) (ek : T.number p (suc e) ≡ k) where
      local_tabled : o ≡ 0 → local_fault n rows p (at firsts p) e k ≡ fault_at R p e
      unfolding fault_at local_fault origin_ok number_ok
      local_tabled z =
          let f : stamp_fault n rows p (at firsts p) e (at firsts p) 0 ≡ cond (stamp_ok T S p e) (Ok tt) (Err Reason.Stamp) = stamp_tabled 0 p 0 (eo ∙ z) hp (omega arith) (λ q. ap (λ (x : ℕ). x + own p q) (sym (max-zero _))) in
          rw (three_faults _ _ _, eo, z, ek, f, le-leb 0 (length T.counts) (omega arith), ne_eqb 0 (p + 1) (λ i. omega arith)) refl

      receipt_tabled : (i : ℕ) → o ≡ suc i → receipt_fault n m firsts rows p e (suc i) k ≡ fault_at R p e
      unfolding fault_at origin_ok number_ok
      receipt_tabled i z =
          rw (receipt_fault-from, three_faults _ _ _, eo, z, ek, tables.stations, leb_not (suc i) n)
          (receipt_faults (ltb n (suc i)) (eqb (suc i) (p + 1)) _ _ _ _
          (λ u. ap (λ (y : ℕ). leb 1 k && leb k y) (tables.counts i (ltb-false n (suc i) u)))
          (λ u v. let hi = ltb-false n (suc i) u in
          stamp_tabled (suc i) i k (eo ∙ z) hi (omega (arith, leb-true k (at T.counts i) (and_true (leb 1 k) (leb k (at T.counts i)) v).1, tables.counts i hi)) (λ q. rw ek refl)))

      unknown_tabled : 8 < o → Err Reason.Origin ≡ fault_at R p e
      unfolding fault_at origin_ok
      unknown_tabled h = rw (three_faults _ _ _, eo, tables.stations, lt-leb o n (omega (arith, tables.most))) refl

      -- the fault by the kind of the origin
      source_right : (x : Result Source Reason) → x ≡ source_of o → source_fault n m firsts rows x k p e ≡ fault_at R p e
      unfolding source_fault
      source_right (Ok Source.Local) h = local_tabled (source_of-is _ o h)
      source_right (Ok (Source.From x)) h =
          let (a, b, d) = source_of-is _ o h in
          let z : x ≡ suc (x - 1) = omega arith in
          ap (λ (y : ℕ). receipt_fault n m firsts rows p e y k) z ∙ receipt_tabled (x - 1) (sym a ∙ z)
      source_right (Err r) h = let (e, l) = source_of-is _ o h in rw e (unknown_tabled l)

      -- and by the origin
      pub table_right : table_fault n m firsts rows o k p e ≡ fault_at R p e
      table_right = sym (table_fault-source n m firsts rows o k p e tables.most hp (source_of o) refl) ∙ source_right (source_of o) refl
