-- Laws of the bit reader. In order: what a take that found nothing, and one that found a field, say of the reader; what is left; the
-- place stored makes the moved reader; no two replies. Assumes nothing.
use mathlib.Core.Path.{◌≡◌, refl, sym, ◌∙◌}
use mathlib.Core.List.{List}
use Prim.Native.Nat.{ℕ, ◌+◌, ◌≤◌}
use denote.Ref.{Bor}
use Rattle.bits.specs.Bits.{field, peeked, taken_of, place_after, moved, Takes, left_of}
use Rattle.bits.specs.declared.BitReader.{BitReader}
use Rattle.std.proofs.Common.{Option, Some, None}
use Rattle.bits.proofs.BitsLaws.{peeked_field, taken_of-none, taken_of-field, taken_of-some, left_of-fits, fits-left_of}
use Rattle.cuts.proofs.ReplyLaws.{replies_equal}

-- "takes none and says so": the reader is then unchanged
pub takes_nothing : (r : BitReader) (k : ℕ) (after : BitReader) → Takes r k None after → after ≡ r
unfolding moved place_after
takes_nothing r k after t = t.reader ∙ rw (sym t.said) refl

-- a field that was taken lies before the reader's new place, in the same bytes
pub takes_field : (r : BitReader) (k v : ℕ) (after : BitReader) → Takes r k (Some v) after
    → (v ≡ field r.bytes.now r.taken k) × (after ≡ record { bytes = r.bytes; taken = r.taken + k })
unfolding moved place_after
takes_field r k v after t = ((taken_of-field r.bytes.now r.taken k v t.said).0, t.reader ∙ rw (sym t.said) refl)

-- 1 to 16 bits are taken exactly if they are left: this way ..
pub left_taken : (s : List ℕ) (at k : ℕ) → 1 ≤ k → k ≤ 16 → k ≤ left_of s at → taken_of s at k ≡ Some (field s at k)
left_taken s at k h₁ h₂ h₃ = sym (taken_of-some s at k h₁ h₂ (left_of-fits s at k h₁ h₃))

-- .. and the other
pub taken_left : (s : List ℕ) (at k v : ℕ) → taken_of s at k ≡ Some v → k ≤ left_of s at
taken_left s at k v e = fits-left_of s at k (taken_of-field s at k v (sym e)).3

-- a take by tests of the width and of what is left: no field ..
pub takes_none : (r : BitReader) (k : ℕ) → (1 ≤ k → k ≤ 16 → k ≤ left_of r.bytes.now r.taken → ⊥) → Takes r k None r
unfolding moved place_after
takes_none r k h =
    let e = taken_of-none r.bytes.now r.taken k (λ h₁ h₂ h₃. h h₁ h₂ (fits-left_of r.bytes.now r.taken k h₃)) in
    record { said = e; reader = rw (← e) refl }

-- .. and a field, where the reader moves past the bits that were looked at
pub takes_some : (r : BitReader) (k v : ℕ) → 1 ≤ k → k ≤ 16 → k ≤ left_of r.bytes.now r.taken → v ≡ peeked r.bytes.now r.taken k
    → Takes r k (Some v) (record { bytes = r.bytes; taken = r.taken + k })
unfolding moved place_after
takes_some r k v h₁ h₂ h₃ e =
    let t = left_taken r.bytes.now r.taken k h₁ h₂ h₃ in
    record { said = rw (e, peeked_field r.bytes.now r.taken k h₂) (sym t); reader = rw t refl }

-- the reader that `new` makes is the one of those bytes and that number
pub made_is : (s : Bor (List ℕ)) (n : ℕ) (r : BitReader) → (r.bytes ≡ s) × (r.taken ≡ n) → r ≡ record { bytes = s; taken = n }
made_is s n r e i = record { bytes = e.0 i; taken = e.1 i }

pub new_unique : (s : Bor (List ℕ)) (n : ℕ) (r r' : BitReader) → (r.bytes ≡ s) × (r.taken ≡ n) → (r'.bytes ≡ s) × (r'.taken ≡ n)
    → r ≡ r'
new_unique s n r r' e f = replies_equal (made_is s n r e) (made_is s n r' f)

pub look_unique : (r : BitReader) (k v v' : ℕ) → v ≡ peeked r.bytes.now r.taken k → v' ≡ peeked r.bytes.now r.taken k
    → v ≡ v'
look_unique r k v v' = replies_equal

-- one reply, and one reader after it
pub takes_unique : (r : BitReader) (k : ℕ) (t t' : Option ℕ) (after after' : BitReader) → Takes r k t after → Takes r k t' after'
    → (t ≡ t') × (after ≡ after')
takes_unique r k t t' after after' p q = (replies_equal p.said q.said, replies_equal p.reader q.reader)

pub left_unique : (r : BitReader) (n n' : ℕ) → n ≡ left_of r.bytes.now r.taken → n' ≡ left_of r.bytes.now r.taken → n ≡ n'
left_unique r n n' = replies_equal
