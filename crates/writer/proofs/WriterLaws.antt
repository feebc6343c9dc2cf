-- Laws of the writer's small steps. In order: a level's bits; signed numbers; the lists' lengths; all levels; the level's test.
-- Assumes nothing.
use mathlib.Core.Path.{◌≡◌, refl, sym, ap, ◌∙◌}
use mathlib.Core.Bool.{Bool, true, false, ◌&&◌, ◌||◌, not, cond}
use mathlib.Core.List.{List, [], ◌∷◌}
use Prim.Native.Nat.{ℕ, zero, suc, ◌*◌, ◌≤◌, ◌<◌}
use native.Mathlib.Decide.{dec_lt}
use native.Mathlib.Omega.{arith}
use lib.Dec.{leb, ltb}
use lib.IntN.{ℤ, pos}
use lib.ListN.{length, get_or}
use lib.Signed.{mag}
use mir.Syntax.{w16}
use mir.Val.{to_z, of_z}
use mir.Facts.{to_z-of_z}
use borrow.Author.Rules.{sfits_of}
use borrow.Author.Tests.{le-leb, lt-leb, lt-ltb, le-ltb}
use Rattle.std.specs.Prelude.{Ok, Err, is_some, Some, None}
use Rattle.std.specs.List.{list_any, list_all}
use Rattle.levels.specs.Level.{bits_of, is_level, field_of}
use Rattle.cuts.specs.Below.{every}
use Rattle.cuts.proofs.BelowLaws.{or_right, every_same}
use Rattle.refusal.specs.Refusal.{Tested}
use Rattle.recording.specs.Check.{test, fault_of}
use Rattle.refusal.specs.declared.Reason.{Reason}
use Rattle.writer.specs.Write.{Given, first_given, long_enough, not_longer, lengths_tests}
use Rattle.writer.specs.Tables.{level_put, before_level, level_fault}

-- the bits of a level are those that stand for it, and only a level has any
pub level_put-of : (v : ℤ) → is_level v ≡ true → level_put v ≡ bits_of 12 v
unfolding level_put field_of
level_put-of v h = rw h refl

pub level_some : (v : ℤ) → is_some (field_of v) ≡ is_level v
unfolding field_of
level_some v = elim (is_level v) as (λ b. is_some (cond b (Some (bits_of 12 v)) None) ≡ b) [ true ↦ refl | false ↦ refl ]

-- a signed number as the machine holds it
pub held_signed : (z : ℤ) → mag z < 32768 → to_z w16 (of_z w16 z) ≡ z
held_signed z h = to_z-of_z {w = w16} (sfits_of h)

-- what each list needs, and what it has
abbrev pub lengths_of : Given → ℕ → List (ℕ × ℕ)
lengths_of g t =
    (g.n, length g.counts) ∷ (g.n, length g.starts) ∷ (t, length g.origins) ∷ (t, length g.numbers) ∷ (t, length g.levels) ∷ (t * g.n, length g.stamps) ∷ []

below_not : (a b : ℕ) → ltb a b ≡ not (leb b a)
below_not a b = go (dec_lt a b)
  where
    go : Dec (a < b) → ltb a b ≡ not (leb b a)
    go (yes l) = rw (lt-ltb a b l, lt-leb b a l) refl
    go (no l) = let h : b ≤ a = omega arith in rw (le-ltb a b h, le-leb b a h) refl

none_of_six : (a b c d e f : Bool) → (not a || (not b || (not c || (not d || (not e || (not f || false)))))) ≡ not (a && b && c && d && e && f)
none_of_six false b c d e f = refl
none_of_six true false c d e f = refl
none_of_six true true false d e f = refl
none_of_six true true true false e f = refl
none_of_six true true true true false f = refl
none_of_six true true true true true false = refl
none_of_six true true true true true true = refl

pub some_short : (g : Given) (t : ℕ) → t ≡ first_given g g.n → list_any (λ l. ltb l.1 l.0) (lengths_of g t) ≡ not (long_enough g)
unfolding long_enough
some_short g t e =
    rw (← e) (simp below_not (none_of_six (leb g.n (length g.counts)) (leb g.n (length g.starts)) (leb t (length g.origins)) (leb t (length g.numbers)) (leb t (length g.levels)) (leb (t * g.n) (length g.stamps))))

pub some_longer : (g : Given) (t : ℕ) → t ≡ first_given g g.n → list_any (λ l. ltb l.0 l.1) (lengths_of g t) ≡ not (not_longer g)
unfolding not_longer
some_longer g t e =
    rw (← e) (simp below_not (none_of_six (leb (length g.counts) g.n) (leb (length g.starts) g.n) (leb (length g.origins) t) (leb (length g.numbers) t) (leb (length g.levels) t) (leb (length g.stamps) (t * g.n))))

-- .. so the first test of the lengths that fails
module _ (g : Given) (b : Bool) (short : b ≡ not (long_enough g)) where
  not_not : (x y : Bool) → x ≡ not y → y ≡ not x
  not_not x true e = rw e refl
  not_not x false e = rw e refl

  pub lengths_short : b ≡ true → Err Reason.TooShort ≡ fault_of (lengths_tests g)
  unfolding fault_of
  lengths_short h = rw (not_not _ _ short, h) refl

  module _ (fine : b ≡ false) (d : Bool) (longer : d ≡ not (not_longer g)) where
    pub lengths_longer : d ≡ true → Err Reason.TooLong ≡ fault_of (lengths_tests g)
    unfolding fault_of
    lengths_longer h = rw (not_not _ _ short, fine, not_not _ _ longer, h) refl

    pub lengths_just : d ≡ false → Ok tt ≡ fault_of (lengths_tests g)
    unfolding fault_of
    lengths_just h = rw (not_not _ _ short, fine, not_not _ _ longer, h) refl

-- a test of all items of a list
and_assoc : (a b c : Bool) → (a && b && c) ≡ (a && (b && c))
and_assoc true b c = refl
and_assoc false b c = refl

every_front : (n : ℕ) (f : ℕ → Bool) → every (suc n) f ≡ (f 0 && every n (λ p. f (suc p)))
unfolding every
every_front zero f = elim (f 0) as (λ b. b ≡ (b && true)) [ true ↦ refl | false ↦ refl ]
every_front (suc n) f = rw (every_front n f) (and_assoc (f 0) (every n (λ p. f (suc p))) (f (suc n)))

all_every : {A : Type 0} (f : A → Bool) (s : List A) (d : A) → list_all f s ≡ every (length s) (λ p. f (get_or s p d))
unfolding every
all_every f [] d = refl
all_every f (x ∷ xs) d = ap (λ (b : Bool). f x && b) (all_every f xs d) ∙ sym (every_front (length xs) (λ p. f (get_or (x ∷ xs) p d)))

pub all_levels : (s : List ℤ) → list_all (λ v. is_some (field_of v)) s ≡ every (length s) (λ p. is_level (get_or s p (pos 0)))
all_levels s = all_every (λ v. is_some (field_of v)) s (pos 0) ∙ every_same (length s) _ _ (λ p h. level_some (get_or s p (pos 0)))

-- the level's test, by what was found before it
pub level_passes : (f : Tested) (v : ℤ) → is_some (field_of v) ≡ true → level_fault f v ≡ f
unfolding level_fault
level_passes (Ok u) v h = rw (sym (level_some v) ∙ h) refl
level_passes (Err k) v h = rw (sym (level_some v) ∙ h) refl

pub level_found : (k : Reason) (v : ℤ) → before_level k ≡ true → level_fault (Err k) v ≡ Err k
unfolding level_fault
level_found k v h = rw (h, or_right (is_level v) true refl) refl

pub level_fails : (k : Reason) (v : ℤ) → is_some (field_of v) ≡ false → before_level k ≡ false → level_fault (Err k) v ≡ Err Reason.Level
unfolding level_fault
level_fails k v h g = rw (sym (level_some v) ∙ h, g) refl

pub level_alone : (u : Unit {0}) (v : ℤ) → is_some (field_of v) ≡ false → level_fault (Ok u) v ≡ Err Reason.Level
unfolding level_fault
level_alone u v h = rw (sym (level_some v) ∙ h) refl

-- where the level's test stands among the others
pub level_between : (a b d : Bool) (v : ℤ)
    → level_fault (fault_of (test Reason.Origin a ∷ test Reason.Number b ∷ test Reason.Stamp d ∷ [])) v
    ≡ fault_of (test Reason.Origin a ∷ test Reason.Number b ∷ test Reason.Level (is_level v) ∷ test Reason.Stamp d ∷ [])
unfolding fault_of level_fault before_level
level_between false b d v = rw (or_right (is_level v) true refl) refl
level_between true false d v = rw (or_right (is_level v) true refl) refl
level_between true true false v = elim (is_level v) as (λ l. cond {A = Tested} (l || false) (Err Reason.Stamp) (Err Reason.Level) ≡ cond l (Err Reason.Stamp) (Err Reason.Level)) [ true ↦ refl | false ↦ refl ]
level_between true true true v = refl
