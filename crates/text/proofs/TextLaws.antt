-- Texts put into a room piece by piece. In order: bytes stored one after the other; a piece behind a piece, bytes that are copied;
-- the front of a line, one item more, and the newline behind it; the promise of an entry where the text fits, and where not. Assumes nothing.
use mathlib.Core.Path.{◌≡◌, refl, sym, ap, ◌∙◌}
use mathlib.Core.List.{List, [], ◌∷◌, ◌++◌, append_assoc}
use Prim.Native.Nat.{ℕ, suc, ◌+◌, ◌≤◌, ◌<◌}
use native.Mathlib.Nat.{add-zero, zero-add}
use native.Mathlib.Omega.{arith}
use lib.ListN.{length, get_or, set, take, drop, length-append}
use lib.Seq.{sets, length-sets, sets-eq, take_all}
use borrow.Author.Tests.{le-leb, lt-leb}
use borrow.Rule.Slice.PartMut.{put_mid}
use Rattle.std.specs.Prelude.{Some, None, flat_map}
use Rattle.std.proofs.lemmas.List.{drop-drop, take_more, flat_map_more}
use Rattle.std.proofs.lemmas.List.Folds.{length-flat_map-take}
use Rattle.text.specs.Text.{newline, text_in, taken_by, Printed}
use Rattle.text.specs.Written.{front_of, line_of, Written}

-- bytes stored behind bytes, and in front of a room
sets_append : (room : List ℕ) (at : ℕ) (xs ys : List ℕ) → sets (sets room at xs) (at + length xs) ys ≡ sets room at (xs ++ ys)
sets_append room at [] ys = rw (add-zero at) refl
sets_append room at (x ∷ xs) ys =
    let e : at + suc (length xs) ≡ suc at + length xs = omega arith in
    rw e (sets_append (set room at x) (suc at) xs ys)

sets_front : (text room : List ℕ) → length text ≤ length room → sets room 0 text ≡ text ++ drop (length text) room
sets_front text room h = simp zero-add at (sets-eq text room 0 (omega arith))

pub written_length : {bytes room after : List ℕ} {at next : ℕ} → Written bytes room at next after → length after ≡ length room
written_length {bytes} {room} {after} {at} w = ap length w.bytes_in ∙ length-sets room at bytes

-- a piece behind a piece
pub written_then : {xs ys r₀ r₁ r₂ : List ℕ} {at mid next : ℕ} → Written xs r₀ at mid r₁ → Written ys r₁ mid next r₂ → Written (xs ++ ys) r₀ at next r₂
written_then {xs} {ys} {r₀} {r₁} {r₂} {at} v w = record {
  behind = w.behind ∙ rw (v.behind, length-append xs ys) (omega arith);
  bytes_in = w.bytes_in ∙ rw (v.bytes_in, v.behind) (sets_append r₀ at xs ys);
}

-- bytes that are copied over as many
pub written_copy : (room bytes copy : List ℕ) (at k : ℕ) → at + length bytes ≤ length room → k ≡ length bytes → copy ≡ bytes
    → Written bytes room at (at + length bytes) (put_mid at k room copy)
written_copy room bytes copy at k h e f = record { behind = refl; bytes_in = rw (f, e, sets-eq bytes room at h, append_assoc, drop-drop) refl }

pub length_line_of : {X : Type 0} (print : X → List ℕ) (word : List ℕ) (xs : List X) → length (line_of print word xs) ≡ length (front_of print word xs) + 1
unfolding line_of
length_line_of print word xs = length-append (front_of print word xs) newline

pub length_word : {X : Type 0} (print : X → List ℕ) (word : List ℕ) (xs : List X) → length word ≤ length (front_of print word xs)
unfolding front_of
length_word print word xs = rw (length-append word (flat_map (λ x. 32 ∷ print x) xs)) (omega arith)

-- the front of a line, and one item x more
module _ {X : Type 0} (print : X → List ℕ) (word : List ℕ) (xs : List X) (i : ℕ) (x : X) (h : i < length xs) (e : x ≡ get_or xs i x) where
  front_more : front_of print word (take (i + 1) xs) ≡ front_of print word (take i xs) ++ (32 ∷ print x)
  unfolding front_of
  front_more = rw (take_more xs i x h, ← e) (sym (flat_map_more (λ y. 32 ∷ print y) word (take i xs) x))

  length_front_more : length (front_of print word (take (i + 1) xs)) ≡ length (front_of print word (take i xs)) + suc (length (print x))
  length_front_more = rw front_more (length-append (front_of print word (take i xs)) (32 ∷ print x))

  -- the line has them all
  line_has : length (front_of print word (take i xs)) + suc (length (print x)) + 1 ≤ length (line_of print word xs)
  unfolding front_of
  line_has =
      let l = rw (← e) at (length-flat_map-take (λ y. 32 ∷ print y) xs i x h) in
      omega (arith, length_line_of print word xs, length-append word (flat_map (λ y. 32 ∷ print y) (take i xs)), length-append word (flat_map (λ y. 32 ∷ print y) xs), l)

  -- taken away from what is left of as many bytes: the line has more, where the item has more than are left
  pub line_over : {left all : ℕ} → left + (length (front_of print word (take i xs)) + 1) ≡ all → left < suc (length (print x)) → all < length (line_of print word xs)
  line_over k l = omega (arith, line_has)

  pub line_less : {left all : ℕ} (rest : ℕ) → left + (length (front_of print word (take i xs)) + 1) ≡ all → rest + suc (length (print x)) ≡ left
      → rest + (length (front_of print word (take (i + 1) xs)) + 1) ≡ all
  line_less rest k l = omega (arith, length_front_more)

  -- put into a room: where the line fits, so does the item
  pub item_fits : {r₀ r₁ : List ℕ} {at next : ℕ} → Written (front_of print word (take i xs)) r₀ at next r₁ → at + length (line_of print word xs) ≤ length r₀
      → next + suc (length (print x)) ≤ length r₁
  item_fits w k = rw (written_length w) (omega (arith, w.behind, line_has))

  pub line_then : {r₀ r₁ r₂ r₃ : List ℕ} {at mid mid' next : ℕ} → Written (front_of print word (take i xs)) r₀ at mid r₁ → Written (32 ∷ []) r₁ mid mid' r₂
      → Written (print x) r₂ mid' next r₃ → Written (front_of print word (take (i + 1) xs)) r₀ at next r₃
  line_then u v w = rw front_more (written_then u (written_then v w))

-- behind all items the newline fits, and ends the line
module _ {X : Type 0} (print : X → List ℕ) (word : List ℕ) (xs : List X) (i : ℕ) (h : length xs ≤ i) where
  pub line_left : (left : ℕ) {all : ℕ} → left + (length (front_of print word (take i xs)) + 1) ≡ all → left + length (line_of print word xs) ≡ all
  line_left left k = omega (arith, length_line_of print word xs, rw (take_all i xs h) at k)

  pub newline_fits : {r₀ r₁ : List ℕ} {at next : ℕ} → Written (front_of print word (take i xs)) r₀ at next r₁ → at + length (line_of print word xs) ≤ length r₀
      → next + 1 ≤ length r₁
  newline_fits w k = rw (written_length w) (omega (arith, (rw (take_all i xs h) at w).behind, length_line_of print word xs))

  pub line_ended : {r₀ r₁ r₂ : List ℕ} {at mid next : ℕ} → Written (front_of print word (take i xs)) r₀ at mid r₁ → Written newline r₁ mid next r₂
      → Written (line_of print word xs) r₀ at next r₂
  unfolding line_of
  line_ended v w = written_then (rw (take_all i xs h) at v) w

-- a text that fits is printed whole
pub printed_whole : {text room after : List ℕ} {reply : ℕ} → length text ≤ length room → Written text room 0 reply after → Printed text room (Some reply) after
unfolding text_in taken_by
printed_whole {text} {room} h w = record {
  taken = rw (le-leb (length text) (length room) h) (ap Some (w.behind ∙ zero-add (length text)));
  room = rw (le-leb (length text) (length room) h) (w.bytes_in ∙ sets_front text room h);
}

-- one that does not fit changes nothing
pub printed_none : (text room : List ℕ) → length room < length text → Printed text room None room
unfolding text_in taken_by
printed_none text room h = record { taken = rw (lt-leb (length text) (length room) h) refl; room = rw (lt-leb (length text) (length room) h) refl }
