-- A text that a room has place for is taken whole, and one more byte behind it where there is place for that too. Assumes nothing.
use mathlib.Core.Path.{◌≡◌, refl, sym}
use mathlib.Core.List.{List, [], ◌∷◌, ◌++◌}
use Prim.Native.Nat.{ℕ, ◌+◌, ◌≤◌, ◌<◌}
use native.Mathlib.Numerals.{add-one}
use native.Mathlib.Omega.{arith}
use lib.ListN.{length, take, drop, set, length-append, length-drop, length-set}
use lib.Seq.{length-take-le, take-suc-set}
use borrow.Author.Tests.{le-leb}
use Rattle.std.specs.Prelude.{Option, Some, IsSome}
use Rattle.cuts.proofs.ReplyLaws.{replies_equal}
use Rattle.text.specs.Text.{text_in, Printed}
use Rattle.text.proofs.TextRight.{printed_length, printed_front}

-- a front of n is within the list, and has n elements
abbrev pub IsPrefixLen : ℕ → List ℕ → Type 0
IsPrefixLen n xs = (n ≤ length xs) × (n ≡ length (take n xs))

pub counts_within : (r : ℕ) (l : List ℕ) → r ≤ length l → IsPrefixLen r l
counts_within r l h = (h, sym (length-take-le r l h))

module _ (text room after : List ℕ) (fits : length text ≤ length room) where
  -- so a text is put
  pub text_put : (r : Option ℕ) → Printed text room r after → IsSome r
  text_put r put = rw (printed_length fits put) refl

  module _ (r : ℕ) (put : Printed text room (Some r) after) where
    length_whole : r ≡ length text
    length_whole = let e : ◌≡◌ {A = Option ℕ} (Some r) (Some (length text)) = printed_length fits put in cc

    pub length_after : length after ≡ length room
    unfolding text_in
    length_after = rw (put.room, le-leb (length text) (length room) fits) (omega (arith, length-append text (drop (length text) room), length-drop (length text) room))

    pub taken_whole : ((r ≡ length text) × (take r after ≡ text)) × IsPrefixLen r after
    taken_whole = ((length_whole, printed_front fits put), counts_within r after (omega (arith, length_whole, length_after)))

-- with a byte b behind the text
module _ (text room after : List ℕ) (fits : length text < length room) (r : ℕ) (put : Printed text room (Some r) after) where
  pub place_behind : r < length after
  place_behind = let whole = taken_whole text room after (omega arith) r put in omega (arith, whole.0.0, length_after text room after (omega arith) r put)

  pub byte_behind : (b : ℕ) → (take (r + 1) (set after r b) ≡ text ++ (b ∷ [])) × IsPrefixLen (r + 1) (set after r b)
  byte_behind b =
      let whole = taken_whole text room after (omega arith) r put in
      (rw (add-one r, sym whole.0.1) (take-suc-set after r b place_behind), counts_within (r + 1) (set after r b) (omega (arith, place_behind, length-set after r b)))

-- what `printed` permits is one length and one room
pub whole_unique : (text before : List ℕ) (r r' : ℕ) (after after' : List ℕ) → r ≡ length text → r' ≡ length text → after ≡ text_in text before → after' ≡ text_in text before
    → (r ≡ r') × (after ≡ after')
whole_unique text before r r' after after' e e' f f' = (replies_equal e e', replies_equal f f')
