-- How the functions of this crate put a text into a room, piece by piece: what their callers need of them, and no part of the promise.
use Rattle.std.specs.Prelude.{◌≡◌, List, ◌∷◌, ◌++◌, ℕ, ◌+◌, length, flat_map}
use Rattle.std.proofs.lemmas.List.Edits.{sets}
use Rattle.text.specs.Text.{newline}

-- the front of a line: a word, then items, each as `print` has it with a space before
unfoldable pub front_of : {X : Type 0} → (X → List ℕ) → List ℕ → List X → List ℕ
front_of print word xs = word ++ flat_map (λ x. 32 ∷ print x) xs

-- the line
unfoldable pub line_of : {X : Type 0} → (X → List ℕ) → List ℕ → List X → List ℕ
line_of print word xs = front_of print word xs ++ newline

-- a piece that was put at place `at`
pub record Written (bytes room : List ℕ) (at next : ℕ) (after : List ℕ) : Type 0 where
  -- the place behind it
  pub behind : next ≡ at + length bytes
  pub bytes_in : after ≡ sets room at bytes
