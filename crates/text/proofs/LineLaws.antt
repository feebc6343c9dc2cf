-- The lines of a reply. In order: their lengths; a line as the code puts it; the two lines where both fit and where not.
-- Assumes nothing.
use mathlib.Core.Path.{◌≡◌, refl, sym}
use mathlib.Core.List.{List, [], ◌∷◌, ◌++◌}
use Prim.Native.Nat.{ℕ, zero, suc, ◌+◌, ◌≤◌, ◌<◌}
use native.Mathlib.Omega.{arith}
use lib.ListN.{length, get_or, length-append}
use Rattle.std.specs.Prelude.{Option, Some, None}
use Rattle.std.specs.Fmt as digits
use Rattle.text.specs.Text.{numbers, newline, line, refused_word, poss_yes, poss_no, def_yes, def_no, refused_text, poss_text, def_text, verdict_text, Printed}
use Rattle.text.specs.Written.{front_of, line_of, Written}
use Rattle.text.proofs.DecimalLaws.{numbers_std}
use Rattle.text.proofs.TextLaws.{written_then, printed_whole, printed_none}

pub length_line : (word xs : List ℕ) → length (line word xs) ≡ length word + length (numbers xs) + 1
unfolding line
length_line word xs = rw (length-append (word ++ numbers xs) newline, length-append word (numbers xs)) refl

pub length_refused : (number station event : ℕ) → length (refused_text number station event) ≡ 7 + length (numbers (number ∷ station ∷ event ∷ [])) + 1
unfolding refused_text
length_refused number station event = length_line refused_word (number ∷ station ∷ event ∷ [])

pub length_poss_yes : (witness : List ℕ) → length (poss_text (Some witness)) ≡ 8 + length (numbers witness) + 1
unfolding poss_text
length_poss_yes witness = length_line poss_yes witness

pub length_poss_no : length (poss_text None) ≡ 8
unfolding poss_text line numbers
length_poss_no = refl

pub length_def_yes : length (def_text None) ≡ 8
unfolding def_text line numbers
length_def_yes = refl

pub length_def_no : (path : List ℕ) → length (def_text (Some path)) ≡ 7 + length (numbers path)
unfolding def_text
length_def_no path = omega (arith, length_line def_no path)

pub length_verdict : (witness path : Option (List ℕ)) → length (verdict_text witness path) ≡ length (poss_text witness) + length (def_text path)
unfolding verdict_text
length_verdict witness path = length-append (poss_text witness) (def_text path)

-- a line as the code puts it, of machine numbers
pub line_is : (word xs : List ℕ) → ((i : ℕ) → get_or xs i 0 < 65536) → line_of digits.decimal word xs ≡ line word xs
unfolding line_of front_of line
line_is word xs h = rw (numbers_std xs h) refl

pub poss_no_line : line_of digits.decimal poss_no [] ≡ poss_text None
unfolding line_of front_of poss_text line numbers
poss_no_line = refl

pub def_yes_line : line_of digits.decimal def_yes [] ≡ def_text None
unfolding line_of front_of def_text line numbers
def_yes_line = refl

-- the line of a refusal, by the numbers that it has
pub refused_line : {a b number station : ℕ} (event : ℕ) → a ≡ number → b ≡ station → number < 65536 → station < 65536 → event < 65536
    → refused_text number station event ≡ line_of digits.decimal refused_word (a ∷ b ∷ event ∷ [])
unfolding refused_text
refused_line {a} {b} event e f ha hb he = rw (← e, ← f) (sym (line_is refused_word (a ∷ b ∷ event ∷ []) small))
  where
    small : (i : ℕ) → get_or (a ∷ b ∷ event ∷ []) i 0 < 65536
    small zero = rw e ha
    small (suc zero) = rw f hb
    small (suc (suc zero)) = he
    small (suc (suc (suc i))) = omega arith

-- the two lines, each where it stands in the room
pub verdict_whole : (witness path : Option (List ℕ)) {poss def r₀ r₁ r₂ : List ℕ} {next reply : ℕ} → poss ≡ poss_text witness → def ≡ def_text path
    → length poss + length def ≤ length r₀ → Written poss r₀ 0 next r₁ → Written def r₁ next reply r₂ → Printed (verdict_text witness path) r₀ (Some reply) r₂
unfolding verdict_text
verdict_whole witness path e f h v w = rw (← e, ← f) (printed_whole (rw length-append h) (written_then v w))

-- where not both fit
pub verdict_none : (witness path : Option (List ℕ)) (room : List ℕ) {poss def : List ℕ} → poss ≡ poss_text witness → def ≡ def_text path
    → length room < length poss + length def → Printed (verdict_text witness path) room None room
verdict_none witness path room e f h = printed_none _ room (rw (length_verdict, ← e, ← f) h)
