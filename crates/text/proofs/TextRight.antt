-- What a reader wants of the printed text. In order: two replies of an entry are equal, and where the text fits its bytes are in front;
-- texts of document 01 by computation; a number is read back from its digits, and digits beyond those that suffice change nothing;
-- how long a text can be. Assumes nothing.
use mathlib.Core.Path.{◌≡◌, refl, sym, ◌∙◌}
use mathlib.Core.List.{List, [], ◌∷◌, ◌++◌}
use Prim.Native.Nat.{ℕ, zero, suc, ◌+◌, ◌-◌, ◌*◌, ◌/◌, ◌^◌, ◌≤◌, ◌<◌}
use native.Mathlib.Nat.{pow-suc, pow-le-pow_right, add-zero, add-suc}
use native.Mathlib.Decide.{dec_lt}
use native.Mathlib.Omega.{arith}
use lib.Dec.{lit<}
use lib.ListN.{length, get_or, take, drop, length-append}
use lib.Seq.{take_at}
use borrow.Author.Tests.{le-leb}
use Rattle.std.specs.Prelude.{Option, Some, None, option_map, unwrap_or}
use Rattle.cut.specs.Value.{counts_of}
use Rattle.cut.specs.declared.Cut.{Cut}
use Rattle.text.specs.Text.{decimal_to, decimal, numbers, line, refused_text, poss_text, def_text, verdict_text, text_in, taken_by, Printed}
use Rattle.text.proofs.DecimalLaws.{decimal_to-digit, decimal_to-tens, decimal_to-more, length-decimal_to}
use Rattle.text.proofs.LineLaws.{length_refused, length_poss_yes, length_poss_no, length_def_yes, length_def_no, length_verdict}

-- one reply, and one room after it
pub printed_unique : {text before after after' : List ℕ} {r r' : Option ℕ} → Printed text before r after → Printed text before r' after'
    → (r ≡ r') × (after ≡ after')
printed_unique p q = (p.taken ∙ sym q.taken, p.room ∙ sym q.room)

pub refused_unique : (number station event : ℕ) (before after after' : List ℕ) (r r' : Option ℕ) → Printed (refused_text number station event) before r after
    → Printed (refused_text number station event) before r' after' → (r ≡ r') × (after ≡ after')
refused_unique number station event before after after' r r' p q = printed_unique p q

pub verdicts_unique : (witness : Option Cut) (path : Option (List ℕ)) (before after after' : List ℕ) (r r' : Option ℕ)
    → Printed (verdict_text (option_map counts_of witness) path) before r after
    → Printed (verdict_text (option_map counts_of witness) path) before r' after' → (r ≡ r') × (after ≡ after')
verdicts_unique witness path before after after' r r' p q = printed_unique p q

-- where the text fits, the reply is its length, and the bytes that it counts are the text
pub printed_length : {text before after : List ℕ} {r : Option ℕ} → length text ≤ length before → Printed text before r after → r ≡ Some (length text)
unfolding taken_by
printed_length {text} {before} h p = rw (le-leb (length text) (length before) h) at p.taken

pub printed_front : {text before after : List ℕ} {r : ℕ} → length text ≤ length before → Printed text before (Some r) after → take r after ≡ text
unfolding text_in
printed_front {text} {before} {after} {r} h p =
    let f : ◌≡◌ {A = Option ℕ} (Some r) (Some (length text)) = printed_length h p in
    let l : r ≡ length text = cc in
    rw (l, p.room, le-leb (length text) (length before) h) (take_at text (drop (length text) before) (length text) refl)

-- the whole example of document 01: "poss yes 1 0", "def yes"
pub text_example : verdict_text (Some (1 ∷ 0 ∷ [])) None
    ≡ 112 ∷ 111 ∷ 115 ∷ 115 ∷ 32 ∷ 121 ∷ 101 ∷ 115 ∷ 32 ∷ 49 ∷ 32 ∷ 48 ∷ 10 ∷ 100 ∷ 101 ∷ 102 ∷ 32 ∷ 121 ∷ 101 ∷ 115 ∷ 10 ∷ []
unfolding verdict_text poss_text def_text line numbers decimal_to
text_example = refl

-- settled example 3: "poss yes 1 0", "def no 2 1"
pub text_path : verdict_text (Some (1 ∷ 0 ∷ [])) (Some (2 ∷ 1 ∷ []))
    ≡ 112 ∷ 111 ∷ 115 ∷ 115 ∷ 32 ∷ 121 ∷ 101 ∷ 115 ∷ 32 ∷ 49 ∷ 32 ∷ 48 ∷ 10 ∷ 100 ∷ 101 ∷ 102 ∷ 32 ∷ 110 ∷ 111 ∷ 32 ∷ 50 ∷ 32 ∷ 49 ∷ 10 ∷ []
unfolding verdict_text poss_text def_text line numbers decimal_to
text_path = refl

-- settled example 8, whose path is empty: "poss no", "def no"
pub text_none : verdict_text None (Some []) ≡ 112 ∷ 111 ∷ 115 ∷ 115 ∷ 32 ∷ 110 ∷ 111 ∷ 10 ∷ 100 ∷ 101 ∷ 102 ∷ 32 ∷ 110 ∷ 111 ∷ 10 ∷ []
unfolding verdict_text poss_text def_text line numbers decimal_to
text_none = refl

-- settled example 9: "refused 7 2 1"
pub text_refused : refused_text 7 2 1 ≡ 114 ∷ 101 ∷ 102 ∷ 117 ∷ 115 ∷ 101 ∷ 100 ∷ 32 ∷ 55 ∷ 32 ∷ 50 ∷ 32 ∷ 49 ∷ 10 ∷ []
unfolding refused_text line numbers decimal_to
text_refused = refl

-- the longest count
pub text_digits : decimal 65535 ≡ 54 ∷ 53 ∷ 53 ∷ 51 ∷ 53 ∷ []
unfolding decimal_to
text_digits = refl

-- the number that digits behind n say
unfoldable pub read : ℕ → List ℕ → ℕ
read n [] = n
read n (d ∷ ds) = read (n * 10 + (d - 48)) ds

read_append : (n : ℕ) (ds es : List ℕ) → read n (ds ++ es) ≡ read (read n ds) es
unfolding read
read_append n [] es = refl
read_append n (d ∷ ds) es = read_append (n * 10 + (d - 48)) ds es

-- a number is read back from its digits
pub read-decimal_to : (k x : ℕ) → x < 10 ^ suc k → read 0 (decimal_to (suc k) x) ≡ x
unfolding read
read-decimal_to zero x h = rw (decimal_to-digit 0 x (omega (arith, pow-suc 10 0))) (omega arith)
read-decimal_to (suc k) x h = go (dec_lt x 10) (read-decimal_to k (x / 10) (omega (arith, pow-suc 10 (suc k))))
  where
    go : Dec (x < 10) → read 0 (decimal_to (suc k) (x / 10)) ≡ x / 10 → read 0 (decimal_to (suc (suc k)) x) ≡ x
    go (yes l) ih = rw (decimal_to-digit (suc k) x l) (omega arith)
    go (no l) ih = rw (decimal_to-tens (suc k) x (omega arith), read_append, ih) (omega arith)

pub read_decimal : (x : ℕ) → x < 10 ^ 20 → read 0 (decimal x) ≡ x
read_decimal x h = read-decimal_to 19 x h

-- any number of digits that suffice
pub decimal_enough : (d k x : ℕ) → x < 10 ^ suc k → decimal_to (suc (k + d)) x ≡ decimal_to (suc k) x
decimal_enough zero k x h = rw (add-zero k) refl
decimal_enough (suc d) k x h =
    rw (add-suc k d) (decimal_to-more (k + d) x (omega (arith, pow-le-pow_right {n = 10} (lit< tt) {i = suc k} {j = suc (k + d)} (omega arith))) ∙ decimal_enough d k x h)

-- numbers below 10 to the power k + 1 have at most k + 2 bytes each
pub length_numbers : (k : ℕ) (xs : List ℕ) → ((i : ℕ) → get_or xs i 0 < 10 ^ suc k) → length (numbers xs) ≤ (k + 2) * length xs
unfolding numbers
length_numbers k [] h = omega arith
length_numbers k (x ∷ xs) h =
    let l = length_numbers k xs (λ i. h (suc i)) in
    let d : length (decimal x) ≤ suc k = length-decimal_to 20 k x (h 0) in
    rw (length-append (32 ∷ decimal x) (numbers xs)) (omega arith)

-- what the rooms of the program have to hold: the line of a refusal, and the two lines of verdicts
pub refused_bound : (number station event : ℕ) → number < 256 → station < 256 → event < 65536 → length (refused_text number station event) ≤ 24
unfolding numbers
refused_bound number station event h₁ h₂ h₃ =
    let d₁ : length (decimal number) ≤ 3 = length-decimal_to 20 2 number (omega arith) in
    let d₂ : length (decimal station) ≤ 3 = length-decimal_to 20 2 station (omega arith) in
    let d₃ : length (decimal event) ≤ 5 = length-decimal_to 20 4 event (omega arith) in
    rw (length_refused number station event) (simp length-append (omega arith))

pub text_bound : (witness path : Option (List ℕ)) → length (unwrap_or witness []) ≤ 8 → ((i : ℕ) → get_or (unwrap_or witness []) i 0 < 1000)
    → ((i : ℕ) → get_or (unwrap_or path []) i 0 < 10) → length (verdict_text witness path) ≤ 60 + 2 * length (unwrap_or path [])
text_bound witness path l hw hp = rw length_verdict (omega (arith, first witness l hw, second path hp))
  where
    first : (witness : Option (List ℕ)) → length (unwrap_or witness []) ≤ 8 → ((i : ℕ) → get_or (unwrap_or witness []) i 0 < 1000) → length (poss_text witness) ≤ 41
    first (Some counts) l h = rw (length_poss_yes counts) (omega (arith, length_numbers 2 counts h))
    first None l h = omega (arith, length_poss_no)

    second : (path : Option (List ℕ)) → ((i : ℕ) → get_or (unwrap_or path []) i 0 < 10) → length (def_text path) ≤ 8 + 2 * length (unwrap_or path [])
    second None h = omega (arith, length_def_yes)
    second (Some stations) h = rw (length_def_no stations) (omega (arith, length_numbers 0 stations h))
