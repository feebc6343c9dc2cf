-- The printed text of a reply, byte for byte: document 01, "The program". "Numbers are decimal, one space before each, each line ended by a newline."
-- In order: numbers; a line; the line of a refusal; the two lines of verdicts; a text in front of a room; the promise of an entry.
use Rattle.std.specs.Prelude.{◌≡◌, cond, List, [], ◌∷◌, ◌++◌, ℕ, zero, suc, ◌+◌, ◌/◌, ◌%◌, length, drop, leb, ltb, Option, Some, None}

-- the digits of x in decimal, with no leading zero, where k of them suffice
unfoldable pub decimal_to : ℕ → ℕ → List ℕ
decimal_to zero x = []
decimal_to (suc k) x = let front = decimal_to k (x / 10) in cond (ltb x 10) ((48 + x) ∷ []) (front ++ ((48 + x % 10) ∷ []))

-- x in decimal: 20 digits are more than a machine number has
abbrev pub decimal : ℕ → List ℕ
decimal x = decimal_to 20 x

-- "one space before each"
unfoldable pub numbers : List ℕ → List ℕ
numbers [] = []
numbers (x ∷ xs) = (32 ∷ decimal x) ++ numbers xs

abbrev pub newline : List ℕ
newline = 10 ∷ []

-- a line: a word, "numbers are decimal, one space before each", "each line ended by a newline"
unfoldable pub line : List ℕ → List ℕ → List ℕ
line word xs = word ++ numbers xs ++ newline

-- "refused"
abbrev pub refused_word : List ℕ
refused_word = 114 ∷ 101 ∷ 102 ∷ 117 ∷ 115 ∷ 101 ∷ 100 ∷ []

-- "poss yes", "poss no", "def yes", "def no"
abbrev pub poss_yes : List ℕ
poss_yes = 112 ∷ 111 ∷ 115 ∷ 115 ∷ 32 ∷ 121 ∷ 101 ∷ 115 ∷ []

abbrev pub poss_no : List ℕ
poss_no = 112 ∷ 111 ∷ 115 ∷ 115 ∷ 32 ∷ 110 ∷ 111 ∷ []

abbrev pub def_yes : List ℕ
def_yes = 100 ∷ 101 ∷ 102 ∷ 32 ∷ 121 ∷ 101 ∷ 115 ∷ []

abbrev pub def_no : List ℕ
def_no = 100 ∷ 101 ∷ 102 ∷ 32 ∷ 110 ∷ 111 ∷ []

-- "the single line `refused` with number, station, event"
unfoldable pub refused_text : ℕ → ℕ → ℕ → List ℕ
refused_text number station event = line refused_word (number ∷ station ∷ event ∷ [])

-- "`poss yes` with the n counts of the witness, or `poss no`"
unfoldable pub poss_text : Option (List ℕ) → List ℕ
poss_text (Some counts) = line poss_yes counts
poss_text None = line poss_no []

-- "then `def yes`, or `def no` with the T station numbers"
unfoldable pub def_text : Option (List ℕ) → List ℕ
def_text None = line def_yes []
def_text (Some path) = line def_no path

-- the two lines: the witness where Poss is yes, the path where Def is no
unfoldable pub verdict_text : Option (List ℕ) → Option (List ℕ) → List ℕ
verdict_text witness path = poss_text witness ++ def_text path

-- a room with a text in front; the room as it was where it is too short
unfoldable pub text_in : List ℕ → List ℕ → List ℕ
text_in text room = cond (leb (length text) (length room)) (text ++ drop (length text) room) room

-- the bytes of a text that a room has taken: its length, none where the room is too short
unfoldable pub taken_by : List ℕ → List ℕ → Option ℕ
taken_by text room = cond (leb (length text) (length room)) (Some (length text)) None

-- the promise of an entry: its reply and the room afterwards
pub record Printed (text before : List ℕ) (reply : Option ℕ) (after : List ℕ) : Type 0 where
  pub taken : reply ≡ taken_by text before
  pub room : after ≡ text_in text before
